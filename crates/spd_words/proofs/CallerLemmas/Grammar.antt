-- Words are one command, or one fault, and not both.
use Rattle.std.proofs.Common.{◌≡◌, ◌∙◌, ℕ, Bool, true, false, ◌⊎◌, inl, inr, ◌≤◌, length, get_or, drop, arith, List, [], ◌∷◌, ◌++◌, Option, Some, None, Result, Ok, Err, refl, sym, ap, subst, append_assoc}
use Rattle.std.proofs.lemmas.List.{append-nil}
use Rattle.std.specs.Prelude.{IsTrue, MatchBool, IfOk, IfErr}
use Rattle.spd_words.specs.declared.verb.Verb.{Verb}
use Rattle.spd_words.specs.declared.given.Given.{Given}
use Rattle.spd_words.specs.declared.said.Said.{Said}
use Rattle.spd_words.specs.declared.command.Command.{Command}
use Rattle.spd_words.specs.declared.fault.WordsFault.{WordsFault}
use Rattle.spd_words.specs.declared.fault.WordsFault.TheVariants.{Usage}
use Rattle.spd_words.specs.Verbs.{verb_named}
use Rattle.spd_words.specs.Values.{with_value}
use Rattle.spd_words.specs.Pieces.{Piece, operand, option, value, no_value, end, place_of, pieces_of}
use Rattle.spd_words.specs.Standing.{can_stand, stands, operands_in, given_in, given_after, AllStand, FirstFault}
use Rattle.spd_words.specs.Commands.{IsCommand, IsUsage, IsFault, meaning, command_from}
use Rattle.spd_words.specs.Inner.Judging.{with_piece, judged_piece, judged, Stops, nothing_said}
use Rattle.spd_words.proofs.Judged.{judged-next, judged-stop}

-- ---- the first fault, by cases

-- the first of the pieces that can't stand, the first of them behind those before, is in the word of this number
abbrev pub Faulty : List (List ℕ) → Verb → List Piece → List Piece → ℕ → Type 0
Faulty words verb before [] word = ⊥
Faulty words verb before (piece ∷ pieces) word =
    MatchBool (stands words verb before piece) (Faulty words verb (before ++ piece ∷ []) pieces word) (word ≡ place_of piece)

-- pieces of which those in front can stand behind those before, and the next can't
record Parted (words : List (List ℕ)) (verb : Verb) (before pieces : List Piece) (word : ℕ) : Type 0 where
  front : List Piece
  faulty : Piece
  back : List Piece
  whole : pieces ≡ front ++ faulty ∷ back
  stand : AllStand words verb before front
  fault : stands words verb (before ++ front) faulty ≡ false
  place : word ≡ place_of faulty

parted_here : (words : List (List ℕ)) (verb : Verb) (before : List Piece) (p : Piece) (ps : List Piece) (word : ℕ)
    → stands words verb before p ≡ false → word ≡ place_of p → Parted words verb before (p ∷ ps) word
parted_here words verb before p ps word e is =
    record { front = []; faulty = p; back = ps; whole = refl; stand = tt; fault = ap (λ (b : List Piece). stands words verb b p) (append-nil before) ∙ e; place = is }

parted_later : (words : List (List ℕ)) (verb : Verb) (before : List Piece) (p : Piece) (ps : List Piece) (word : ℕ)
    → stands words verb before p ≡ true → Parted words verb (before ++ p ∷ []) ps word → Parted words verb before (p ∷ ps) word
parted_later words verb before p ps word e h =
    record {
      front = p ∷ h.front;
      faulty = h.faulty;
      back = h.back;
      whole = ap (λ (qs : List Piece). p ∷ qs) h.whole;
      stand = (e, h.stand);
      fault = ap (λ (b : List Piece). stands words verb b h.faulty) (sym (append_assoc before (p ∷ []) h.front)) ∙ h.fault;
      place = h.place;
    }

parted_step : (words : List (List ℕ)) (verb : Verb) (before : List Piece) (p : Piece) (ps : List Piece) (word : ℕ) (b : Bool)
    → stands words verb before p ≡ b → MatchBool b (Faulty words verb (before ++ p ∷ []) ps word) (word ≡ place_of p)
    → (Faulty words verb (before ++ p ∷ []) ps word → Parted words verb (before ++ p ∷ []) ps word) → Parted words verb before (p ∷ ps) word
parted_step words verb before p ps word true e h rest = parted_later words verb before p ps word e (rest h)
parted_step words verb before p ps word false e h rest = parted_here words verb before p ps word e h

parted : (words : List (List ℕ)) (verb : Verb) (before ps : List Piece) (word : ℕ) → Faulty words verb before ps word → Parted words verb before ps word
parted words verb before [] word h = absurd h
parted words verb before (p ∷ ps) word h =
    parted_step words verb before p ps word (stands words verb before p) refl h (parted words verb (before ++ p ∷ []) ps word)

pub first_from_cases : (words : List (List ℕ)) (verb : Verb) (ps : List Piece) (word : ℕ) → Faulty words verb [] ps word → FirstFault words verb ps word
first_from_cases words verb ps word h =
    let p = parted words verb [] ps word h in
    record { front = p.front; faulty = p.faulty; back = p.back; whole = p.whole; stand = p.stand; fault = p.fault; place = p.place }

faulty_front : (words : List (List ℕ)) (verb : Verb) (before front : List Piece) (p : Piece) (back : List Piece)
    → AllStand words verb before front → stands words verb (before ++ front) p ≡ false → Faulty words verb before (front ++ p ∷ back) (place_of p)
faulty_front words verb before [] p back stand fault =
    let here : stands words verb before p ≡ false = ap (λ (b : List Piece). stands words verb b p) (sym (append-nil before)) ∙ fault in rw (here) refl
faulty_front words verb before (q ∷ front) p back stand fault =
    let here : stands words verb before q ≡ true = stand.0 in
    rw (here) (faulty_front words verb (before ++ q ∷ []) front p back stand.1 (ap (λ (b : List Piece). stands words verb b p) (append_assoc before (q ∷ []) front) ∙ fault))

cases_from_first : (words : List (List ℕ)) (verb : Verb) (ps : List Piece) (word : ℕ) → FirstFault words verb ps word → Faulty words verb [] ps word
cases_from_first words verb ps word h =
    subst (λ (qs : List Piece). Faulty words verb [] qs word) (sym h.whole)
    (subst (Faulty words verb [] (h.front ++ h.faulty ∷ h.back)) (sym h.place) (faulty_front words verb [] h.front h.faulty h.back h.stand h.fault))

-- ---- what pieces say, with one more

pub operands_in-append : (ps qs : List Piece) → operands_in (ps ++ qs) ≡ operands_in ps ++ operands_in qs
operands_in-append [] qs = refl
operands_in-append (operand at ∷ ps) qs = ap (λ (ops : List ℕ). at ∷ ops) (operands_in-append ps qs)
operands_in-append (option at key ∷ ps) qs = operands_in-append ps qs
operands_in-append (value at key text ∷ ps) qs = operands_in-append ps qs
operands_in-append (no_value at ∷ ps) qs = operands_in-append ps qs
operands_in-append (end at ∷ ps) qs = operands_in-append ps qs

given_after-append : (given : Given) (ps qs : List Piece) → given_after given (ps ++ qs) ≡ given_after (given_after given ps) qs
given_after-append given [] qs = refl
given_after-append given (operand at ∷ ps) qs = given_after-append given ps qs
given_after-append given (option at key ∷ ps) qs = given_after-append given ps qs
given_after-append given (value at key text ∷ ps) qs = given_after-append (with_value key text given) ps qs
given_after-append given (no_value at ∷ ps) qs = given_after-append given ps qs
given_after-append given (end at ∷ ps) qs = given_after-append given ps qs

abbrev said_in : List Piece → Said
said_in ps = record { operands = operands_in ps; given = given_in ps }

said_of : (operands more : List ℕ) (given after : Given) → operands ≡ more → given ≡ after
    → (let s : Said = record { operands = operands; given = given } in s) ≡ record { operands = more; given = after }
said_of operands more given after e f = cc

with_piece-in : (ps : List Piece) (p : Piece)
    → (let s : Said = record { operands = operands_in ps ++ operands_in (p ∷ []); given = given_after (given_in ps) (p ∷ []) } in s) ≡ with_piece p (said_in ps)
with_piece-in ps (operand at) = refl
with_piece-in ps (option at key) = said_of _ _ _ _ (append-nil _) refl
with_piece-in ps (value at key text) = said_of _ _ _ _ (append-nil _) refl
with_piece-in ps (no_value at) = said_of _ _ _ _ (append-nil _) refl
with_piece-in ps (end at) = said_of _ _ _ _ (append-nil _) refl

said_in-more : (ps : List Piece) (p : Piece) → said_in (ps ++ p ∷ []) ≡ with_piece p (said_in ps)
said_in-more ps p = said_of _ _ _ _ (operands_in-append ps (p ∷ [])) (given_after-append _ ps (p ∷ [])) ∙ with_piece-in ps p

-- ---- judging a piece

piece_goes : (words : List (List ℕ)) (verb : Verb) (p : Piece) (said : Said)
    → can_stand words verb said.operands said.given p ≡ true → judged_piece words verb p said ≡ Ok (with_piece p said)
piece_goes words verb p said h = rw (h) refl

piece_stops : (words : List (List ℕ)) (verb : Verb) (p : Piece) (said : Said)
    → can_stand words verb said.operands said.given p ≡ false → judged_piece words verb p said ≡ Err (place_of p)
piece_stops words verb p said h = rw (h) refl

pub step_goes : (words : List (List ℕ)) (verb : Verb) (p : Piece) (ps : List Piece) (said : Said) (result : Result Said ℕ)
    → judged words verb (p ∷ ps) said ≡ result → can_stand words verb said.operands said.given p ≡ true → judged words verb ps (with_piece p said) ≡ result
step_goes words verb p ps said result h e = sym (judged-next words verb p ps said (with_piece p said) (piece_goes words verb p said e)) ∙ h

pub step_stops : (words : List (List ℕ)) (verb : Verb) (p : Piece) (ps : List Piece) (said : Said) (result : Result Said ℕ)
    → judged words verb (p ∷ ps) said ≡ result → can_stand words verb said.operands said.given p ≡ false → Err (place_of p) ≡ result
step_stops words verb p ps said result h e = sym (judged-stop words verb p ps said (place_of p) (piece_stops words verb p said e)) ∙ h

-- ---- what judging answers

all_step : (words : List (List ℕ)) (verb : Verb) (before : List Piece) (p : Piece) (ps : List Piece) (after : Said) (b : Bool)
    → stands words verb before p ≡ b → judged words verb (p ∷ ps) (said_in before) ≡ Ok after
    → (judged words verb ps (said_in (before ++ p ∷ [])) ≡ Ok after → AllStand words verb (before ++ p ∷ []) ps)
    → AllStand words verb before (p ∷ ps)
all_step words verb before p ps after true e h rest =
    (e, rest (ap (judged words verb ps) (said_in-more before p) ∙ step_goes words verb p ps (said_in before) (Ok after) h e))
all_step words verb before p ps after false e h rest =
    let wrong : Err (place_of p) ≡ Ok after = step_stops words verb p ps (said_in before) (Ok after) h e in cc

pub all_stand : (words : List (List ℕ)) (verb : Verb) (before ps : List Piece) (after : Said)
    → judged words verb ps (said_in before) ≡ Ok after → AllStand words verb before ps
all_stand words verb before [] after h = tt
all_stand words verb before (p ∷ ps) after h =
    all_step words verb before p ps after (stands words verb before p) refl h (all_stand words verb (before ++ p ∷ []) ps after)

said_step : (words : List (List ℕ)) (verb : Verb) (before : List Piece) (p : Piece) (ps : List Piece) (after : Said) (b : Bool)
    → stands words verb before p ≡ b → judged words verb (p ∷ ps) (said_in before) ≡ Ok after
    → (judged words verb ps (said_in (before ++ p ∷ [])) ≡ Ok after → after ≡ said_in ((before ++ p ∷ []) ++ ps))
    → after ≡ said_in (before ++ p ∷ ps)
said_step words verb before p ps after true e h rest =
    rest (ap (judged words verb ps) (said_in-more before p) ∙ step_goes words verb p ps (said_in before) (Ok after) h e)
    ∙ ap said_in (append_assoc before (p ∷ []) ps)
said_step words verb before p ps after false e h rest =
    let wrong : Err (place_of p) ≡ Ok after = step_stops words verb p ps (said_in before) (Ok after) h e in cc

said_then : (words : List (List ℕ)) (verb : Verb) (before ps : List Piece) (after : Said)
    → judged words verb ps (said_in before) ≡ Ok after → after ≡ said_in (before ++ ps)
said_then words verb before [] after h = cc (ap said_in (append-nil before))
said_then words verb before (p ∷ ps) after h =
    said_step words verb before p ps after (stands words verb before p) refl h (said_then words verb (before ++ p ∷ []) ps after)

fault_step : (words : List (List ℕ)) (verb : Verb) (before : List Piece) (p : Piece) (ps : List Piece) (word : ℕ) (b : Bool)
    → stands words verb before p ≡ b → judged words verb (p ∷ ps) (said_in before) ≡ Err word
    → (judged words verb ps (said_in (before ++ p ∷ [])) ≡ Err word → Faulty words verb (before ++ p ∷ []) ps word)
    → Faulty words verb before (p ∷ ps) word
fault_step words verb before p ps word true e h rest =
    rw (e) (rest (ap (judged words verb ps) (said_in-more before p) ∙ step_goes words verb p ps (said_in before) (Err word) h e))
fault_step words verb before p ps word false e h rest =
    let same : Err (place_of p) ≡ Err word = step_stops words verb p ps (said_in before) (Err word) h e in rw (e) (cc)

pub first_fault : (words : List (List ℕ)) (verb : Verb) (before ps : List Piece) (word : ℕ)
    → judged words verb ps (said_in before) ≡ Err word → Faulty words verb before ps word
first_fault words verb before [] word h = cc
first_fault words verb before (p ∷ ps) word h =
    fault_step words verb before p ps word (stands words verb before p) refl h (first_fault words verb (before ++ p ∷ []) ps word)

-- ---- words

pub command_is : (words : List (List ℕ)) (first : List ℕ) (verb : Verb) (said : Said) (command : Command)
    → 1 ≤ length words → first ≡ get_or words 0 first → verb_named first ≡ Some verb
    → judged words verb (pieces_of (drop 1 words)) nothing_said ≡ Ok said → command ≡ command_from words verb said.operands said.given
    → IsCommand words command
command_is [] first verb said command some is named told same = absurd (omega arith)
command_is (word ∷ behind) first verb said command some is named told same =
    let words = word ∷ behind in (
      verb,
      ap verb_named (sym is) ∙ named,
      all_stand words verb [] (pieces_of behind) said told,
      same ∙ ap (λ (s : Said). command_from words verb s.operands s.given) (said_then words verb [] (pieces_of behind) said told),
    )

pub fault_is : (words : List (List ℕ)) (first : List ℕ) (verb : Verb) (u : WordsFault)
    → 1 ≤ length words → first ≡ get_or words 0 first → verb_named first ≡ Some verb
    → Stops (judged words verb (pieces_of (drop 1 words)) nothing_said) u → IsFault words u
fault_is [] first verb (Usage word) some is named told = absurd (omega arith)
fault_is (word ∷ behind) first verb (Usage at) some is named told =
    inr (verb, ap verb_named (sym is) ∙ named, first_from_cases (word ∷ behind) verb (pieces_of behind) at (first_fault (word ∷ behind) verb [] (pieces_of behind) at told))

-- ---- one command, or one fault

same_verb : (word : List ℕ) (a b : Verb) → verb_named word ≡ Some a → verb_named word ≡ Some b → a ≡ b
same_verb word a b e f = cc

pub one_command : (words : List (List ℕ)) (a b : Command) → IsCommand words a → IsCommand words b → a ≡ b
one_command [] a b (x) y = absurd x
one_command (word ∷ behind) a b x y =
    let words = word ∷ behind in
    x.3 ∙ (ap (λ (v : Verb). meaning words v (pieces_of behind)) (same_verb word x.0 y.0 x.1 y.1) ∙ sym y.3)

match_true : {P : Type 0} (Q : Type 0) (b : Bool) → IsTrue b → MatchBool b P Q → P
match_true Q true so m = m
match_true Q false so m = cc

stand_or_fault : (words : List (List ℕ)) (verb : Verb) (before ps : List Piece) (word : ℕ)
    → AllStand words verb before ps → Faulty words verb before ps word → ⊥
stand_or_fault words verb before [] word all fault = fault
stand_or_fault words verb before (p ∷ ps) word all fault =
    stand_or_fault words verb (before ++ p ∷ []) ps word all.1 (match_true (word ≡ place_of p) (stands words verb before p) all.0 fault)

pub not_both : (words : List (List ℕ)) (command : Command) (word : ℕ) → IsCommand words command → IsUsage words word → ⊥
not_both [] command word x y = x
not_both (first ∷ behind) command word x (inl y) = cc (x.1, y.0)
not_both (first ∷ behind) command word x (inr y) =
    let all : AllStand (first ∷ behind) y.0 [] (pieces_of behind) =
    subst (λ (v : Verb). AllStand (first ∷ behind) v [] (pieces_of behind)) (same_verb first x.0 y.0 x.1 y.1) x.2 in
    stand_or_fault (first ∷ behind) y.0 [] (pieces_of behind) word all (cases_from_first (first ∷ behind) y.0 (pieces_of behind) word y.2)

match_both : {P Q : Type 0} (v w n : ℕ) (b : Bool) → MatchBool b P (v ≡ n) → MatchBool b Q (w ≡ n) → (P → Q → v ≡ w) → v ≡ w
match_both v w n true x y rest = rest x y
match_both v w n false x y rest = x ∙ sym y

one_fault : (words : List (List ℕ)) (verb : Verb) (before ps : List Piece) (v w : ℕ)
    → Faulty words verb before ps v → Faulty words verb before ps w → v ≡ w
one_fault words verb before [] v w a b = absurd a
one_fault words verb before (p ∷ ps) v w a b =
    match_both v w (place_of p) (stands words verb before p) a b (one_fault words verb (before ++ p ∷ []) ps v w)

pub one_usage : (words : List (List ℕ)) (v w : ℕ) → IsUsage words v → IsUsage words w → v ≡ w
one_usage [] v w x y = x ∙ sym y
one_usage (first ∷ behind) v w (inl x) (inl y) = x.1 ∙ sym y.1
one_usage (first ∷ behind) v w (inl x) (inr y) = cc (x.0, y.1)
one_usage (first ∷ behind) v w (inr x) (inl y) = cc (x.1, y.0)
one_usage (first ∷ behind) v w (inr x) (inr y) =
    let fault : FirstFault (first ∷ behind) y.0 (pieces_of behind) v =
    subst (λ (u : Verb). FirstFault (first ∷ behind) u (pieces_of behind) v) (same_verb first x.0 y.0 x.1 y.1) x.2 in
    one_fault (first ∷ behind) y.0 [] (pieces_of behind) v w (cases_from_first (first ∷ behind) y.0 (pieces_of behind) v fault) (cases_from_first (first ∷ behind) y.0 (pieces_of behind) w y.2)

judged_some : (words : List (List ℕ)) (verb : Verb) (behind : List (List ℕ)) (first : List ℕ) → words ≡ first ∷ behind → verb_named first ≡ Some verb
    → (judging : Result Said ℕ) → judged words verb (pieces_of behind) nothing_said ≡ judging
    → ((command : Command) × IsCommand (first ∷ behind) command) ⊎ ((word : ℕ) × IsUsage (first ∷ behind) word)
judged_some words verb behind first is named (Ok said) told =
    let told' : judged (first ∷ behind) verb (pieces_of behind) nothing_said ≡ Ok said = subst (λ (ws : List (List ℕ)). judged ws verb (pieces_of behind) nothing_said ≡ Ok said) is told in
    inl (meaning (first ∷ behind) verb (pieces_of behind), (verb, named, all_stand (first ∷ behind) verb [] (pieces_of behind) said told', refl))
judged_some words verb behind first is named (Err word) told =
    let told' : judged (first ∷ behind) verb (pieces_of behind) nothing_said ≡ Err word = subst (λ (ws : List (List ℕ)). judged ws verb (pieces_of behind) nothing_said ≡ Err word) is told in
    inr (word, inr (verb, named, first_from_cases (first ∷ behind) verb (pieces_of behind) word (first_fault (first ∷ behind) verb [] (pieces_of behind) word told')))

named_some : (first : List ℕ) (behind : List (List ℕ)) (named : Option Verb) → verb_named first ≡ named
    → ((command : Command) × IsCommand (first ∷ behind) command) ⊎ ((word : ℕ) × IsUsage (first ∷ behind) word)
named_some first behind None is = inr (0, inl (is, refl))
named_some first behind (Some verb) is = judged_some (first ∷ behind) verb behind first refl is _ refl

pub some_answer : (words : List (List ℕ)) → ((command : Command) × IsCommand words command) ⊎ ((word : ℕ) × IsUsage words word)
some_answer [] = inr (0, refl)
some_answer (first ∷ behind) = named_some first behind (verb_named first) refl

-- ---- what is answered

pub command_answered : (words : List (List ℕ)) (r : Result Command WordsFault) → IfOk r (IsCommand words) → IfErr r (IsFault words)
    → (command : Command) → IsCommand words command → r ≡ Ok command
command_answered words (Ok x) ok err command is = ap (λ (y : Command). let r : Result Command WordsFault = Ok y in r) (one_command words x command ok is)
command_answered words (Err (Usage word)) ok err command is = absurd (not_both words command word is err)

pub usage_answered : (words : List (List ℕ)) (r : Result Command WordsFault) → IfOk r (IsCommand words) → IfErr r (IsFault words)
    → (word : ℕ) → IsUsage words word → r ≡ Err (Usage word)
usage_answered words (Ok x) ok err word is = absurd (not_both words x word ok is)
usage_answered words (Err (Usage v)) ok err word is = ap (λ (y : ℕ). let r : Result Command WordsFault = Err (Usage y) in r) (one_usage words v word err is)
