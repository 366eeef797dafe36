-- The values that the words of a line give the variables.
use Rattle.std.proofs.Common.{◌≡◌, ℕ, zero, suc, ◌+◌, ◌<◌, ◌≤◌, false, List, [], ◌∷◌, ◌++◌, length, map, take, drop, Option, Some, None, Result, Ok, Err, replicate, refl, sym, ap, ◌∙◌, subst, arith, append_assoc, append-nil, length-append, length-take-le}
use Rattle.std.specs.Prelude.{All, slice_get, slice_set, option_map, ok_or, is_none, bytes_eq, codes, nat_lt, IfOk, IfSome, if◌then◌else◌}
use Rattle.std.proofs.lemmas.Bool.{le-ltb}
use Rattle.std.proofs.lemmas.List.{length-map, length-replicate, get_or-replicate, get_or_at, set_at, drop_more, drop_all, map_push, take_more_set}
use Rattle.std.proofs.lemmas.List.Elements.{All-cons}
use Rattle.std.proofs.lemmas.List.Quantifiers.{position-Some}
use Rattle.std.proofs.lemmas.Option.{slice_get-get_or}
use Rattle.spd_model.specs.States.{IsState}
use Rattle.spd_query.specs.declared.line.Reason.{Reason}
use Rattle.spd_query.specs.declared.line.Reason.TheVariants.{Missing, Unknown, Twice, Pair}
use Rattle.spd_model.specs.declared.process.Var.{Var}
use Rattle.spd_query.specs.declared.line.Query.TheVariants.{State}
use Rattle.spd_query.specs.inner.Places.{Stands, BeginsWithPair}
use Rattle.spd_query.specs.Lines.{words_of, gathered, sides_of, numbers_of, var_number, value_number, with_pair, with_word, with_words, state_of_words, asked, query_of}
use Rattle.spd_query.proofs.WordLaws.{words-stand}

-- a variable has no value
pub gathered-none : (given : List (Option ℕ)) (i : ℕ) → slice_get given i ≡ Some None → gathered given ≡ None
gathered-none [] i h = absurd (cc)
gathered-none (None ∷ given) i h = refl
gathered-none (Some value ∷ given) zero h = absurd (cc)
gathered-none (Some value ∷ given) (suc i) h = ap (option_map (λ state. value ∷ state)) (gathered-none given i h)

-- all variables have one
pub gathered-all : (state : List ℕ) → gathered (map Some state) ≡ Some state
gathered-all [] = refl
gathered-all (value ∷ state) = ap (option_map (λ s. value ∷ s)) (gathered-all state)

-- the state that is gathered, and why there is none
abbrev state_from : Result (List (Option ℕ)) Reason → Result (List ℕ) Reason
state_from (Err reason) = Err reason
state_from (Ok given) = elim (gathered given) [ None ↦ Err Missing | Some state ↦ Ok state ]

ok_or-is : (state : Option (List ℕ)) → ok_or state Missing ≡ elim state [ None ↦ Err Missing | Some s ↦ Ok s ]
ok_or-is None = refl
ok_or-is (Some s) = refl

module _ (vars : List Var) (words : List (List ℕ)) (first : List (Option ℕ)) (fresh : first ≡ replicate (length vars) None) where
  pub state-refused : (reason : Reason) → with_words vars first words ≡ Err reason → state_of_words vars words ≡ Err reason
  state-refused reason h = ap state_from (ap (λ (l : List (Option ℕ)). with_words vars l words) (sym fresh) ∙ h)

  pub state-gathered : (given : List (Option ℕ)) (state : Option (List ℕ)) → with_words vars first words ≡ Ok given → state ≡ gathered given → ok_or state Missing ≡ state_of_words vars words
  state-gathered given state h is =
      ap (λ (o : Option (List ℕ)). ok_or o Missing) is ∙ ok_or-is (gathered given) ∙ sym (ap state_from (ap (λ (l : List (Option ℕ)). with_words vars l words) (sym fresh) ∙ h))

-- ---- pairs in the order of the variables

-- the first n variables have these values, and the others have none
abbrev pub in_order : List Var → List ℕ → ℕ → List (Option ℕ)
in_order vars values n = map Some (take n values) ++ drop n (replicate (length vars) None)

module _ (vars : List Var) (values : List ℕ) (n v : ℕ) (within : n < length vars) (room : n < length values) where
  abbrev before : List (Option ℕ)
  before = map Some (take n values)

  abbrev others : List (Option ℕ)
  others = drop (n + 1) (replicate (length vars) None)

  before-long : length before ≡ n
  before-long = length-map (take n values) Some ∙ length-take-le n values (omega arith)

  next-none : in_order vars values n ≡ before ++ None ∷ others
  next-none =
      let fresh : List (Option ℕ) = replicate (length vars) None in
      ap (λ (l : List (Option ℕ)). before ++ l)
      (drop_more fresh n None (omega (arith, length-replicate {A = Option ℕ} (length vars) None)) ∙ ap (λ (o : Option ℕ). o ∷ others) (get_or-replicate (length vars) n None None within))

  pub order-free : slice_get (in_order vars values n) n ≡ Some None
  order-free =
      ap (λ (l : List (Option ℕ)). slice_get l n) next-none
      ∙ slice_get-get_or (before ++ None ∷ others) n None (omega (arith, before-long, length-append before (None ∷ others)))
      ∙ ap Some (get_or_at before None others None n before-long)

  pub order-more : slice_set (in_order vars values n) n (Some v) ≡ in_order vars (slice_set values n v) (n + 1)
  order-more =
      ap (λ (l : List (Option ℕ)). slice_set l n (Some v)) next-none
      ∙ set_at before None others (Some v) n before-long
      ∙ sym (append_assoc before (Some v ∷ []) others)
      ∙ ap (λ (l : List (Option ℕ)). l ++ others) (sym (map_push Some (take n values) v))
      ∙ ap (λ (l : List ℕ). map Some l ++ others) (sym (take_more_set values n v room))

  -- a pair of the next variable
  pub order-step : (line behind : List ℕ) → BeginsWithPair vars line (n, v) behind
      → with_words vars (in_order vars values n) (words_of line) ≡ with_words vars (in_order vars (slice_set values n v) (n + 1)) (words_of behind)
  order-step line behind begins =
      let given = in_order vars values n in
      let named : numbers_of vars begins.sides ≡ Some (n, v) = begins.named in
      let taken : with_word vars given begins.word ≡ Ok (in_order vars (slice_set values n v) (n + 1)) =
      ap (λ (o : Option (List ℕ × List ℕ)). elim o as (λ _. Result (List (Option ℕ)) Reason) [
        | None ↦ Err Pair
        | Some sides ↦ elim (numbers_of vars sides) as (λ _. Result (List (Option ℕ)) Reason) [ None ↦ Err Unknown | Some pair ↦ with_pair given pair ]
      ]) begins.parted
      ∙ ap (λ (o : Option (ℕ × ℕ)). elim o as (λ _. Result (List (Option ℕ)) Reason) [ None ↦ Err Unknown | Some pair ↦ with_pair given pair ]) named
      ∙ ap (λ (o : Option (Option ℕ)). elim o as (λ _. Result (List (Option ℕ)) Reason) [
        | None ↦ Err Unknown
        | Some old ↦ if is_none old then Ok (slice_set given n (Some v)) else Err Twice
      ]) order-free
      ∙ ap Ok order-more in
      ap (with_words vars given) begins.words
      ∙ ap (λ (r : Result (List (Option ℕ)) Reason). elim r as (λ _. Result (List (Option ℕ)) Reason) [ Err reason ↦ Err reason | Ok now ↦ with_words vars now (words_of behind) ]) taken

-- pairs of all variables
pub order-end : (vars : List Var) (values : List ℕ) (words : List (List ℕ))
    → with_words vars (replicate (length vars) None) words ≡ Ok (in_order vars values (length vars)) → state_of_words vars words ≡ Ok (take (length vars) values)
order-end vars values words h =
    let n = length vars in
    let fresh : List (Option ℕ) = replicate n None in
    let none : drop n fresh ≡ [] = drop_all n fresh (omega (arith, length-replicate {A = Option ℕ} n None)) in
    let all : in_order vars values n ≡ map Some (take n values) = ap (λ (l : List (Option ℕ)). map Some (take n values) ++ l) none ∙ append-nil (map Some (take n values)) in
    ap state_from h ∙ ap state_from (ap Ok all)
    ∙ ap (λ (o : Option (List ℕ)). elim o as (λ _. Result (List ℕ) Reason) [ None ↦ Err Missing | Some state ↦ Ok state ]) (gathered-all (take n values))

-- a line of the word `state` and of pairs of all variables
module _ (vars : List Var) (line rest : List ℕ) (short : length line ≤ 4096) (words : words_of line ≡ codes "state" ∷ words_of rest) where
  pub line-in-order : (state : Option (List ℕ)) → IfSome state (λ s. state_of_words vars (words_of rest) ≡ Ok s) → IfSome state (λ _. All Stands (words_of rest)) → IfSome state (λ s. query_of vars line ≡ Ok (State s))
  line-in-order None read stand = tt
  line-in-order (Some s) read stand =
      let may : Stands line = words-stand line (subst (All Stands) (sym words) (All-cons Stands (codes "state") (words_of rest) refl stand)) in
      let long : nat_lt 4096 (length line) ≡ false = le-ltb 4096 (length line) short in
      rw (long, may, words) (ap asked read)

-- ---- the values that are given are values of their variables

abbrev FitsGiven : List Var → List (Option ℕ) → Type 0
FitsGiven [] [] = Unit {0}
FitsGiven [] (value ∷ given) = ⊥
FitsGiven (var ∷ vars) [] = ⊥
FitsGiven (var ∷ vars) (None ∷ given) = FitsGiven vars given
FitsGiven (var ∷ vars) (Some value ∷ given) = (value < length var.values) × FitsGiven vars given

fresh-fits : (vars : List Var) → FitsGiven vars (replicate (length vars) None)
fresh-fits [] = tt
fresh-fits (var ∷ vars) = fresh-fits vars

set-fits : (vars : List Var) (given : List (Option ℕ)) (i value : ℕ) (var : Var) → FitsGiven vars given → slice_get vars i ≡ Some var → value < length var.values → FitsGiven vars (slice_set given i (Some value))
set-fits [] given i value var fits there below = absurd (cc)
set-fits (x ∷ vars) [] i value var fits there below = absurd fits
set-fits (x ∷ vars) (None ∷ given) zero value var fits there below = (let same : x ≡ var = cc in subst (λ (v : Var). value < length v.values) (sym same) below, fits)
set-fits (x ∷ vars) (None ∷ given) (suc i) value var fits there below = set-fits vars given i value var fits there below
set-fits (x ∷ vars) (Some v ∷ given) zero value var fits there below = (let same : x ≡ var = cc in subst (λ (v : Var). value < length v.values) (sym same) below, fits.1)
set-fits (x ∷ vars) (Some v ∷ given) (suc i) value var fits there below = (fits.0, set-fits vars given i value var fits.1 there below)

-- the numbers that two sides of a word name are those of a variable and of one of its values
record Names (vars : List Var) (pair : ℕ × ℕ) : Type 0 where
  var : Var
  there : slice_get vars pair.0 ≡ Some var
  below : pair.1 < length var.values

number-value : (vars : List Var) (var : ℕ) (found : Var) (name : List ℕ) (pair : ℕ × ℕ) → slice_get vars var ≡ Some found → (o : Option ℕ) → value_number found.values name ≡ o
    → option_map (λ value. (var, value)) o ≡ Some pair → Names vars pair
number-value vars var found name pair there None is h = absurd (cc)
number-value vars var found name pair there (Some value) is h =
    let same : (var, value) ≡ pair = cc in
    subst (Names vars) same record { var = found; there = there; below = (position-Some (λ v. bytes_eq v name) found.values value [] is).0 }

number-var : (vars : List Var) (var : ℕ) (name : List ℕ) (pair : ℕ × ℕ) → (o : Option Var) → slice_get vars var ≡ o
    → elim o as (λ _. Option (ℕ × ℕ)) [ None ↦ None | Some found ↦ option_map (λ value. (var, value)) (value_number found.values name) ] ≡ Some pair → Names vars pair
number-var vars var name pair None is h = absurd (cc)
number-var vars var name pair (Some found) is h = number-value vars var found name pair is (value_number found.values name) refl h

numbers-fit : (vars : List Var) (sides : List ℕ × List ℕ) (pair : ℕ × ℕ) → (o : Option ℕ)
    → elim o as (λ _. Option (ℕ × ℕ)) [ None ↦ None | Some var ↦ elim (slice_get vars var) [ None ↦ None | Some found ↦ option_map (λ value. (var, value)) (value_number found.values sides.1) ] ] ≡ Some pair
    → Names vars pair
numbers-fit vars sides pair None h = absurd (cc)
numbers-fit vars sides pair (Some var) h = number-var vars var sides.1 pair (slice_get vars var) refl h

pair-fits : (vars : List Var) (given now : List (Option ℕ)) (pair : ℕ × ℕ) → FitsGiven vars given → Names vars pair → (o : Option (Option ℕ))
    → elim o as (λ _. Result (List (Option ℕ)) Reason) [ None ↦ Err Unknown | Some before ↦ if is_none before then Ok (slice_set given pair.0 (Some pair.1)) else Err Twice ] ≡ Ok now → FitsGiven vars now
pair-fits vars given now pair fits names None h = absurd (cc)
pair-fits vars given now pair fits names (Some None) h =
    let same : slice_set given pair.0 (Some pair.1) ≡ now = cc in
    subst (FitsGiven vars) same (set-fits vars given pair.0 pair.1 names.var fits names.there names.below)
pair-fits vars given now pair fits names (Some (Some v)) h = absurd (cc)

numbers-then : (vars : List Var) (given now : List (Option ℕ)) (sides : List ℕ × List ℕ) → FitsGiven vars given → (o : Option (ℕ × ℕ)) → numbers_of vars sides ≡ o
    → elim o as (λ _. Result (List (Option ℕ)) Reason) [ None ↦ Err Unknown | Some pair ↦ with_pair given pair ] ≡ Ok now → FitsGiven vars now
numbers-then vars given now sides fits None is h = absurd (cc)
numbers-then vars given now sides fits (Some pair) is h = pair-fits vars given now pair fits (numbers-fit vars sides pair (var_number vars sides.0) is) (slice_get given pair.0) h

word-fits : (vars : List Var) (given now : List (Option ℕ)) → FitsGiven vars given → (o : Option (List ℕ × List ℕ))
    → elim o as (λ _. Result (List (Option ℕ)) Reason) [ None ↦ Err Pair | Some sides ↦ elim (numbers_of vars sides) [ None ↦ Err Unknown | Some pair ↦ with_pair given pair ] ] ≡ Ok now → FitsGiven vars now
word-fits vars given now fits None h = absurd (cc)
word-fits vars given now fits (Some sides) h = numbers-then vars given now sides fits (numbers_of vars sides) refl h

words-then : (vars : List Var) (words : List (List ℕ)) (now : List (Option ℕ)) → ((given : List (Option ℕ)) → FitsGiven vars given → with_words vars given words ≡ Ok now → FitsGiven vars now)
    → (r : Result (List (Option ℕ)) Reason) → ((next : List (Option ℕ)) → r ≡ Ok next → FitsGiven vars next)
    → elim r as (λ _. Result (List (Option ℕ)) Reason) [ Err reason ↦ Err reason | Ok next ↦ with_words vars next words ] ≡ Ok now → FitsGiven vars now
words-then vars words now others (Err reason) fits h = absurd (cc)
words-then vars words now others (Ok next) fits h = others next (fits next refl) h

words-fit : (vars : List Var) (words : List (List ℕ)) (given now : List (Option ℕ)) → FitsGiven vars given → with_words vars given words ≡ Ok now → FitsGiven vars now
words-fit vars [] given now fits h = let same : given ≡ now = cc in subst (FitsGiven vars) same fits
words-fit vars (word ∷ words) given now fits h =
    words-then vars words now (λ next fit is. words-fit vars words next now fit is) (with_word vars given word) (λ next is. word-fits vars given next fits (sides_of word) is) h

abbrev sizes_of : List Var → List ℕ
sizes_of vars = map (λ (x : Var). length x.values) vars

gathered-then : (size value : ℕ) (sizes state : List ℕ) → value < size → (o : Option (List ℕ)) → ((s : List ℕ) → o ≡ Some s → IsState sizes s) → option_map (λ s. value ∷ s) o ≡ Some state → IsState (size ∷ sizes) state
gathered-then size value sizes state below None fits h = absurd (cc)
gathered-then size value sizes state below (Some s) fits h = let same : value ∷ s ≡ state = cc in subst (IsState (size ∷ sizes)) same (below, fits s refl)

gathered-fits : (vars : List Var) (given : List (Option ℕ)) (state : List ℕ) → FitsGiven vars given → gathered given ≡ Some state → IsState (sizes_of vars) state
gathered-fits [] [] state fits h = let same : [] ≡ state = cc in subst (IsState []) same tt
gathered-fits [] (value ∷ given) state fits h = absurd fits
gathered-fits (var ∷ vars) [] state fits h = absurd fits
gathered-fits (var ∷ vars) (None ∷ given) state fits h = absurd (cc)
gathered-fits (var ∷ vars) (Some value ∷ given) state fits h =
    gathered-then (length var.values) value (sizes_of vars) state fits.0 (gathered given) (λ s is. gathered-fits vars given s fits.1 is) h

found-then : (vars : List Var) (given : List (Option ℕ)) (state : List ℕ) → FitsGiven vars given → (o : Option (List ℕ)) → gathered given ≡ o
    → elim o as (λ _. Result (List ℕ) Reason) [ None ↦ Err Missing | Some s ↦ Ok s ] ≡ Ok state → IsState (sizes_of vars) state
found-then vars given state fits None is h = absurd (cc)
found-then vars given state fits (Some s) is h = let same : s ≡ state = cc in subst (IsState (sizes_of vars)) same (gathered-fits vars given s fits is)

given-then : (vars : List Var) (state : List ℕ) → (r : Result (List (Option ℕ)) Reason) → ((given : List (Option ℕ)) → r ≡ Ok given → FitsGiven vars given) → state_from r ≡ Ok state → IsState (sizes_of vars) state
given-then vars state (Err reason) fits h = absurd (cc)
given-then vars state (Ok given) fits h = found-then vars given state (fits given refl) (gathered given) refl h

-- the state that words name is one of the model
pub state-fits : (vars : List Var) (words : List (List ℕ)) (r : Result (List ℕ) Reason) → r ≡ state_of_words vars words → IfOk r (IsState (sizes_of vars))
state-fits vars words (Err reason) h = tt
state-fits vars words (Ok state) h =
    given-then vars state (with_words vars (replicate (length vars) None) words) (λ given is. words-fit vars words (replicate (length vars) None) given (fresh-fits vars) is) (sym h)

pub option-fits : (vars : List Var) (words : List (List ℕ)) (state : Option (List ℕ)) → IfSome state (λ s. state_of_words vars words ≡ Ok s) → IfSome state (IsState (sizes_of vars))
option-fits vars words None h = tt
option-fits vars words (Some s) h = state-fits vars words (Ok s) (sym h)
