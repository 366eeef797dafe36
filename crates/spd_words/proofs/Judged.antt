-- Judging pieces one after another: the first that can't stand ends it, and those before it are judged alone.
use Rattle.std.proofs.Common.{◌≡◌, ◌<◌, ◌+◌, ◌∙◌, ℕ, true, false, List, [], ◌∷◌, ◌++◌, length, drop, Option, Some, None, Result, Ok, Err, refl, sym, ap, subst, add-one, drop-cons}
use Rattle.std.proofs.lemmas.Option.{unwrap_or-slice_get}
use Rattle.std.proofs.Math.Seq.{drop-length}
use Rattle.std.specs.Prelude.{IsErrAnd, IfErr, codes, bytes_eq}
use Rattle.spd_words.specs.declared.verb.Verb.{Verb}
use Rattle.spd_words.specs.declared.verb.Key.{Key}
use Rattle.spd_words.specs.declared.said.Said.{Said}
use Rattle.spd_words.specs.declared.fault.WordsFault.{WordsFault}
use Rattle.spd_words.specs.declared.fault.WordsFault.TheVariants.{Usage}
use Rattle.spd_words.specs.declared.expects.Expects.{Expects}
use Rattle.spd_words.specs.declared.expects.Expects.TheVariants.{Anything, Value, Operands}
use Rattle.spd_words.specs.Verbs.{key_named}
use Rattle.spd_words.specs.Pieces.{Piece, pieces_of, option, value, is_option, halves, joined, option_pieces, word_pieces, behind_word, pieces_from, last_piece, place_of}
use Rattle.spd_words.specs.Standing.{text_at, can_stand}
use Rattle.spd_words.specs.Inner.Judging.{◌>>=◌, judged_piece, judged, Stops, Judges, JudgesOption, Reads, nothing_said}

pub judged-next : (words : List (List ℕ)) (verb : Verb) (p : Piece) (ps : List Piece) (said mid : Said)
    → judged_piece words verb p said ≡ Ok mid → judged words verb (p ∷ ps) said ≡ judged words verb ps mid
judged-next words verb p ps said mid h = ap (λ (r : Result Said ℕ). r >>= judged words verb ps) h

pub judged-stop : (words : List (List ℕ)) (verb : Verb) (p : Piece) (ps : List Piece) (said : Said) (at : ℕ)
    → judged_piece words verb p said ≡ Err at → judged words verb (p ∷ ps) said ≡ Err at
judged-stop words verb p ps said at h = ap (λ (r : Result Said ℕ). r >>= judged words verb ps) h

pub judged-append : (words : List (List ℕ)) (verb : Verb) (ps qs : List Piece) (said : Said)
    → judged words verb (ps ++ qs) said ≡ (judged words verb ps said >>= judged words verb qs)
judged-append words verb [] qs said = refl
judged-append words verb (p ∷ ps) qs said =
    elim (judged_piece words verb p said) as (λ (r : Result Said ℕ). (r >>= judged words verb (ps ++ qs)) ≡ ((r >>= judged words verb ps) >>= judged words verb qs))
    [ Ok mid ↦ judged-append words verb ps qs mid | Err at ↦ refl ]

-- ---- what the exit of a `?` answers

pub judges_exit : {X : Type 0} (judging : Result Said ℕ) (said : Said) (r : Result X WordsFault) (u : WordsFault)
    → IsErrAnd r (λ (x : WordsFault). x ≡ u) → Stops judging u → Judges judging r said
judges_exit judging said (Ok x) u is h = absurd is
judges_exit judging said (Err x) u is h = subst (Stops judging) (sym is) h

-- ---- options

pub alone_stops : (words : List (List ℕ)) (verb : Verb) (at : ℕ) (word : List ℕ) (said : Said) (u : WordsFault)
    → halves word ≡ None → JudgesOption words verb at word said (Err u) → Stops (judged words verb (option_pieces at word (halves word)) said) u
alone_stops words verb at word said (Usage w) none h =
    ap (λ (p : Option (List ℕ × List ℕ)). judged words verb (option_pieces at word p) said) none ∙ judged-stop words verb (option at (key_named word)) [] said w h

pub alone_goes : (words : List (List ℕ)) (verb : Verb) (at : ℕ) (word : List ℕ) (said : Said) (key : Key)
    → halves word ≡ None → JudgesOption words verb at word said (Ok key) → judged words verb (option_pieces at word (halves word)) said ≡ Ok said
alone_goes words verb at word said key none h =
    ap (λ (p : Option (List ℕ × List ℕ)). judged words verb (option_pieces at word p) said) none
    ∙ (ap (λ (k : Option Key). judged words verb (option at k ∷ []) said) h.0 ∙ judged-next words verb (option at (Some key)) [] said said h.1)

joined-stop : (words : List (List ℕ)) (verb : Verb) (at : ℕ) (k : Option Key) (text : List ℕ) (said : Said) (w : ℕ)
    → judged_piece words verb (option at k) said ≡ Err w → judged words verb (joined at k text) said ≡ Err w
joined-stop words verb at None text said w h = judged-stop words verb (option at None) [] said w h
joined-stop words verb at (Some key) text said w h = judged-stop words verb (option at (Some key)) (value at key text ∷ []) said w h

pub joined_stops : (words : List (List ℕ)) (verb : Verb) (at : ℕ) (word name text : List ℕ) (said : Said) (u : WordsFault)
    → halves word ≡ Some (name, text) → JudgesOption words verb at name said (Err u)
    → Stops (judged words verb (option_pieces at word (halves word)) said) u
joined_stops words verb at word name text said (Usage w) some h =
    ap (λ (p : Option (List ℕ × List ℕ)). judged words verb (option_pieces at word p) said) some ∙ joined-stop words verb at (key_named name) text said w h

-- a name that can stand, and its value
joined-value : (words : List (List ℕ)) (verb : Verb) (at : ℕ) (word name text : List ℕ) (said : Said) (key : Key)
    → halves word ≡ Some (name, text) → JudgesOption words verb at name said (Ok key)
    → judged words verb (option_pieces at word (halves word)) said ≡ judged words verb (value at key text ∷ []) said
joined-value words verb at word name text said key some h =
    ap (λ (p : Option (List ℕ × List ℕ)). judged words verb (option_pieces at word p) said) some
    ∙ (ap (λ (k : Option Key). judged words verb (joined at k text) said) h.0
    ∙ judged-next words verb (option at (Some key)) (value at key text ∷ []) said said h.1)

pub value_stops : (words : List (List ℕ)) (verb : Verb) (at : ℕ) (word name text : List ℕ) (said : Said) (key : Key) (u : WordsFault)
    → halves word ≡ Some (name, text) → JudgesOption words verb at name said (Ok key)
    → Stops (judged_piece words verb (value at key text) said) u
    → Stops (judged words verb (option_pieces at word (halves word)) said) u
value_stops words verb at word name text said key (Usage w) some h v =
    joined-value words verb at word name text said key some h ∙ judged-stop words verb (value at key text) [] said w v

pub value_goes : (words : List (List ℕ)) (verb : Verb) (at : ℕ) (word name text : List ℕ) (said after : Said) (key : Key)
    → halves word ≡ Some (name, text) → JudgesOption words verb at name said (Ok key)
    → judged_piece words verb (value at key text) said ≡ Ok after
    → judged words verb (option_pieces at word (halves word)) said ≡ Ok after
value_goes words verb at word name text said after key some h v =
    joined-value words verb at word name text said key some h ∙ judged-next words verb (value at key text) [] said after v

-- ---- one piece alone

pub one_goes : (words : List (List ℕ)) (verb : Verb) (p : Piece) (said after : Said)
    → judged_piece words verb p said ≡ Ok after → judged words verb (p ∷ []) said ≡ Ok after
one_goes words verb p said after h = judged-next words verb p [] said after h

pub one_stops : (words : List (List ℕ)) (verb : Verb) (p : Piece) (said : Said) (u : WordsFault)
    → Stops (judged_piece words verb p said) u → Stops (judged words verb (p ∷ []) said) u
one_stops words verb p said (Usage w) h = judged-stop words verb p [] said w h

-- ---- the pieces of one word

pub value_word_goes : (words : List (List ℕ)) (verb : Verb) (expects : Expects) (at : ℕ) (key : Key) (word text : List ℕ) (said after : Said)
    → expects ≡ Value key → word ≡ text → judged_piece words verb (value at key word) said ≡ Ok after
    → judged words verb (word_pieces expects at text) said ≡ Ok after
value_word_goes words verb expects at key word text said after is same h =
    ap (λ (e : Expects). judged words verb (word_pieces e at text) said) is
    ∙ one_goes words verb (value at key text) said after (ap (λ (t : List ℕ). judged_piece words verb (value at key t) said) (sym same) ∙ h)

pub value_word_stops : (words : List (List ℕ)) (verb : Verb) (expects : Expects) (at : ℕ) (key : Key) (word text : List ℕ) (said : Said) (u : WordsFault)
    → expects ≡ Value key → word ≡ text → Stops (judged_piece words verb (value at key word) said) u
    → Stops (judged words verb (word_pieces expects at text) said) u
value_word_stops words verb expects at key word text said (Usage w) is same h =
    ap (λ (e : Expects). judged words verb (word_pieces e at text) said) is
    ∙ judged-stop words verb (value at key text) [] said w (ap (λ (t : List ℕ). judged_piece words verb (value at key t) said) (sym same) ∙ h)

pub option-word : (expects : Expects) (at : ℕ) (word text : List ℕ)
    → expects ≡ Anything → word ≡ text → is_option word ≡ true → bytes_eq word (codes "--") ≡ false
    → option_pieces at word (halves word) ≡ word_pieces expects at text
option-word expects at word text is same begins more = rw (is, ← same, begins, more) refl

-- ---- words

drop-text : (words : List (List ℕ)) (at : ℕ) → at < length words → drop at words ≡ text_at words at ∷ drop (at + 1) words
drop-text words at h = rw (unwrap_or-slice_get words at [], add-one, drop-cons words at []) refl

-- the pieces of the word at a place, and those of the words behind it
word-judged : (words : List (List ℕ)) (verb : Verb) (expects : Expects) (at : ℕ) (said : Said) → at < length words
    → judged words verb (pieces_from expects at (drop at words)) said
    ≡ (judged words verb (word_pieces expects at (text_at words at)) said >>= judged words verb (pieces_from (behind_word expects (text_at words at)) (at + 1) (drop (at + 1) words)))
word-judged words verb expects at said h =
    ap (λ (ws : List (List ℕ)). judged words verb (pieces_from expects at ws) said) (drop-text words at h)
    ∙ judged-append words verb (word_pieces expects at (text_at words at)) (pieces_from (behind_word expects (text_at words at)) (at + 1) (drop (at + 1) words)) said

pub word_goes : (words : List (List ℕ)) (verb : Verb) (expects next : Expects) (at : ℕ) (said after : Said) → at < length words
    → judged words verb (word_pieces expects at (text_at words at)) said ≡ Ok after → next ≡ behind_word expects (text_at words at)
    → judged words verb (pieces_from next (at + 1) (drop (at + 1) words)) after ≡ judged words verb (pieces_from expects at (drop at words)) said
word_goes words verb expects next at said after h goes is =
    ap (λ (e : Expects). judged words verb (pieces_from e (at + 1) (drop (at + 1) words)) after) is
    ∙ sym (word-judged words verb expects at said h
    ∙ ap (λ (r : Result Said ℕ). r >>= judged words verb (pieces_from (behind_word expects (text_at words at)) (at + 1) (drop (at + 1) words))) goes)

pub word_stops : (words : List (List ℕ)) (verb : Verb) (expects : Expects) (at : ℕ) (said : Said) (u : WordsFault) → at < length words
    → Stops (judged words verb (word_pieces expects at (text_at words at)) said) u
    → Stops (judged words verb (pieces_from expects at (drop at words)) said) u
word_stops words verb expects at said (Usage w) h stops =
    word-judged words verb expects at said h
    ∙ ap (λ (r : Result Said ℕ). r >>= judged words verb (pieces_from (behind_word expects (text_at words at)) (at + 1) (drop (at + 1) words))) stops

stops_same : (a b : Result Said ℕ) (u : WordsFault) → a ≡ b → Stops a u → Stops b u
stops_same a b (Usage w) e h = sym e ∙ h

pub reads_exit : (words : List (List ℕ)) (verb : Verb) (r : Result Said WordsFault) (u : WordsFault) {judging : Result Said ℕ}
    → IsErrAnd r (λ (x : WordsFault). x ≡ u) → Stops judging u → judging ≡ judged words verb (pieces_of (drop 1 words)) nothing_said → Reads words verb r
reads_exit words verb (Ok x) u is h e = absurd is
reads_exit words verb (Err x) u {judging} is h e =
    subst (Stops (judged words verb (pieces_of (drop 1 words)) nothing_said)) (sym is) (stops_same judging _ u e h)

-- ---- the end of the words

place_of-last : (expects : Expects) (n : ℕ) → place_of (last_piece expects n) ≡ n
place_of-last Anything n = refl
place_of-last (Value key) n = refl
place_of-last Operands n = refl

judged-end : (words : List (List ℕ)) (verb : Verb) (expects : Expects) (at : ℕ) (said : Said) → at ≡ length words
    → judged words verb (pieces_from expects at (drop at words)) said ≡ judged words verb (last_piece expects (length words) ∷ []) said
judged-end words verb expects at said is =
    ap (λ (n : ℕ). judged words verb (pieces_from expects n (drop n words)) said) is
    ∙ ap (λ (ws : List (List ℕ)). judged words verb (pieces_from expects (length words) ws) said) (drop-length words)

pub end_stops : (words : List (List ℕ)) (verb : Verb) (expects : Expects) (at : ℕ) (said : Said) → at ≡ length words
    → can_stand words verb said.operands said.given (last_piece expects (length words)) ≡ false
    → judged words verb (pieces_from expects at (drop at words)) said ≡ Err (length words)
end_stops words verb expects at said is short =
    judged-end words verb expects at said is
    ∙ judged-stop words verb (last_piece expects (length words)) [] said (length words) (rw (short) (ap (λ (n : ℕ). let r : Result Said ℕ = Err n in r) (place_of-last expects (length words))))

pub err_exit : {X : Type 0} (P : WordsFault → Type 0) (r : Result X WordsFault) (u : WordsFault) → IsErrAnd r (λ (x : WordsFault). x ≡ u) → P u → IfErr r P
err_exit P (Ok x) u is h = tt
err_exit P (Err x) u is h = subst P (sym is) h
