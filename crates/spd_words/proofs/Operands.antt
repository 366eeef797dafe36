-- The operands of words that are a command: none is missing, and what each operand keeps, all of them keep.
use Rattle.std.proofs.Common.{◌≡◌, ◌∙◌, ◌+◌, ℕ, List, [], ◌∷◌, ◌++◌, length, refl, sym, ap, subst, append_assoc}
use Rattle.std.proofs.lemmas.List.{append-nil}
use Rattle.std.specs.Prelude.{IsTrue}
use Rattle.spd_words.specs.declared.verb.Verb.{Verb}
use Rattle.spd_words.specs.declared.expects.Expects.{Expects}
use Rattle.spd_words.specs.declared.expects.Expects.TheVariants.{Anything, Value, Operands}
use Rattle.spd_words.specs.Verbs.{role_of}
use Rattle.spd_words.specs.Pieces.{Piece, operand, option, value, no_value, end, word_pieces, behind_word, pieces_from}
use Rattle.spd_words.specs.Standing.{text_at, operands_in, stands, are_all, fits, AllStand}
use Rattle.spd_words.proofs.CallerLemmas.Grammar.{operands_in-append}

-- ---- no operand is missing

AllStand-behind : (words : List (List ℕ)) (verb : Verb) (before ps qs : List Piece) → AllStand words verb before (ps ++ qs) → AllStand words verb (before ++ ps) qs
AllStand-behind words verb before [] qs all = subst (λ (b : List Piece). AllStand words verb b qs) (sym (append-nil before)) all
AllStand-behind words verb before (p ∷ ps) qs all =
    subst (λ (b : List Piece). AllStand words verb b qs) (append_assoc before (p ∷ []) ps) (AllStand-behind words verb (before ++ p ∷ []) ps qs all.1)

operands_in-end : (before : List Piece) (at : ℕ) → operands_in (before ++ end at ∷ []) ≡ operands_in before
operands_in-end before at = operands_in-append before (end at ∷ []) ∙ append-nil (operands_in before)

pub all_operands : (words : List (List ℕ)) (verb : Verb) (before : List Piece) (expects : Expects) (at : ℕ) (ws : List (List ℕ))
    → AllStand words verb before (pieces_from expects at ws) → IsTrue (are_all words verb (operands_in (before ++ pieces_from expects at ws)))
all_operands words verb before Anything at [] all = subst (λ (ops : List ℕ). IsTrue (are_all words verb ops)) (sym (operands_in-end before at)) all.0
all_operands words verb before (Value key) at [] all = cc
all_operands words verb before Operands at [] all = subst (λ (ops : List ℕ). IsTrue (are_all words verb ops)) (sym (operands_in-end before at)) all.0
all_operands words verb before expects at (w ∷ ws) all =
    let rest = pieces_from (behind_word expects w) (at + 1) ws in
    subst (λ (ps : List Piece). IsTrue (are_all words verb (operands_in ps))) (append_assoc before (word_pieces expects at w) rest)
    (all_operands words verb (before ++ word_pieces expects at w) (behind_word expects w) (at + 1) ws (AllStand-behind words verb before (word_pieces expects at w) rest all))

-- ---- what the operands keep with each one more, they keep behind all pieces

module _ (words : List (List ℕ)) (verb : Verb) (P : List ℕ → Type 0) where
  kept_more : (before : List Piece) (p : Piece) → operands_in (p ∷ []) ≡ [] → P (operands_in before) → P (operands_in (before ++ p ∷ []))
  kept_more before p none h =
      subst P (sym (operands_in-append before (p ∷ []) ∙ (ap (λ (ops : List ℕ). operands_in before ++ ops) none ∙ append-nil (operands_in before)))) h

  kept_step : ((operands : List ℕ) (at : ℕ) → IsTrue (fits words verb operands (role_of verb (length operands)) (text_at words at)) → P operands → P (operands ++ at ∷ []))
      → (before : List Piece) (p : Piece) → IsTrue (stands words verb before p) → P (operands_in before) → P (operands_in (before ++ p ∷ []))
  kept_step more before (operand at) can h = subst P (sym (operands_in-append before (operand at ∷ []))) (more (operands_in before) at can h)
  kept_step more before (option at key) can h = kept_more before (option at key) refl h
  kept_step more before (value at key text) can h = kept_more before (value at key text) refl h
  kept_step more before (no_value at) can h = kept_more before (no_value at) refl h
  kept_step more before (end at) can h = kept_more before (end at) refl h

  pub all_kept : ((operands : List ℕ) (at : ℕ) → IsTrue (fits words verb operands (role_of verb (length operands)) (text_at words at)) → P operands → P (operands ++ at ∷ []))
      → (before ps : List Piece) → AllStand words verb before ps → P (operands_in before) → P (operands_in (before ++ ps))
  all_kept more before [] all h = subst (λ (b : List Piece). P (operands_in b)) (sym (append-nil before)) h
  all_kept more before (p ∷ ps) all h =
      subst (λ (b : List Piece). P (operands_in b)) (append_assoc before (p ∷ []) ps) (all_kept more (before ++ p ∷ []) ps all.1 (kept_step more before p all.0 h))
