-- The definitions on a board of three items, which are their own numbers.
use Rattle.std.proofs.Common.{◌≡◌, ℕ, zero, suc, ◌≤◌, List, [], ◌∷◌, inl, refl, arith, subst, sym}
use mathlib.Core.Option.{some, some-ne-none, some-injective}
use lib.ListN.{get_elem?}
use Rattle.std.specs.Arc.{arc_value}
use Rattle.spd_board.specs.declared.item.Shown.{Shown}
use Rattle.spd_board.specs.declared.item.View.{View}
use Rattle.spd_board.specs.Board.{GoesOn, IsNumbered, IsBoard, nothing_seen}
use Rattle.spd_board.specs.Ends.{Answers}

abbrev items : List ℕ
items = 0 ∷ 1 ∷ 2 ∷ []

numbered : IsNumbered (λ (n : ℕ). n) items
numbered zero x e = cc
numbered (suc zero) x e = cc
numbered (suc (suc zero)) x e = cc
numbered (suc (suc (suc k))) x e = absurd (cc)

-- the writer has seen all three items, one reader the first, and another one nothing yet
a-board : (shown : Shown ℕ) → arc_value shown.item ≡ 2 → IsBoard (λ (n : ℕ). n) shown (record { seen = items } ∷ record { seen = 0 ∷ [] } ∷ nothing_seen ∷ [])
a-board shown two = record {
  published = items;
  numbered = numbered;
  newest = record { others = 0 ∷ 1 ∷ []; split = λ i. 0 ∷ 1 ∷ sym two i ∷ [] };
  fronts = fronts;
}
  where
    fronts : (end : ℕ) (v : View ℕ) → get_elem? (record { seen = items } ∷ record { seen = 0 ∷ [] } ∷ nothing_seen ∷ []) end ≡ some v → GoesOn v.seen items
    fronts zero v e = subst (λ (u : View ℕ). GoesOn u.seen items) (some-injective _ _ e) record { rest = []; split = refl }
    fronts (suc zero) v e = subst (λ (u : View ℕ). GoesOn u.seen items) (some-injective _ _ e) record { rest = 1 ∷ 2 ∷ []; split = refl }
    fronts (suc (suc zero)) v e = subst (λ (u : View ℕ). GoesOn u.seen items) (some-injective _ _ e) record { rest = items; split = refl }
    fronts (suc (suc (suc k))) v e = absurd (some-ne-none v (sym e))

-- the reader that has seen the first item answers the newest one
an-answer : Answers (λ (n : ℕ). n) record { seen = 0 ∷ []; last = 0 } record { seen = items; last = 2 }
an-answer = record {
  goes_on = record { rest = 1 ∷ 2 ∷ []; split = refl };
  numbered = numbered;
  newest = inl record { others = 0 ∷ 1 ∷ []; split = refl };
  published = inl refl;
  no_older = omega arith;
}

-- it never answers an older one afterwards
no-older-answer : (seen : List ℕ) → Answers (λ (n : ℕ). n) record { seen = items; last = 2 } record { seen = seen; last = 1 } → ⊥
no-older-answer seen answers = let falls : 2 ≤ 1 = answers.no_older in absurd (omega arith)
