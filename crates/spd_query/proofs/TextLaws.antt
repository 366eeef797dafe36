-- The texts of answers, piece by piece.
use Rattle.std.proofs.Common.{◌≡◌, ℕ, List, [], ◌∷◌, ◌++◌, codes, append_assoc, ◌∙◌}
use Rattle.spd_model.specs.ResultText.{line}

-- a piece behind a text
pub then : (before known now piece text : List ℕ) → before ≡ known → now ≡ before ++ piece → piece ≡ text → now ≡ known ++ text
then before known now piece text h k e = k ∙ (λ i. h i ++ e i)

pub state-text : (k v a e : List ℕ)
    → ((((((((([] ++ codes "turn ") ++ k) ++ codes " value ") ++ v) ++ codes " action ") ++ a) ++ codes " error ") ++ e) ++ 10 ∷ [])
    ≡ line (codes "turn" ∷ k ∷ codes "value" ∷ v ∷ codes "action" ∷ a ∷ codes "error" ∷ e ∷ [])
state-text k v a e = simp append_assoc

pub status-text : (k r e : List ℕ)
    → ((((((([] ++ codes "turn ") ++ k) ++ codes " residual ") ++ r) ++ codes " error ") ++ e) ++ 10 ∷ []) ≡ line (codes "turn" ∷ k ∷ codes "residual" ∷ r ∷ codes "error" ∷ e ∷ [])
status-text k r e = simp append_assoc
