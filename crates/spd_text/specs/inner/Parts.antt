-- The parts of a result's text, as they are written.
use Rattle.std.specs.Prelude.{List, ℕ, [], ◌∷◌, ◌++◌, codes, decimal, ℤ}
use Rattle.spd_model.specs.declared.Why.{Why}
use Rattle.spd_model.specs.Process.{Process}
use Rattle.spd_model.specs.ResultText.{line, units, why_text, side_text, action_name, state_words}
use Rattle.spd_frozen.specs.declared.iterate.Iterate.{Iterate}
use Rattle.spd_frozen.specs.declared.iterate.Residual.{Residual}
use Rattle.spd_text.specs.inner.Pieces.{spaced}

-- the lines that say what the text is, and of which file
abbrev pub title_text : List ℕ → List ℕ
title_text digest = line (codes "spd result 2" ∷ []) ++ line (codes "model" ∷ digest ∷ [])

-- the lines before the place of the residual, and the first word of that line
abbrev pub head_text : List ℕ → List ℕ → List ℕ → List ℕ
head_text why turn residual =
    line (codes "status" ∷ why ∷ []) ++ line (codes "turn" ∷ turn ∷ []) ++ line (codes "residual" ∷ residual ∷ []) ++ codes "at"

-- the side and the action of a residual, and the line of the error
abbrev pub end_words : List ℕ → List ℕ → List ℕ → List ℕ
end_words side action error = spaced (side ∷ action ∷ []) ++ 10 ∷ [] ++ line (codes "error" ∷ error ∷ [])

abbrev pub end_text : Process → Residual → ℤ → List ℕ
end_text m residual error = end_words (side_text residual.side) (action_name m residual.action) (units error)

-- the lines of a turn, from its status to its error
abbrev pub top_text : Process → Why → Iterate → List ℕ
top_text m why x =
    (head_text (why_text why) (decimal x.turn) (units x.residual.r) ++ spaced (state_words m x.residual.at))
    ++ end_text m x.residual x.error

-- the lines that say how many nodes a value and a policy have, and the last line
abbrev pub counts_text : List ℕ → List ℕ → List ℕ
counts_text value policy = line (codes "value" ∷ value ∷ []) ++ line (codes "policy" ∷ policy ∷ []) ++ line (codes "end" ∷ [])
