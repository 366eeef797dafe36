-- The summary of a ring's result: of which ring, the lines of its turn, and how many nodes its value and its policy have.
use Rattle.std.specs.Prelude.{ℕ, ◌++◌, List, [], ◌∷◌, length, codes, decimal}
use Rattle.spd_model.specs.declared.Why.{Why}
use Rattle.spd_model.specs.Process.{Process}
use Rattle.spd_model.specs.ResultText.{Iterate, line, units, why_text, place_line}

-- the summary of what is told of a turn of a ring of so many machines
abbrev pub summary_text : ℕ → Process → Why → Iterate → List ℕ
summary_text machines m why x =
    line (codes "spd" ∷ codes "ring" ∷ decimal machines ∷ [])
    ++ line (codes "status" ∷ why_text why ∷ [])
    ++ line (codes "turn" ∷ decimal x.turn ∷ [])
    ++ line (codes "residual" ∷ units x.residual ∷ [])
    ++ place_line m x.place
    ++ line (codes "error" ∷ units x.error ∷ [])
    ++ line (codes "value" ∷ decimal (length x.value) ∷ [])
    ++ line (codes "policy" ∷ decimal (length x.policy) ∷ [])
    ++ line (codes "end" ∷ [])
