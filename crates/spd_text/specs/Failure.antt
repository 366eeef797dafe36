-- The line of a place at which a certificate fails.
use Rattle.std.specs.Prelude.{ℕ, ◌++◌, List, [], ◌∷◌, codes}
use Rattle.spd_model.specs.Process.{Process}
use Rattle.spd_model.specs.Turns.{Place}
use Rattle.spd_model.specs.ResultText.{line, side_text, action_name, state_words}

-- `no`, and the place as in the text of a result
abbrev pub failure_line : Process → Place → List ℕ
failure_line m p = line ((codes "no" ∷ state_words m p.state) ++ side_text p.side ∷ action_name m p.action ∷ [])
