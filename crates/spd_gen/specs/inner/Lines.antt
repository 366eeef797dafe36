-- The parts of a ring's text, as they are written.
use Rattle.std.specs.Prelude.{ℕ, ◌++◌, List, [], ◌∷◌, flat_map, codes}
use Rattle.spd_model.specs.Numbers.{numbers_below}
use Rattle.spd_gen.specs.Ring.{choice_text, number_text, line, variable_text, part_text, noop_text, reboot_text}

-- the lines of a machine, by the digits of its name and of the name of the machine on its left
abbrev pub chances_of : List ℕ → List ℕ → List ℕ → List ℕ
chances_of own up down = choice_text ((codes "m" ++ own) ++ codes "'") (number_text up) (number_text down)

unfoldable pub keep_of : List ℕ → List ℕ → List ℕ
keep_of own left =
    line ((codes "m" ++ own) ++ codes " " ++ choice_text (codes "m" ++ own)
    (choice_text (codes "m" ++ left) (chances_of own (codes "0.9") (codes "0.1")) (chances_of own (codes "0.6") (codes "0.4")))
    (chances_of own (codes "0.1") (codes "0.9")))

unfoldable pub fix_of : List ℕ → List ℕ
fix_of own = line ((codes "m" ++ own) ++ codes " " ++ chances_of own (codes "1") (codes "0"))

-- the sections, each from its parts
abbrev pub variables_text : ℕ → List ℕ
variables_text n = (codes "(variables" ++ flat_map variable_text (numbers_below n)) ++ (codes ")" ++ 10 ∷ [])

abbrev pub reward_text : ℕ → List ℕ
reward_text n = (codes "reward [+" ++ flat_map part_text (numbers_below n)) ++ (codes "]" ++ 10 ∷ [])

abbrev pub whole_text : ℕ → List ℕ
whole_text n =
    variables_text n ++ noop_text n ++ flat_map (reboot_text n) (numbers_below n) ++ reward_text n
    ++ (line (codes "discount 0.95") ++ line (codes "tolerance 0.1"))
