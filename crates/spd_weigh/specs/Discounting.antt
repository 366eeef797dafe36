-- A function times the discount, rounded.
use Rattle.std.specs.Prelude.{ℕ, List, [], ◌∷◌, pos, ◌*ℤ◌}
use Rattle.spd_model.specs.Chances.{discount_one}
use Rattle.spd_nodes.specs.declared.leaf.Leaf.TheVariants.{Num}
use Rattle.spd_nodes.specs.States.{Function}
use Rattle.spd_weigh.specs.declared.way.Way.{Way}
use Rattle.spd_weigh.specs.Leaves.{rounding_of, number_of}

-- at each state the function's number times a discount in units of 10^-6, divided by one (10^6) and rounded
abbrev pub discounted : Way → ℕ → Function → Function
discounted way discount f s t = Num (rounding_of way (pos discount *ℤ number_of (f s t)) (pos discount_one))

-- the functions of discounting, by which a stage's nodes are counted
abbrev pub discount_functions : Way → ℕ → Function → List Function
discount_functions way discount f = discounted way discount f ∷ []
