-- A function with a variable's next value summed out by weights: one step of the expectation (SPUDD, UAI 1999), rounded.
use Rattle.std.specs.Prelude.{◌≡◌, ℕ, suc, ◌<◌, List, [], ◌∷◌, ◌++◌, length, flat_map, true, ℤ, ◌*ℤ◌}
use Rattle.spd_model.specs.Chances.{one}
use Rattle.spd_model.specs.Numbers.{numbers_below, sum_below}
use Rattle.spd_model.specs.States.{IsState}
use Rattle.spd_nodes.specs.declared.leaf.Leaf.{Leaf}
use Rattle.spd_nodes.specs.declared.leaf.Leaf.TheVariants.{Num}
use Rattle.spd_nodes.specs.States.{Function}
use Rattle.spd_restrict.specs.Chosen.{function_at}
use Rattle.spd_restrict.specs.Restricted.{restricted}
use Rattle.spd_weigh.specs.declared.way.Way.{Way}
use Rattle.spd_weigh.specs.Leaves.{rounding_of, number_of, IsWeight}

-- the weight of a variable's next value v, at that value
abbrev pub weight_at : ℕ → List Function → ℕ → List ℕ → List ℕ → Leaf
weight_at var weights v = restricted var true v (function_at weights v)

-- the weight of v times the function at v
abbrev pub product_at : ℕ → List Function → Function → ℕ → List ℕ → List ℕ → ℤ
product_at var weights f v s t = number_of (weight_at var weights v s t) *ℤ number_of (restricted var true v f s t)

-- The sum over a variable's next values of the weight times the function, divided by one as a probability (10^12) and rounded. A
-- function of the next values of the variables that are left.
abbrev pub summed_out : Way → ℕ → List Function → Function → Function
summed_out way var weights f s t = Num (rounding_of way (sum_below (length weights) (λ v. product_at var weights f v s t)) one)

-- Weights are numbers of at least 0, and their sum is one at all states.
pub record AreWeights (sizes : List ℕ) (var : ℕ) (weights : List Function) : Type 0 where
  pub each : (v : ℕ) → v < length weights → (s t : List ℕ) → IsState sizes s → IsState sizes t → IsWeight (weight_at var weights v s t)
  pub sum : (s t : List ℕ) → IsState sizes s → IsState sizes t → sum_below (length weights) (λ v. number_of (weight_at var weights v s t)) ≡ one

-- The functions of summing out, by which a stage's nodes are counted: for each value the function at it, its product with the
-- weight, and the sum of the products up to it; and the last sum, divided and rounded.
abbrev pub sum_out_functions : Way → ℕ → List Function → Function → List Function
sum_out_functions way var weights f =
    flat_map (λ v. restricted var true v f ∷ (λ s t. Num (product_at var weights f v s t)) ∷ (λ s t. Num (sum_below (suc v) (λ u. product_at var weights f u s t))) ∷ [])
    (numbers_below (length weights))
    ++ summed_out way var weights f ∷ []
