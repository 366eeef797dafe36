-- The definitions on a variable with two values, of weights 1/4 and 3/4.
use Rattle.std.proofs.Common.{◌≡◌, ◌==◌, true, cond, List, [], ◌∷◌, length, refl, pos, negsuc, ℤ}
use Rattle.spd_nodes.specs.declared.leaf.Leaf.TheVariants.{Num}
use Rattle.spd_nodes.specs.States.{Function}
use Rattle.spd_restrict.specs.Chosen.{variable_value}
use Rattle.spd_weigh.specs.declared.way.Way.TheVariants.{Down, Up}
use Rattle.spd_weigh.specs.Discounting.{discounted}
use Rattle.spd_weigh.specs.Weighing.{summed_out, sum_out_functions}

abbrev weights : List Function
weights = (λ s t. Num (pos 250000000000)) ∷ (λ s t. Num (pos 750000000000)) ∷ []

-- one number at the variable's first next value, another one at its second
abbrev either : ℤ → ℤ → Function
either x y s t = cond (variable_value 0 true s t == 0) (Num x) (Num y)

-- 7/4 + 30/4 = 9.25
sum-down : summed_out Down 0 weights (either (pos 7) (pos 10)) (0 ∷ []) (1 ∷ []) ≡ Num (pos 9)
sum-down = refl

sum-up : summed_out Up 0 weights (either (pos 7) (pos 10)) (0 ∷ []) (1 ∷ []) ≡ Num (pos 10)
sum-up = refl

-- -9.25
less-down : summed_out Down 0 weights (either (negsuc 6) (negsuc 9)) (0 ∷ []) (0 ∷ []) ≡ Num (negsuc 9)
less-down = refl

less-up : summed_out Up 0 weights (either (negsuc 6) (negsuc 9)) (0 ∷ []) (0 ∷ []) ≡ Num (negsuc 8)
less-up = refl

-- three functions for each value, and the sum
all-functions : length (sum_out_functions Down 0 weights (either (pos 7) (pos 10))) ≡ 7
all-functions = refl

-- 9 times 0.9 is 8.1
discount-down : discounted Down 900000 (λ s t. Num (pos 9)) [] [] ≡ Num (pos 8)
discount-down = refl

discount-up : discounted Up 900000 (λ s t. Num (pos 9)) [] [] ≡ Num (pos 9)
discount-up = refl
