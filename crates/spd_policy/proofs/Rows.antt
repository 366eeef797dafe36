-- The definitions on the bounds of three actions at the two states of one variable.
use Rattle.std.proofs.Common.{◌≡◌, ℕ, ◌==◌, cond, List, [], ◌∷◌, length, refl, pos, slice_index}
use Rattle.spd_nodes.specs.declared.leaf.Leaf.TheVariants.{Num, Pair, Act}
use Rattle.spd_nodes.specs.States.{Function}
use Rattle.spd_policy.specs.Best.{greatest_of, policy_by, greatest_with_place, best_functions}
use Rattle.spd_policy.specs.Choosing.{greatest_leaf, place_leaf}

-- one number at the first state, another one at the second
abbrev at_states : ℕ → ℕ → Function
at_states x y s t = Num (cond (slice_index s 0 == 0) (pos x) (pos y))

abbrev lower : List Function
lower = at_states 3 4 ∷ at_states 5 2 ∷ at_states 5 4 ∷ []

abbrev upper : List Function
upper = at_states 6 4 ∷ at_states 5 9 ∷ at_states 5 4 ∷ []

-- at the first state the second and the third action have the greatest lower bound, and the second one is chosen
low-first : greatest_of lower (0 ∷ []) (0 ∷ []) ≡ Num (pos 5)
low-first = refl

act-first : policy_by lower (0 ∷ []) (0 ∷ []) ≡ Act 1
act-first = refl

-- at the second one the first and the third have it, although the second has the greatest upper bound
act-second : policy_by lower (1 ∷ []) (0 ∷ []) ≡ Act 0
act-second = refl

high-second : greatest_of upper (1 ∷ []) (0 ∷ []) ≡ Num (pos 9)
high-second = refl

pair-first : greatest_with_place lower (0 ∷ []) (0 ∷ []) ≡ Pair (pos 5) (pos 1)
pair-first = refl

-- four functions for each action, the greatest lower bound and the policy
all-functions : length (best_functions lower upper) ≡ 14
all-functions = refl

-- the recursions' leaves: the greatest one, and the place of the first that is the head
greatest-leaf : greatest_leaf (Num (pos 3) ∷ Num (pos 5) ∷ Num (pos 4) ∷ []) ≡ Num (pos 5)
greatest-leaf = refl

place-leaf : place_leaf (Num (pos 5) ∷ Num (pos 3) ∷ Num (pos 5) ∷ Num (pos 5) ∷ []) ≡ Act 1
place-leaf = refl
