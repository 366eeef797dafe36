-- The first state with a leaf that is wanted, computed on small functions by hand.
use Rattle.std.proofs.Common.{◌≡◌, ℕ, ◌*◌, ◌||◌, List, [], ◌∷◌, Some, None, refl}
use Rattle.spd_model.specs.States.{rank}
use Rattle.spd_nodes.specs.declared.leaf.Leaf.TheVariants.{Act}
use Rattle.spd_nodes.specs.States.{Function}
use Rattle.spd_nodes.specs.Trees.{Tree, Ends, Tests, leaf_eq}
use Rattle.spd_search.specs.Found.{first_found}
use Rattle.spd_search.specs.declared.looking.Turn.TheVariants.{Free, Both, Yes, No}
use Rattle.spd_search.specs.inner.Looking.{turn_of, leaf_under}

-- a variable of two values and one of three: states 0 to 5 in order
abbrev two_three : List ℕ
two_three = 2 ∷ 3 ∷ []

-- the number of the present state
abbrev present : Function
present s t = Act (rank two_three s)

-- the product of both states' numbers
abbrev product : Function
product s t = Act (rank two_three s * rank two_three t)

fourth : first_found two_three (leaf_eq (Act 4)) present ≡ Some (record { state = 1 ∷ 1 ∷ []; leaf = Act 4 })
fourth = refl

none : first_found two_three (leaf_eq (Act 6)) present ≡ None
none = refl

-- 6 is 2 times 3 and 8 is 2 times 4: the first present state is 2, and there 6 comes first
first_next : first_found two_three (λ a. leaf_eq (Act 8) a || leaf_eq (Act 6) a) product ≡ Some (record { state = 0 ∷ 2 ∷ []; leaf = Act 6 })
first_next = refl

-- 5 is 1 times 5 before it is 5 times 1
first_present : first_found two_three (leaf_eq (Act 5)) product ≡ Some (record { state = 0 ∷ 1 ∷ []; leaf = Act 5 })
first_present = refl

-- 20 is 4 times 5
last_next : first_found two_three (leaf_eq (Act 20)) product ≡ Some (record { state = 1 ∷ 1 ∷ []; leaf = Act 20 })
last_next = refl

-- no two of the numbers 0 to 5 have the product 7
no_product : first_found two_three (leaf_eq (Act 7)) product ≡ None
no_product = refl

-- levels 0 and 1 test the first variable, next and present, 2 and 3 the next value of the second one, 4 and 5 its present value
turns : (turn_of two_three (1 ∷ 1 ∷ []) 0 ≡ Both) × (turn_of two_three (1 ∷ 1 ∷ []) 1 ≡ No) × (turn_of two_three (1 ∷ 1 ∷ []) 3 ≡ Both) × (turn_of two_three (1 ∷ 1 ∷ []) 4 ≡ No)
    × (turn_of two_three (1 ∷ 1 ∷ []) 5 ≡ Yes) × (turn_of two_three (1 ∷ []) 3 ≡ Free) × (turn_of two_three (1 ∷ []) 5 ≡ Free)
turns = (refl, refl, refl, refl, refl, refl, refl)

-- where the present value is 0, or else where the next one is
abbrev a_tree : Tree
a_tree = Tests 0 (Tests 1 (Ends (Act 3)) (Ends (Act 4))) (Tests 1 (Ends (Act 5)) (Ends (Act 6)))

under_zero : leaf_under two_three (λ a. leaf_eq (Act 5) a || leaf_eq (Act 4) a) (0 ∷ []) a_tree ≡ Some (Act 5)
under_zero = refl

under_one : leaf_under two_three (λ a. leaf_eq (Act 5) a || leaf_eq (Act 4) a) (1 ∷ []) a_tree ≡ Some (Act 4)
under_one = refl
