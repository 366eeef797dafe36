-- The definitions, computed on small models by hand.
use Rattle.std.proofs.Common.{◌≡◌, ℕ, ◌*◌, ◌^◌, true, false, List, [], ◌∷◌, ℤ, pos, ◌-ℤ◌, ◌*ℤ◌, neg_ℤ, codes, map, refl, if◌then◌else◌, ◌==◌, slice_index, None, arith}
use Rattle.spd_model.specs.declared.tree.Tree.{Tree, Leaf, Branch}
use Rattle.spd_model.specs.declared.tree.Tree.TheBlock.{shape-the_row-Tree-0, hidden-the_row-Tree-0}
use denote.Hole.Carrier
use Rattle.spd_model.specs.declared.process.Var.{Var}
use Rattle.spd_model.specs.declared.process.Action.{Action}
use Rattle.spd_model.specs.Process.{Process}
use Rattle.spd_model.specs.States.{sizes, states, at, sum_over_states}
use Rattle.spd_model.specs.Chances.{joint, scale_of}
use Rattle.spd_model.specs.Backup.{low_of, high_of, policy_of}
use Rattle.spd_model.specs.Turns.{turn, residual_of}
use Rattle.spd_bellman.specs.TurnBound.{residual_at, added_by_turn, is_enough, leaves_room}
use Rattle.spd_bellman.specs.Courses.{Course, stop, act, always, exact_return, return_of_course, return_of_policy}

abbrev leaf : ℕ → Tree
leaf n = Leaf (pos n)

-- a branch on the present value of a variable, and a table whose next value has these probabilities
abbrev by_present : ℕ → Tree → Tree → Tree
by_present var x y = Branch var false (x ∷ y ∷ [])

abbrev chances : ℕ → ℕ → ℕ → Tree
chances var p q = Branch var true (leaf p ∷ leaf q ∷ [])

abbrev two_values : Var
two_values = record { name = codes "x"; values = codes "yes" ∷ codes "no" ∷ [] }

-- ---- a variable with the values yes and no, which its only action keeps; a reward of 1 at yes; discount 0.5, tolerance 0.1

abbrev keeping_table : Tree
keeping_table = by_present 0 (chances 0 (10 ^ 12) 0) (chances 0 0 (10 ^ 12))

abbrev stay : Action
stay = record { name = codes "stay"; tables = keeping_table ∷ []; cost = [] }

abbrev keeping : Process
keeping = record {
  vars = two_values ∷ [];
  dds = [];
  actions = stay ∷ [];
  reward = by_present 0 (leaf (10 ^ 12)) (leaf 0) ∷ [];
  discount = 500000;
  tolerance = pos 100000000;
  horizon = None;
}

-- the value after two turns, at yes and at no
abbrev second : List ℕ → ℤ
second = at (sizes keeping) (turn keeping (pos 0) 2)

-- the only course of one step
stays : Course keeping 1
stays = act stay (0, omega arith, refl) (λ t. stop)

scale-keeping : scale_of keeping ≡ 10 ^ 18
scale-keeping = refl

residual-keeping : residual_of keeping second ≡ pos 125000000
unfolding shape-the_row-Tree-0 hidden-the_row-Tree-0 denote.Hole.Carrier.hidden
residual-keeping = refl

-- its return, and the value in the same parts
return-keeping : return_of_course keeping (always (joint keeping)) second stays (0 ∷ []) ≡ pos (1875 * 10 ^ 24)
unfolding shape-the_row-Tree-0 hidden-the_row-Tree-0 denote.Hole.Carrier.hidden stays
return-keeping = refl

value-keeping : pos (scale_of keeping ^ 1) *ℤ second (0 ∷ []) ≡ pos (1750 * 10 ^ 24)
unfolding shape-the_row-Tree-0 hidden-the_row-Tree-0 denote.Hole.Carrier.hidden
value-keeping = refl

-- the two sides of the bound: the gain of 0.125 times one minus the discount, and the residual
gain-keeping : pos 500000 *ℤ (return_of_course keeping (always (joint keeping)) second stays (0 ∷ []) -ℤ pos (scale_of keeping ^ 1) *ℤ second (0 ∷ []))
    ≡ pos (625 * 10 ^ 29)
unfolding shape-the_row-Tree-0 hidden-the_row-Tree-0 denote.Hole.Carrier.hidden stays
gain-keeping = refl

error-keeping : residual_of keeping second *ℤ pos 1000000 *ℤ pos (scale_of keeping ^ 1) ≡ pos (1250 * 10 ^ 29)
unfolding shape-the_row-Tree-0 hidden-the_row-Tree-0 denote.Hole.Carrier.hidden
error-keeping = refl

-- the policy stays too, so its return is the same
policy-keeping : return_of_policy keeping (always (joint keeping)) second (always (policy_of keeping second)) 1 (0 ∷ []) ≡ pos (1875 * 10 ^ 24)
unfolding shape-the_row-Tree-0 hidden-the_row-Tree-0 denote.Hole.Carrier.hidden
policy-keeping = refl

-- the residual of turn 0, and what a turn may add at the spans 0 and 100
bound-keeping : (residual_at keeping (pos 0) 0 ≡ pos 500000000) × (added_by_turn keeping (pos 0) ≡ pos 6) × (added_by_turn keeping (pos 100) ≡ pos 102)
unfolding shape-the_row-Tree-0 hidden-the_row-Tree-0 denote.Hole.Carrier.hidden
bound-keeping = (refl, refl, refl)

-- turn 5 is the least one that is enough: the first residual of 0.5 halves with each turn, and twice 0.5 / 2^5 is at most 0.1 times
-- one minus the discount, but twice 0.5 / 2^4 isn't
enough-keeping : map (is_enough keeping (pos 0)) (0 ∷ 1 ∷ 2 ∷ 3 ∷ 4 ∷ 5 ∷ 6 ∷ [])
    ≡ false ∷ false ∷ false ∷ false ∷ false ∷ true ∷ true ∷ []
unfolding shape-the_row-Tree-0 hidden-the_row-Tree-0 denote.Hole.Carrier.hidden
enough-keeping = refl

-- its tolerance leaves room up to a span of 12,499,996 units
room-keeping : map (leaves_room keeping) (pos 0 ∷ pos 12499996 ∷ pos 12499997 ∷ []) ≡ true ∷ true ∷ false ∷ []
unfolding shape-the_row-Tree-0 hidden-the_row-Tree-0 denote.Hole.Carrier.hidden
room-keeping = refl

-- with discount 0 turn 0 is enough where the tolerance is at least 2 * 6 + 2 * 2 units
abbrev keeping_once : ℕ → Process
keeping_once tolerance = record keeping { discount = 0; tolerance = pos tolerance }

enough-once : map (λ tolerance. is_enough (keeping_once tolerance) (pos 0) 0) (100000000 ∷ 16 ∷ 15 ∷ []) ≡ true ∷ true ∷ false ∷ []
unfolding shape-the_row-Tree-0 hidden-the_row-Tree-0 denote.Hole.Carrier.hidden
enough-once = refl

-- ---- a die whose next value is one, two or three, with nearly equal probabilities whatever it was; a reward of 1 at one

abbrev mix : Action
mix = record { name = codes "mix"; tables = Branch 0 true (leaf 333333333333 ∷ leaf 333333333333 ∷ leaf 333333333334 ∷ []) ∷ []; cost = [] }

abbrev die : Var
die = record { name = codes "die"; values = codes "one" ∷ codes "two" ∷ codes "three" ∷ [] }

abbrev mixing : Process
mixing = record {
  vars = die ∷ [];
  dds = [];
  actions = mix ∷ [];
  reward = Branch 0 false (leaf (10 ^ 12) ∷ leaf 0 ∷ leaf 0 ∷ []) ∷ [];
  discount = 500000;
  tolerance = pos 100000000;
  horizon = None;
}

abbrev first : List ℕ → ℤ
first = at (sizes mixing) (turn mixing (pos 0) 1)

-- at turn 1 the exact expected return at one is between the two bounds, which are one unit, 10^18 parts, apart
bounds-mixing : (low_of mixing first mix (0 ∷ []) ≡ pos 1249999999) × (high_of mixing first mix (0 ∷ []) ≡ pos 1250000000)
unfolding shape-the_row-Tree-0 hidden-the_row-Tree-0 denote.Hole.Carrier.hidden
bounds-mixing = (refl, refl)

scale-mixing : scale_of mixing ≡ 10 ^ 18
scale-mixing = refl

return-mixing : exact_return mixing (joint mixing) (scale_of mixing) first mix (0 ∷ []) ≡ pos (12499999996665 * 10 ^ 14)
unfolding shape-the_row-Tree-0 hidden-the_row-Tree-0 denote.Hole.Carrier.hidden
return-mixing = refl

-- ---- two variables x and y; what x is next depends on both, and what y is next on y alone

abbrev drifting_x : Tree
drifting_x =
    by_present 0 (by_present 1 (chances 0 (9 * 10 ^ 11) (10 ^ 11)) (chances 0 (5 * 10 ^ 11) (5 * 10 ^ 11)))
    (by_present 1 (chances 0 (2 * 10 ^ 11) (8 * 10 ^ 11)) (chances 0 0 (10 ^ 12)))

abbrev drifting_y : Tree
drifting_y = by_present 1 (chances 1 (7 * 10 ^ 11) (3 * 10 ^ 11)) (chances 1 (4 * 10 ^ 11) (6 * 10 ^ 11))

abbrev drift : Action
drift = record { name = codes "drift"; tables = drifting_x ∷ drifting_y ∷ []; cost = [] }

abbrev drifting : Process
drifting = record {
  vars = two_values ∷ record two_values { name = codes "y" } ∷ [];
  dds = [];
  actions = drift ∷ [];
  reward = leaf 0 ∷ [];
  discount = 500000;
  tolerance = pos 100000000;
  horizon = None;
}

-- the four joint probabilities from yes and no, and their sum, in parts of 10^24
joint-drifting : map (joint drifting drift (0 ∷ 1 ∷ [])) (states (sizes drifting))
    ≡ pos (20 * 10 ^ 22) ∷ pos (30 * 10 ^ 22) ∷ pos (20 * 10 ^ 22) ∷ pos (30 * 10 ^ 22) ∷ []
unfolding shape-the_row-Tree-0 hidden-the_row-Tree-0 denote.Hole.Carrier.hidden
joint-drifting = refl

joint-drifting-again : map (joint drifting drift (0 ∷ 0 ∷ [])) (states (sizes drifting))
    ≡ pos (63 * 10 ^ 22) ∷ pos (27 * 10 ^ 22) ∷ pos (7 * 10 ^ 22) ∷ pos (3 * 10 ^ 22) ∷ []
unfolding shape-the_row-Tree-0 hidden-the_row-Tree-0 denote.Hole.Carrier.hidden
joint-drifting-again = refl

sum-drifting : sum_over_states (sizes drifting) (joint drifting drift (0 ∷ 0 ∷ [])) ≡ pos (10 ^ 24)
unfolding shape-the_row-Tree-0 hidden-the_row-Tree-0 denote.Hole.Carrier.hidden
sum-drifting = refl

-- ---- x is next what y is next, and y stays: an arc between next values

abbrev linked_x : Tree
linked_x = Branch 1 true (chances 0 (10 ^ 12) 0 ∷ chances 0 0 (10 ^ 12) ∷ [])

abbrev kept_y : Tree
kept_y = by_present 1 (chances 1 (10 ^ 12) 0) (chances 1 0 (10 ^ 12))

abbrev link : Action
link = record { name = codes "link"; tables = linked_x ∷ kept_y ∷ []; cost = [] }

abbrev linking : Process
linking = record drifting { actions = link ∷ [] }

-- from no and yes the next state is yes and yes, and no other: the arc rules out that x and y differ
joint-linking : map (joint linking link (1 ∷ 0 ∷ [])) (states (sizes linking)) ≡ pos (10 ^ 24) ∷ pos 0 ∷ pos 0 ∷ pos 0 ∷ []
unfolding shape-the_row-Tree-0 hidden-the_row-Tree-0 denote.Hole.Carrier.hidden
joint-linking = refl

-- ---- a coin: `flip` throws it, `yes` and `no` keep it and win 1 where they name it; discount 0.5

abbrev flip : Action
flip = record { name = codes "flip"; tables = chances 0 (5 * 10 ^ 11) (5 * 10 ^ 11) ∷ []; cost = [] }

abbrev yes : Action
yes = record { name = codes "yes"; tables = keeping_table ∷ []; cost = by_present 0 (Leaf (neg_ℤ (pos (10 ^ 12)))) (leaf 0) ∷ [] }

abbrev no : Action
no = record { name = codes "no"; tables = keeping_table ∷ []; cost = by_present 0 (leaf 0) (Leaf (neg_ℤ (pos (10 ^ 12)))) ∷ [] }

abbrev guessing : Process
guessing = record {
  vars = two_values ∷ [];
  dds = [];
  actions = flip ∷ yes ∷ no ∷ [];
  reward = leaf 0 ∷ [];
  discount = 500000;
  tolerance = pos 100000000;
  horizon = None;
}

abbrev nothing : List ℕ → ℤ
nothing s = pos 0

-- to flip, and then to name what is seen, or to name yes at any rate
seeing : Course guessing 2
seeing =
    act flip (0, omega arith, refl)
    (λ t. if slice_index t 0 == 0 then act yes (1, omega arith, refl) (λ u. stop) else act no (2, omega arith, refl) (λ u. stop))

blind : Course guessing 2
blind = act flip (0, omega arith, refl) (λ t. act yes (1, omega arith, refl) (λ u. stop))

-- they return 0.5 and 0.25, in parts of 10^36 to the unit
return-guessing : (return_of_course guessing (always (joint guessing)) nothing seeing (0 ∷ []) ≡ pos (50 * 10 ^ 43))
    × (return_of_course guessing (always (joint guessing)) nothing blind (0 ∷ []) ≡ pos (25 * 10 ^ 43))
unfolding shape-the_row-Tree-0 hidden-the_row-Tree-0 denote.Hole.Carrier.hidden seeing blind
return-guessing = (refl, refl)

-- a policy for each number of steps left may do as the first of them: flip with two left, and name what is seen with one left
abbrev then_name : ℕ → List ℕ → ℕ
then_name left s = if left == 2 then 0 else (if slice_index s 0 == 0 then 1 else 2)

policy-guessing : return_of_policy guessing (always (joint guessing)) nothing then_name 2 (0 ∷ []) ≡ pos (50 * 10 ^ 43)
unfolding shape-the_row-Tree-0 hidden-the_row-Tree-0 denote.Hole.Carrier.hidden
policy-guessing = refl
