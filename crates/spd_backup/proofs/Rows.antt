-- The definitions on a die that its only action throws, with the chances 0.333333333333 twice and 0.333333333334, a reward of 1 at its
-- first value, and the discount 0.5.
use Rattle.std.proofs.Common.{arith, ◌≡◌, ℕ, ◌==◌, true, false, cond, List, [], ◌∷◌, length, map, refl, ℤ, pos, codes, slice_index, None}
use Rattle.spd_cons_core.specs.declared.key.Entry.{Entry}
use Rattle.spd_model.specs.declared.tree.Tree.{Tree, Leaf, Branch}
use Rattle.spd_model.specs.declared.tree.Tree.TheBlock.{shape-the_row-Tree-0, hidden-the_row-Tree-0}
use denote.Hole.Carrier
use Rattle.spd_model.specs.declared.process.Action.{Action}
use Rattle.spd_model.specs.Numbers.{numbers_below}
use Rattle.spd_model.specs.Process.{Process}
use Rattle.spd_nodes.specs.declared.leaf.Leaf.TheVariants.{Num}
use Rattle.spd_nodes.specs.Trees.{Ends, Tests}
use Rattle.spd_weigh.specs.declared.way.Way.TheVariants.{Down, Up}
use Rattle.spd_backup.specs.Exact.{HasExactLeaves}
use Rattle.spd_backup.specs.Expected.{expected, bound, backup_functions}
use Rattle.spd_backup.specs.FromBuilt.{process_functions}
use Rattle.spd_backup.specs.Thawing.{weights_in}

abbrev leaf : ℕ → Tree
leaf n = Leaf (pos n)

abbrev mix : Action
mix = record { name = codes "mix"; tables = Branch 0 true (leaf 333333333333 ∷ leaf 333333333333 ∷ leaf 333333333334 ∷ []) ∷ []; cost = [] }

abbrev throwing : Process
throwing = record {
  vars = record { name = codes "die"; values = codes "one" ∷ codes "two" ∷ codes "three" ∷ [] } ∷ [];
  dds = [];
  actions = mix ∷ [];
  reward = Branch 0 false (leaf 1000000000000 ∷ leaf 0 ∷ leaf 0 ∷ []) ∷ [];
  discount = 500000;
  tolerance = pos 100000000;
  horizon = None;
}

-- 1 at the first value, else 0
abbrev first_value : List ℕ → ℤ
first_value s = cond (slice_index s 0 == 0) (pos 1000000000) (pos 0)

expected-down : expected Down throwing mix first_value 1 (1 ∷ []) (2 ∷ []) ≡ Num (pos 333333333)
unfolding shape-the_row-Tree-0 hidden-the_row-Tree-0 denote.Hole.Carrier.hidden
expected-down = refl

expected-up : expected Up throwing mix first_value 1 (1 ∷ []) (2 ∷ []) ≡ Num (pos 333333334)
unfolding shape-the_row-Tree-0 hidden-the_row-Tree-0 denote.Hole.Carrier.hidden
expected-up = refl

low-first : bound Down throwing mix first_value (0 ∷ []) (0 ∷ []) ≡ Num (pos 1166666666)
unfolding shape-the_row-Tree-0 hidden-the_row-Tree-0 denote.Hole.Carrier.hidden
low-first = refl

high-second : bound Up throwing mix first_value (1 ∷ []) (0 ∷ []) ≡ Num (pos 166666667)
unfolding shape-the_row-Tree-0 hidden-the_row-Tree-0 denote.Hole.Carrier.hidden
high-second = refl

-- the primed value; and each way three functions for each of three values, their sum, the discounted one and the bound
all-functions : length (backup_functions throwing mix first_value) ≡ 25
all-functions = refl

-- the functions of thawing it: three weights, and the reward
parts-of-all : length (process_functions throwing) ≡ 4
parts-of-all = refl

-- of two actions' weights of variables with two and three values, those of the second action's second variable
second-weights : map (λ (r : Entry). r.0) (weights_in (2 ∷ 3 ∷ []) (map (λ n. record { 0 = n }) (numbers_below 10)) 1 1) ≡ 7 ∷ 8 ∷ 9 ∷ []
second-weights = refl

-- a tree whose leaves are one and 0 as they stand, and one whose leaves are 0.9 and 0.1 ten times
sure-leaves : HasExactLeaves (record { times = 1; by = 1000000000000 }) (Tests 0 (Ends (Num (pos 1000000000000))) (Ends (Num (pos 0))))
sure-leaves = (record { some = omega arith; whole = refl }, record { some = omega arith; whole = refl })

tenths : HasExactLeaves (record { times = 10; by = 1000000000000 }) (Tests 0 (Ends (Num (pos 900000000000))) (Ends (Num (pos 100000000000))))
tenths = (record { some = omega arith; whole = refl }, record { some = omega arith; whole = refl })
