-- The definitions on two models. One action throws a die, with the chance 0.3333 of each value. Another one moves x and y, where x
-- follows the next value of y: its chances sum to 0.5 where that is the second value.
use Rattle.std.proofs.Common.{◌≡◌, ℕ, true, false, [], ◌∷◌, length, refl, pos, codes, Some, None}
use Rattle.spd_model.specs.declared.tree.Tree.{Tree, Leaf, Branch}
use Rattle.spd_model.specs.declared.tree.Tree.TheBlock.{shape-the_row-Tree-0, hidden-the_row-Tree-0}
use denote.Hole.Carrier
use Rattle.spd_model.specs.declared.process.Action.{Action}
use Rattle.spd_model.specs.Process.{Process}
use Rattle.spd_model.specs.Chances.{sums_of}
use Rattle.spd_nodes.specs.declared.leaf.Leaf.TheVariants.{Num}
use Rattle.spd_build.specs.Functions.{all_weights, table_functions, weight, weight_sum}
use Rattle.spd_build.specs.Tables.{all_table_functions, first_wrong}

abbrev leaf : ℕ → Tree
leaf n = Leaf (pos n)

-- ---- a die

abbrev mix : Action
mix = record { name = codes "mix"; tables = Branch 0 true (leaf 333300000000 ∷ leaf 333300000000 ∷ leaf 333300000000 ∷ []) ∷ []; cost = [] }

abbrev throwing : Process
throwing = record {
  vars = record { name = codes "die"; values = codes "one" ∷ codes "two" ∷ codes "three" ∷ [] } ∷ [];
  dds = [];
  actions = mix ∷ [];
  reward = [];
  discount = 500000;
  tolerance = pos 100000000;
  horizon = None;
}

-- the sum at the first value is told
die-sum : first_wrong (sums_of throwing) ≡ Some (record { action = 0; var = 0; state = 0 ∷ []; sum = pos 999900000000 })
unfolding shape-the_row-Tree-0 hidden-the_row-Tree-0 denote.Hole.Carrier.hidden
die-sum = refl

-- the sum of the weights up to the second value
two-values : weight_sum throwing mix 0 2 (1 ∷ []) (0 ∷ []) ≡ Num (pos 666600000000)
unfolding shape-the_row-Tree-0 hidden-the_row-Tree-0 denote.Hole.Carrier.hidden
two-values = refl

-- three numbers, three functions of their branch, and for each value its weight and the sum up to it
die-functions : length (table_functions throwing mix 0) ≡ 12
unfolding shape-the_row-Tree-0 hidden-the_row-Tree-0 denote.Hole.Carrier.hidden
die-functions = refl

-- ---- two variables

abbrev go : Action
go = record {
  name = codes "go";
  tables = Branch 1 true (Branch 0 true (leaf 1000000000000 ∷ leaf 0 ∷ []) ∷ Branch 0 true (leaf 0 ∷ leaf 500000000000 ∷ []) ∷ [])
      ∷ Branch 1 false (Branch 1 true (leaf 1000000000000 ∷ leaf 0 ∷ []) ∷ Branch 1 true (leaf 0 ∷ leaf 1000000000000 ∷ []) ∷ []) ∷ [];
  cost = [];
}

abbrev moving : Process
moving = record {
  vars = record { name = codes "x"; values = codes "yes" ∷ codes "no" ∷ [] } ∷ record { name = codes "y"; values = codes "yes" ∷ codes "no" ∷ [] } ∷ [];
  dds = [];
  actions = go ∷ [];
  reward = [];
  discount = 500000;
  tolerance = pos 100000000;
  horizon = None;
}

-- at the first state the sum is one where y stays, and isn't where y changes
moving-sum : first_wrong (sums_of moving) ≡ Some (record { action = 0; var = 0; state = 0 ∷ 0 ∷ []; sum = pos 500000000000 })
unfolding shape-the_row-Tree-0 hidden-the_row-Tree-0 denote.Hole.Carrier.hidden
moving-sum = refl

-- the weight of x's second value follows the next value of y, and neither the next one of x nor the present one of y
follows-next : weight moving go 0 1 (0 ∷ 0 ∷ []) (0 ∷ 1 ∷ []) ≡ Num (pos 500000000000)
unfolding shape-the_row-Tree-0 hidden-the_row-Tree-0 denote.Hole.Carrier.hidden
follows-next = refl

-- the weights of two values each of two variables, and the functions of both tables
moving-weights : length (all_weights moving) ≡ 4
moving-weights = refl

moving-functions : length (all_table_functions moving) ≡ 28
unfolding shape-the_row-Tree-0 hidden-the_row-Tree-0 denote.Hole.Carrier.hidden
moving-functions = refl
