-- The functions that a model is made into, and the functions on the way, by which the nodes of building are counted.
use Rattle.std.specs.Prelude.{ℕ, suc, List, [], ◌∷◌, ◌++◌, length, map, flat_map, take, drop, ℤ, pos, slice_index, slice_get, Some, None}
use Rattle.spd_scaled.specs.Scaled.{floor_div}
use Rattle.spd_model.specs.declared.tree.Tree.{Tree, Leaf, Named, Branch', Row_of-Tree, end_of-Tree, more_of-Tree}
use Rattle.spd_model.specs.declared.process.Action.{Action}
use Rattle.spd_model.specs.Process.{Process}
use Rattle.spd_model.specs.Numbers.{numbers_below, sum_below, total, greatest}
use Rattle.spd_model.specs.States.{sizes}
use Rattle.spd_model.specs.Trees.{value_of}
use Rattle.spd_model.specs.Chances.{one, probability, reward_of}
use Rattle.spd_nodes.specs.declared.leaf.Leaf.TheVariants.{Num}
use Rattle.spd_nodes.specs.States.{Function}
use Rattle.spd_restrict.specs.Chosen.{branch_functions}

-- numbers of the present and the next state, as a function with leaves
abbrev pub numbers : (List ℕ → List ℕ → ℤ) → Function
numbers f s t = Num (f s t)

-- one number at all states
abbrev pub constant : ℤ → Function
constant x = numbers (λ s t. x)

-- ---- trees

-- the function of a tree, in units of 10^-12
abbrev pub tree_function : Process → Tree → Function
tree_function m tree = numbers (value_of m tree)

abbrev pub row_functions : Process → {n : _} → Row_of-Tree n → List Function
row_functions m end_of-Tree = []
row_functions m (more_of-Tree kid kids) = tree_function m kid ∷ row_functions m kids

-- The functions of a tree: of a number it is the constant; of a branch those of its subtrees, and then, for each of the variable's
-- values from the last to the first, the branch from that value on. A decision diagram that is named has its own ones.
abbrev mutual
  pub tree_functions : Process → Tree → List Function
  tree_functions m (Leaf x) = constant x ∷ []
  tree_functions m (Named d) = []
  tree_functions m (Branch' var primed shape kids) = kids_functions m kids ++ branch_functions var primed (row_functions m kids)

  pub kids_functions : Process → {n : _} → Row_of-Tree n → List Function
  kids_functions m end_of-Tree = []
  kids_functions m (more_of-Tree kid kids) = tree_functions m kid ++ kids_functions m kids

-- ---- probabilities

-- the function of a variable's table after an action
abbrev pub table_function : Process → Action → ℕ → Function
table_function m a i = numbers (λ s t. elim (slice_get a.tables i) [ None ↦ pos 0 | Some tree ↦ value_of m tree s t ])

-- the functions of its tree
abbrev pub own_functions : Process → Action → ℕ → List Function
own_functions m a i = elim (slice_get a.tables i) [ None ↦ [] | Some tree ↦ tree_functions m tree ]

-- the weight of value v of variable i after an action: its probability, by the present state and the next values of later variables
abbrev pub weight : Process → Action → ℕ → ℕ → Function
weight m a i v = numbers (λ s t. probability m a s i v (drop (suc i) t))

-- the sum of the first n weights
abbrev pub weight_sum : Process → Action → ℕ → ℕ → Function
weight_sum m a i n = numbers (λ s t. sum_below n (λ v. probability m a s i v (drop (suc i) t)))

-- the weights of a variable's values, and those of all actions and variables in order
abbrev pub weights_of : Process → Action → ℕ → List Function
weights_of m a i = map (weight m a i) (numbers_below (slice_index (sizes m) i))

abbrev pub all_weights : Process → List Function
all_weights m = flat_map (λ a. flat_map (weights_of m a) (numbers_below (length m.vars))) m.actions

-- The functions of a variable's table: those of its tree, and for each value its weight and the sum of the weights up to it.
abbrev pub table_functions : Process → Action → ℕ → List Function
table_functions m a i =
    own_functions m a i
    ++ flat_map (λ v. weight m a i v ∷ weight_sum m a i (suc v) ∷ []) (numbers_below (slice_index (sizes m) i))

-- ---- rewards

-- the sum of the first n of some parts, in units of 10^-12
abbrev pub part_sum : Process → List Tree → ℕ → Function
part_sum m trees n = numbers (λ s t. total (map (λ tree. value_of m tree s t) (take n trees)))

-- the sum of all parts in units of 10^-9
abbrev pub whole_sum : Process → List Tree → Function
whole_sum m trees = numbers (λ s t. floor_div (total (map (λ tree. value_of m tree s t) trees)) (pos 1000))

-- The functions of one of some parts: those of its tree, and the sum of the parts up to it.
abbrev pub part_functions_at : Process → List Tree → ℕ → List Function
part_functions_at m trees n = elim (slice_get trees n) [ None ↦ [] | Some tree ↦ tree_functions m tree ] ++ part_sum m trees (suc n) ∷ []

-- The functions of a reward or of a cost: those of its parts in order, and the sum of all parts in units of 10^-9.
abbrev pub part_functions : Process → List Tree → List Function
part_functions m trees = flat_map (part_functions_at m trees) (numbers_below (length trees)) ++ whole_sum m trees ∷ []

-- the reward of an action, and the greatest reward over the first n actions, in units of 10^-9
abbrev pub reward : Process → Action → Function
reward m a = numbers (λ s t. reward_of m a s)

abbrev pub greatest_reward : Process → ℕ → Function
greatest_reward m n = numbers (λ s t. greatest (map (λ a. reward_of m a s) (take n m.actions)))

-- the functions of an action's reward: those of its cost, and the reward
abbrev pub reward_functions : Process → Action → List Function
reward_functions m a = part_functions m a.cost ++ reward m a ∷ []

-- the start: the greatest reward over all actions
abbrev pub start : Process → Function
start m = numbers (λ s t. greatest (map (λ a. reward_of m a s) m.actions))

-- its functions: the greatest reward over the actions up to each
abbrev pub start_functions : Process → List Function
start_functions m = flat_map (λ k. greatest_reward m (suc k) ∷ []) (numbers_below (length m.actions))

-- ---- all of them

-- The functions of building: 0 and one; those of each decision diagram; those of each action's tables; those of the reward; those
-- of each action's reward; and those of the start.
abbrev pub building_functions : Process → List Function
building_functions m =
    (constant (pos 0) ∷ constant one ∷ [])
    ++ flat_map (tree_functions m) m.dds
    ++ flat_map (λ a. flat_map (table_functions m a) (numbers_below (length m.vars))) m.actions
    ++ part_functions m m.reward
    ++ flat_map (reward_functions m) m.actions
    ++ start_functions m
