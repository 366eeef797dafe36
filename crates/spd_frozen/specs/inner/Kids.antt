-- The trees that follow the values of a slot in a test tree.
use Rattle.std.specs.Prelude.{ℕ, zero, suc, ◌+◌, ◌==◌, cond, nat_lt}
use Rattle.spd_nodes.specs.Trees.{Tree, Ends, Tests}

-- the tree where the test of a level holds: the tree itself where its root isn't that test
abbrev pub yes_at : ℕ → Tree → Tree
yes_at l (Ends a) = Ends a
yes_at l (Tests k y n) = cond (k == l) y (Tests k y n)

-- the tree where it doesn't hold
abbrev pub no_at : ℕ → Tree → Tree
no_at l (Ends a) = Ends a
no_at l (Tests k y n) = cond (k == l) n (Tests k y n)

-- the tree where the first n tests from level l on don't hold
abbrev pub rest_after : ℕ → ℕ → Tree → Tree
rest_after zero l t = t
rest_after (suc n) l t = no_at (l + n) (rest_after n l t)

-- the tree that follows a value of a slot with so many tests, the first of which has level l
abbrev pub kid_tree : ℕ → ℕ → Tree → ℕ → Tree
kid_tree tests l t v = cond (nat_lt v tests) (yes_at (l + v) (rest_after v l t)) (rest_after v l t)
