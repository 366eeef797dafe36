-- A tree where a test holds, and where it doesn't.
use Rattle.std.specs.Prelude.{◌≡◌, ℕ, ◌<◌, ◌≤◌, ◌⊎◌, ◌==◌, cond, List, max}
use Rattle.spd_nodes.specs.Levels.{after}
use Rattle.spd_nodes.specs.Trees.{Tree, Ends, Tests, IsFrom, tree_rank}

-- a tree where a level's test holds, if it tests that level first, else the tree
abbrev pub yes_at : ℕ → Tree → Tree
yes_at l (Ends a) = Ends a
yes_at l (Tests k y n) = cond (k == l) y (Tests k y n)

-- a tree where it doesn't
abbrev pub no_at : ℕ → Tree → Tree
no_at l (Ends a) = Ends a
no_at l (Tests k y n) = cond (k == l) n (Tests k y n)

-- a tree is a leaf
abbrev pub IsLeaf : Tree → Type 0
IsLeaf (Ends a) = Unit {0}
IsLeaf (Tests l y n) = ⊥

-- two trees are leaves
abbrev pub AreLeaves : Tree → Tree → Type 0
AreLeaves (Ends a) u = IsLeaf u
AreLeaves (Tests l y n) u = ⊥

-- the root of a tree isn't before a level
abbrev pub IsNotBefore : ℕ → Tree → Type 0
IsNotBefore l (Ends a) = Unit {0}
IsNotBefore l (Tests k y n) = l ≤ k

-- two trees that an operation may meet: where both roots test one slot, they test one level
abbrev pub IsAligned : List ℕ → Tree → Tree → Type 0
IsAligned ds (Ends a) u = Unit {0}
IsAligned ds (Tests k y n) (Ends b) = Unit {0}
IsAligned ds (Tests k y n) (Tests l v m) = (k ≡ l) ⊎ ((k < l) × IsFrom ds 0 (after ds k) (Tests l v m)) ⊎ ((l < k) × IsFrom ds 0 (after ds l) (Tests k y n))

-- how many levels two trees have at most
abbrev pub pair_rank : List ℕ → Tree → Tree → ℕ
pair_rank ds t u = max (tree_rank ds t) (tree_rank ds u)
