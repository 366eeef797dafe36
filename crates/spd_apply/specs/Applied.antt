-- An operation on leaves, carried to trees.
use Rattle.std.specs.Prelude.{◌≡◌, ℕ, Bool, cond, nat_lt, List}
use Rattle.spd_nodes.specs.Levels.{slots}
use Rattle.spd_apply.specs.Halves.{IsAligned}
use Rattle.spd_nodes.specs.declared.leaf.Leaf.{Leaf}
use Rattle.spd_nodes.specs.declared.leaf.Leaf.TheVariants.{Act}
use Rattle.spd_nodes.specs.Trees.{Tree, Ends, Tests, join}

-- each leaf changed
abbrev pub mapped : (Leaf → Leaf) → Tree → Tree
mapped f (Ends b) = Ends (f b)
mapped f (Tests l y n) = join l (mapped f y) (mapped f n)

-- a test of level `k`, whose children go on as `y` and `n`, beside a tree
abbrev pub against : ℕ → (Tree → Tree) → (Tree → Tree) → Tree → Tree
against k y n (Ends b) = join k (y (Ends b)) (n (Ends b))
against k y n (Tests l v m) =
    cond (nat_lt k l) (join k (y (Tests l v m)) (n (Tests l v m)))
    (cond (nat_lt l k) (join l (against k y n v) (against k y n m)) (join k (y v) (n m)))

-- the operation on the leaves of two trees
abbrev pub applied : (Leaf → Leaf → Leaf) → Tree → Tree → Tree
applied op (Ends a) u = mapped (op a) u
applied op (Tests k y n) u = against k (applied op y) (applied op n) u

-- 1 where two leaves fit an operation, else 0
abbrev pub fit_mark : (Leaf → Leaf → Bool) → Leaf → Leaf → Leaf
fit_mark fits a b = cond (fits a b) (Act 1) (Act 0)

-- each two leaves that meet fit
abbrev pub AllFit : (Leaf → Leaf → Bool) → Tree → Tree → Type 0
AllFit fits t u = applied (fit_mark fits) t u ≡ Ends (Act 1)

-- two trees on which an operation may be carried out: they are aligned, and the leaves that meet fit
pub record MayApply (fits : Leaf → Leaf → Bool) (sizes : List ℕ) (t u : Tree) : Type 0 where
  pub aligned : IsAligned (slots sizes) t u
  pub fit : AllFit fits t u

-- 1 where a leaf fits a map, else 0
abbrev pub map_mark : (Leaf → Bool) → Leaf → Leaf
map_mark fits b = cond (fits b) (Act 1) (Act 0)

-- each leaf of a tree fits
pub record EachFits (fits : Leaf → Bool) (t : Tree) : Type 0 where
  pub all : mapped (map_mark fits) t ≡ Ends (Act 1)
