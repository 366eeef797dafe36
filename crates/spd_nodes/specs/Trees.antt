-- Test trees over slots, and the test tree of a function. The reduced form is that of decision diagrams (Bryant, 1986).
--
-- Where a definition takes a list of slots and a level `b`, the list's first slot begins at level `b`.
use Rattle.std.specs.Prelude.{◌≡◌, ℕ, ◌+◌, ◌-◌, ◌<◌, ◌≤◌, ◌≢◌, ◌⊎◌, ◌==◌, ◌&&◌, Bool, true, false, cond, List, [], ◌∷◌, ◌++◌}
use Rattle.std.proofs.Common.{zero, suc}
use Rattle.std.specs.Ordering.{int_eq}
use Rattle.spd_nodes.specs.Levels.{levels_of, passes, after, is_first}
use Rattle.spd_nodes.specs.declared.leaf.Leaf.{Leaf}
use Rattle.spd_nodes.specs.declared.leaf.Leaf.TheVariants.{Num, Pair, Act}

-- a leaf, or a test of a level with the tree where it holds and the tree where it doesn't
pub data Tree : Type 0 where
  Ends : Leaf → Tree
  Tests : ℕ → Tree → Tree → Tree

-- whether two leaves are of one kind and have the same numbers
abbrev pub leaf_eq : Leaf → Leaf → Bool
leaf_eq (Num a) (Num b) = int_eq a b
leaf_eq (Num a) (Pair b y) = false
leaf_eq (Num a) (Act b) = false
leaf_eq (Pair a x) (Num b) = false
leaf_eq (Pair a x) (Pair b y) = int_eq a b && int_eq x y
leaf_eq (Pair a x) (Act b) = false
leaf_eq (Act a) (Num b) = false
leaf_eq (Act a) (Pair b y) = false
leaf_eq (Act a) (Act b) = a == b

-- whether two trees are the same
abbrev pub tree_eq : Tree → Tree → Bool
tree_eq (Ends a) (Ends b) = leaf_eq a b
tree_eq (Ends a) (Tests l y n) = false
tree_eq (Tests k y n) (Ends b) = false
tree_eq (Tests k y n) (Tests l v m) = (k == l) && (tree_eq y v && tree_eq n m)

-- the leaf that is reached by following a point's tests
abbrev pub value_at : List ℕ → ℕ → Tree → List ℕ → Leaf
value_at ds b (Ends a) p = a
value_at ds b (Tests l y n) p = cond (passes ds (l - b) p) (value_at ds b y p) (value_at ds b n p)

-- whole, which is a leaf or a test of a slot's first value, and with no root below level `e`
abbrev pub IsFrom : List ℕ → ℕ → ℕ → Tree → Type 0
IsFrom ds b e (Ends a) = Unit {0}
IsFrom ds b e (Tests l y n) = (e ≤ l) × (is_first ds (l - b) ≡ true)

-- its root tests this level
abbrev pub IsAt : ℕ → Tree → Type 0
IsAt k (Ends a) = ⊥
IsAt k (Tests l y n) = l ≡ k

-- its root tests this level, or it is past the level's slot
abbrev pub IsAtOrPast : List ℕ → ℕ → Tree → Type 0
IsAtOrPast ds l t = IsFrom ds 0 (after ds l) t ⊎ IsAt l t

-- A tree is reduced where at each test the children differ, the one where it holds is whole and past the slot, and the
-- other one is that too, or is the slot's next test.
abbrev pub IsReduced : List ℕ → ℕ → Tree → Type 0
IsReduced ds b (Ends a) = Unit {0}
IsReduced ds b (Tests l y n) =
    (b ≤ l) × (l - b < levels_of ds) × (y ≢ n) × IsFrom ds b (b + after ds (l - b)) y
    × (IsFrom ds b (b + after ds (l - b)) n ⊎ (IsAt (l + 1) n × (l + 1 < b + after ds (l - b)))) × IsReduced ds b y × IsReduced ds b n

-- whether two trees may be the children of a test of this level, or be equal where it is left out
pub record CanTest (ds : List ℕ) (l : ℕ) (y n : Tree) : Type 0 where
  pub yes_fits : IsFrom ds 0 (after ds l) y
  pub no_fits : IsFrom ds 0 (after ds l) n ⊎ (IsAt (l + 1) n × (l + 1 < after ds l))

-- the test with these two children, or the second one where both are equal
abbrev pub join : ℕ → Tree → Tree → Tree
join l y n = cond (tree_eq y n) n (Tests l y n)

-- the tests of one slot that are left: `n` of them, from value `j` and level `l` on; after the last test it is the last value
abbrev pub chain : ℕ → ℕ → ℕ → (ℕ → Tree) → Tree
chain zero j l sub = sub j
chain (suc n) j l sub = join l (sub j) (chain n (j + 1) (l + 1) sub)

-- the test tree of a function of points, from level `b` on
abbrev pub tree_of : List ℕ → ℕ → (List ℕ → Leaf) → Tree
tree_of [] b f = Ends (f [])
tree_of (d ∷ ds) b f = chain (d - 1) 0 b (λ j. tree_of ds (b + (d - 1)) (λ p. f (j ∷ p)))

-- a tree is a node of another one: it is one of its subtrees, the whole tree included
pub data IsNode : Tree → Tree → Type 0 where
  Itself : {t : Tree} → IsNode t t
  InYes : {t y n : Tree} {l : ℕ} → IsNode t y → IsNode t (Tests l y n)
  InNo : {t y n : Tree} {l : ℕ} → IsNode t n → IsNode t (Tests l y n)

-- a tree is a node of one of these
abbrev pub IsNodeOf : Tree → List Tree → Type 0
IsNodeOf x [] = ⊥
IsNodeOf x (t ∷ ts) = IsNode x t ⊎ IsNodeOf x ts

-- all subtrees of a tree, each as often as it stands there
abbrev pub subtrees_of : Tree → List Tree
subtrees_of (Ends a) = Ends a ∷ []
subtrees_of (Tests l y n) = Tests l y n ∷ (subtrees_of y ++ subtrees_of n)

-- how many levels a tree has at most, from its root's level on
abbrev pub tree_rank : List ℕ → Tree → ℕ
tree_rank ds (Ends a) = 0
tree_rank ds (Tests l y n) = levels_of ds - l
