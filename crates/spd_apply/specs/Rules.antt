-- How an operation on diagrams goes down: what it makes of two trees, said of the trees below theirs.
use Rattle.std.specs.Prelude.{◌≡◌, ℕ, ◌+◌, ◌<◌, ◌≤◌, true, Contains}
use Rattle.spd_cons_core.specs.declared.key.Entry.{Entry}
use Rattle.spd_memo.specs.Kept.{KeptAnswers}
use Rattle.spd_nodes.specs.Levels.{levels_of, slots}
use Rattle.spd_nodes.specs.Trees.{Tree, Ends, IsNode, join, CanTest}
use Rattle.spd_nodes.specs.Shown.{Shown, IsSound, IsViewOf}
use Rattle.spd_apply.specs.Halves.{pair_rank}
use Rattle.spd_apply.specs.declared.rule.Node.{Node}
use Rattle.spd_apply.specs.declared.rule.Below.{Below}
use Rattle.spd_apply.specs.declared.rule.Below.TheVariants as B
use Rattle.spd_apply.specs.declared.rule.Plan.{Plan}
use Rattle.spd_apply.specs.declared.rule.Plan.TheVariants as P

-- what an operation makes of two trees
abbrev pub Making : Type 0
Making = Tree → Tree → Tree

-- the tree that is made below
abbrev pub below_tree : Making → Shown → Below → Tree
below_tree making s (B.Known r) = s.tree r
below_tree making s (B.Pair f g) = making (s.tree f) (s.tree g)

-- how many levels what is below has at most, and one more for a pair
abbrev pub below_rank : Shown → Below → ℕ
below_rank s (B.Known r) = 0
below_rank s (B.Pair f g) = 1 + pair_rank (slots s.sizes) (s.tree f) (s.tree g)

-- two known entries that an operation may meet
pub record MayMeet (may : Tree → Tree → Type 0) (s : Shown) (f g : Entry) : Type 0 where
  pub left : s.knows f ≡ true
  pub right : s.knows g ≡ true
  pub trees : may (s.tree f) (s.tree g)

-- what is below is a known entry, or a pair that the operation may meet
abbrev pub IsBelow : (Tree → Tree → Type 0) → Shown → Below → Type 0
IsBelow may s (B.Known r) = s.knows r ≡ true
IsBelow may s (B.Pair f g) = MayMeet may s f g

-- a pair below is of nodes of two entries
abbrev pub IsOfNodes : Shown → Entry → Entry → Below → Type 0
IsOfNodes s f g (B.Known r) = Unit {0}
IsOfNodes s f g (B.Pair x y) = IsNode (s.tree x) (s.tree f) × IsNode (s.tree y) (s.tree g)

-- what is made is what is made below
pub record PlansBelow (making : Making) (may : Tree → Tree → Type 0) (s : Shown) (f g : Entry) (below : Below) : Type 0 where
  pub is : making (s.tree f) (s.tree g) ≡ below_tree making s below
  pub goes : IsBelow may s below
  pub nodes : IsOfNodes s f g below
  pub smaller : below_rank s below ≤ pair_rank (slots s.sizes) (s.tree f) (s.tree g)

-- what is made is a test of what is made below, or one of these where both are equal
pub record PlansTest (making : Making) (may : Tree → Tree → Type 0) (s : Shown) (f g : Entry) (level : ℕ) (yes no : Below) : Type 0 where
  pub level_in : level < levels_of (slots s.sizes)
  pub is : making (s.tree f) (s.tree g) ≡ join level (below_tree making s yes) (below_tree making s no)
  pub can_test : CanTest (slots s.sizes) level (below_tree making s yes) (below_tree making s no)
  pub yes_goes : IsBelow may s yes
  pub no_goes : IsBelow may s no
  pub yes_nodes : IsOfNodes s f g yes
  pub no_nodes : IsOfNodes s f g no
  pub yes_smaller : below_rank s yes ≤ pair_rank (slots s.sizes) (s.tree f) (s.tree g)
  pub no_smaller : below_rank s no ≤ pair_rank (slots s.sizes) (s.tree f) (s.tree g)

-- a known entry, with the root of its tree
pub record IsNodeAt (s : Shown) (n : Node) : Type 0 where
  pub known : s.knows n.name ≡ true
  pub root : IsViewOf s n.name n.root

-- a plan says what is made of two entries, or that they are trees from which an operation goes no further
abbrev pub IsPlan : Making → (Tree → Tree → Type 0) → (Tree → Tree → Type 0) → Shown → Entry → Entry → Plan → Type 0
IsPlan making may ends s f g (P.Leaf a) = making (s.tree f) (s.tree g) ≡ Ends a
IsPlan making may ends s f g P.Bottom = ends (s.tree f) (s.tree g)
IsPlan making may ends s f g (P.Below b) = PlansBelow making may s f g b
IsPlan making may ends s f g (P.Test l y n) = PlansTest making may s f g l.0 y n

-- an entry is what an operation makes of two others
pub record IsAnswer (making : Making) (s : Shown) (f g r : Entry) : Type 0 where
  pub left : s.knows f ≡ true
  pub right : s.knows g ≡ true
  pub answer : s.knows r ≡ true
  pub is : s.tree r ≡ making (s.tree f) (s.tree g)

-- a memo holds only answers of an operation, for entries that the forest knows
pub record HoldsAnswers (making : Making) (s : Shown) (k : KeptAnswers) : Type 0 where
  pub each : (f g r : Entry) → Contains k.pairs ((f, g), r) → IsAnswer making s f g r

-- two known entries may be met, and the memo holds only answers
pub record IsReady (making : Making) (may : Tree → Tree → Type 0) (s : Shown) (f g : Entry) (k : KeptAnswers) : Type 0 where
  pub sound : IsSound s
  pub left : s.knows f ≡ true
  pub right : s.knows g ≡ true
  pub may_meet : may (s.tree f) (s.tree g)
  pub memo : HoldsAnswers making s k
