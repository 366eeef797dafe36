-- How many find-or-make calls an operation takes: where its memo may keep as many pairs as its two diagrams have pairs of nodes, no
-- more than those.
use Rattle.std.specs.Prelude.{◌≡◌, ℕ, ◌+◌, ◌*◌, ◌<◌, ◌≤◌, ◌⊎◌, true, All, Contains, length, take, Result, Ok, Err}
use Rattle.spd_cons_core.specs.declared.key.Entry.{Entry}
use Rattle.spd_memo.specs.Kept.{KeptAnswers, IsKept, Keeps}
use Rattle.spd_nodes.specs.declared.forest.StoreFault.{StoreFault}
use Rattle.spd_nodes.specs.Levels.{slots}
use Rattle.spd_nodes.specs.Refs.{node_count}
use Rattle.spd_nodes.specs.Trees.{Tree, IsNode}
use Rattle.spd_nodes.specs.Shown.{Shown}
use Rattle.spd_apply.specs.Halves.{pair_rank}
use Rattle.spd_apply.specs.declared.rule.Below.{Below}
use Rattle.spd_apply.specs.declared.rule.Below.TheVariants as B

-- how many pairs of nodes two trees have
abbrev pub pair_count : Tree → Tree → ℕ
pair_count t u = node_count t * node_count u

-- two known entries whose trees are nodes of these
pub record ArePart (s : Shown) (t u : Tree) (pair : Entry × Entry) : Type 0 where
  pub left_known : s.knows pair.0 ≡ true
  pub right_known : s.knows pair.1 ≡ true
  pub left : IsNode (s.tree pair.0) t
  pub right : IsNode (s.tree pair.1) u

-- a pair below is of nodes of these trees
abbrev pub IsPart : Shown → Tree → Tree → Below → Type 0
IsPart s t u (B.Known r) = Unit {0}
IsPart s t u (B.Pair f g) = ArePart s t u (f, g)

-- the n newest pairs of a memo are of nodes of these trees
pub record HasNewest (s : Shown) (t u : Tree) (k : KeptAnswers) (n : ℕ) : Type 0 where
  pub kept : IsKept k
  pub there : n ≤ length k.pairs
  pub each : All (λ e. ArePart s t u e.0) (take n k.pairs)

-- What a call took whose memo had n newest pairs of nodes of these trees: it has `newest` of them afterwards, and the call took at
-- most `each` steps for each one more, and for `unkept` pairs that aren't kept yet.
pub record Took (s : Shown) (t u : Tree) (k : KeptAnswers) (before after each n unkept : ℕ) : Type 0 where
  pub newest : ℕ
  pub has : HasNewest s t u k newest
  pub steps : after + each * n ≤ before + each * (newest + unkept)
  pub room : newest + unkept ≤ pair_count t u

-- A call that makes what is below counts: of whichever trees that is a pair of nodes, it takes so many steps if the memo may keep all
-- of their pairs.
pub record Counts (old new : Shown) (memo kept : KeptAnswers) (before after each : ℕ) (below : Below) (unkept : ℕ) : Type 0 where
  pub at : (t u : Tree) (n : ℕ) → IsPart old t u below → pair_count t u ≤ memo.capacity → HasNewest old t u memo n
      → Took new t u kept before after each n unkept

-- a call that failed has one pair that isn't kept yet
abbrev pub unkept_of : Result Entry StoreFault → ℕ
unkept_of (Ok r) = 0
unkept_of (Err e) = 1

-- what a memo keeps it kept before, or it is of fewer levels
pub record AddsLower (s : Shown) (old new : KeptAnswers) (levels : ℕ) : Type 0 where
  pub each : (f g r : Entry) → Contains new.pairs ((f, g), r) → Keeps old f g ⊎ (pair_rank (slots s.sizes) (s.tree f) (s.tree g) < levels)
