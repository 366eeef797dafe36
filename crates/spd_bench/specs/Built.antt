-- What the bench builds diagrams from.
use Rattle.std.specs.Prelude.{◌≡◌, ℕ, ◌*◌, Bool, true, false, nat_le, List, [], ◌∷◌, pos, negsuc}
use Rattle.std.proofs.Common.{zero, suc}
use Rattle.spd_cons_core.specs.declared.key.Entry.{Entry}
use Rattle.spd_nodes.specs.declared.leaf.Leaf.{Leaf}
use Rattle.spd_nodes.specs.declared.leaf.Leaf.TheVariants.{Num, Pair, Act}
use Rattle.spd_nodes.specs.Levels.{slots}
use Rattle.spd_nodes.specs.Trees.{Tree, Ends, Tests, IsFrom}
use Rattle.spd_nodes.specs.Shown.{Shown, IsWhole}
use Rattle.spd_apply.specs.Applied.{applied}
use Rattle.spd_restrict.specs.Primed.{is_plain_level}

-- the sizes of some two-valued variables
abbrev pub twos : ℕ → List ℕ
twos zero = []
twos (suc n) = 2 ∷ twos n

-- a known leaf
pub record IsKnownLeaf (s : Shown) (r : Entry) : Type 0 where
  pub knows : s.knows r ≡ true
  pub leaf : Leaf
  pub tree : s.tree r ≡ Ends leaf

-- whether a leaf is a Num from 0 to a bound
abbrev pub is_num_to : ℕ → Leaf → Bool
is_num_to bound (Num (pos n)) = nat_le n bound
is_num_to bound (Num (negsuc n)) = false
is_num_to bound (Pair a b) = false
is_num_to bound (Act a) = false

-- a tree tests plain levels alone, and its leaves are Num from 0 to a bound
abbrev pub CountsTo : List ℕ → ℕ → Tree → Type 0
CountsTo sizes bound (Ends a) = is_num_to bound a ≡ true
CountsTo sizes bound (Tests l y n) = (is_plain_level sizes l ≡ true) × CountsTo sizes bound y × CountsTo sizes bound n

-- a known whole entry of such a tree, which tests no variable before `var`, where all variables have two values
pub record IsCount (s : Shown) (bound var : ℕ) (r : Entry) : Type 0 where
  pub knows : s.knows r ≡ true
  pub from : IsFrom (slots s.sizes) 0 (2 * var) (s.tree r)
  pub counts : CountsTo s.sizes bound (s.tree r)

-- an operation is defined on any two Num from 0 to a bound
pub record FitsTo (fits : Leaf → Leaf → Bool) (bound : ℕ) : Type 0 where
  pub at : (a b : Leaf) → is_num_to bound a ≡ true → is_num_to bound b ≡ true → fits a b ≡ true

-- a known whole entry of an operation's answers for the trees of two others
pub record IsApplied (op : Leaf → Leaf → Leaf) (s t : Shown) (f g r : Entry) : Type 0 where
  pub knows : t.knows r ≡ true
  pub whole : IsWhole t r
  pub tree : t.tree r ≡ applied op (s.tree f) (s.tree g)
