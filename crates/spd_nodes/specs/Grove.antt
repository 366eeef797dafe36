-- What contracts see of a forest over a table that threads share.
use Rattle.std.specs.Prelude.{◌≡◌, ℕ, ◌+◌, ◌-◌, false, true, List, [], Result, IfErr}
use Rattle.std.proofs.Common.{suc}
use Rattle.spd_cons_core.specs.declared.key.Entry.{Entry}
use Rattle.spd_cons_core.specs.declared.key.Key.{Key}
use Rattle.spd_cons.specs.Values.{SeatValue, TableValue, IsSeatOf}
use Rattle.spd_nodes.specs.Levels.{levels_of, slots}
use Rattle.spd_nodes.specs.Limits.{IsLayout}
use Rattle.spd_nodes.specs.declared.forest.StoreFault.{StoreFault}
use Rattle.spd_nodes.specs.declared.forest.StoreFault.TheVariants as F
use Rattle.spd_nodes.specs.Trees.{Tree, IsNodeOf}
use Rattle.spd_nodes.specs.Shown.{Shown, Grows, MakesOnly, MakesTree}
use Rattle.spd_nodes.specs.KnownTrees.{AllFitIn, key_tree, shown_by}

-- each variable's number of values, and the seat
pub record GroveValue : Type 0 where
  pub sizes : List ℕ
  pub seat : SeatValue

-- what a grove shows as a forest
abbrev pub shown_of : GroveValue → Shown
shown_of g = shown_by g.sizes g.seat

-- the seat is one of the table, and all that it knows are nodes of the layout
pub record IsGrove (table : TableValue) (g : GroveValue) : Type 0 where
  pub own : g.seat.table ≡ table
  pub layout : IsLayout g.sizes
  pub seat : IsSeatOf g.seat
  pub fit : AllFitIn (slots g.sizes) g.seat.mind.knows

-- what no call of the forest changes: the table, the seats that the seat stands for, and its splits left
pub record StandingValue : Type 0 where
  pub table : TableValue
  pub stands : ℕ
  pub splits : ℕ

abbrev pub standing_of : GroveValue → StandingValue
standing_of g = record { table = g.seat.table; stands = g.seat.mind.stands; splits = g.seat.mind.splits }

abbrev pub no_standing : StandingValue
no_standing = record {
  table = record {
    id = record { words = 0; slots = 0; views_name = 0; atom = 0; block = 0; offset = 0; slot_names = [] };
    size = record { limit = 0; most = 0; count = 0 };
  };
  stands = 0;
  splits = 0;
}

-- the tree of a key over what a grove knows
abbrev pub tree_in_grove : GroveValue → Key → Tree
tree_in_grove g key = key_tree (suc (levels_of (slots g.sizes))) g.seat.mind.knows key

-- a call that looks for a key's tree and makes it where it isn't known; it never wants memory
pub record FindsKey (old new : GroveValue) (key : Key) (result : Result Entry StoreFault) : Type 0 where
  pub made : MakesTree (shown_of old) (shown_of new) (tree_in_grove old key) result
  pub full : IfErr result (λ e. e ≡ F.Full)
  pub keeps : standing_of new ≡ standing_of old

-- All that a forest knew is known with its tree, whatever is published: so much is left to a table of answers.
pub record KeepsTrees (s t : Shown) : Type 0 where
  pub sizes : t.sizes ≡ s.sizes
  pub knows : (r : Entry) → s.knows r ≡ true → t.knows r ≡ true
  pub trees : (r : Entry) → s.knows r ≡ true → t.tree r ≡ s.tree r

-- A grove is split: what is left shows all that it showed and may be split once less. The new one knows the same trees of the
-- same table, published nothing, isn't full, stands for itself and can't be split.
pub record Splits (old left new : GroveValue) : Type 0 where
  pub shows : shown_of left ≡ shown_of old
  pub standing : standing_of left ≡ record (standing_of old) { splits = old.seat.mind.splits - 1 }
  pub trees : KeepsTrees (shown_of old) (shown_of new)
  pub only : (r : Entry) → (shown_of new).knows r ≡ true → (shown_of old).knows r ≡ true
  pub published : (r : Entry) → (shown_of new).published r ≡ false
  pub full : (shown_of new).full ≡ false
  pub new_standing : standing_of new ≡ record { table = old.seat.table; stands = 1; splits = 0 }

-- A grove took another one over: it shows all that both showed, and nothing else. What the other one published is all that it
-- published since, so where those are nodes of some trees, nodes of these trees alone were published.
pub record Joins (old other new : GroveValue) : Type 0 where
  pub first : Grows (shown_of old) (shown_of new)
  pub second : Grows (shown_of other) (shown_of new)
  pub makes : (ts : List Tree) → ((r : Entry) → (shown_of other).published r ≡ true → IsNodeOf ((shown_of other).tree r) ts) → MakesOnly (shown_of old) (shown_of new) ts
  pub standing : standing_of new ≡ record { table = old.seat.table; stands = old.seat.mind.stands + other.seat.mind.stands; splits = old.seat.mind.splits + other.seat.mind.splits }
