-- The machine that the words and the seats' views of a running table show, and the rule that it meets.
use Rattle.std.specs.Prelude.{◌≡◌, ℕ, ◌+◌, ◌*◌, true, List, [], ◌∷◌, map, length, take, drop, slice_index}
use Rattle.std.proofs.Common.{zero, suc}
use Rattle.std.specs.List.{Contains}
use lib.ListN.{get_elem?}
use mathlib.Core.Option.{some}
use Rattle.atomic_table.specs.Table.{State}
use Rattle.spd_cons_core.specs.declared.mind.Known.{Known}
use Rattle.spd_cons_core.specs.Views.{Seat, Machine}
use Rattle.spd_cons_core.specs.Spelling.{words_of, IsKey}
use Rattle.spd_cons_core.specs.Seats.{Names, entry_words}
use Rattle.spd_cons_core.specs.Invariants.{IsSized, IsSoundMachine}
use Rattle.spd_cons.specs.declared.view.Size.{Size}
use Rattle.spd_cons.specs.declared.view.View.{View}
use Rattle.spd_cons.specs.Values.{first_mind}

abbrev pub Running : Type 0
Running = State (Unit {0}) View

-- the first n entries that begin here, five words each
abbrev pub fives : ℕ → List ℕ → List (List ℕ)
fives zero ws = []
fives (suc n) ws = take 5 ws ∷ fives n (drop 5 ws)

-- the word at which a word of an entry stands
abbrev pub word_place : ℕ → ℕ → ℕ → ℕ
word_place count e word = (1 + count) + (e * 5 + word)

abbrev pub mind_of : View → Seat
mind_of v = v.mind

-- word 0 is the claim number, the buckets stand behind it, and then the entries; the views are the seats
abbrev pub machine_of : Size → Running → Machine
machine_of k s = record {
  limit = k.limit;
  most = k.most;
  claims = slice_index s.words 0;
  buckets = take k.count (drop 1 s.words);
  entries = fives (k.limit + k.most) (drop (1 + k.count) s.words);
  seats = map mind_of s.views;
}

-- the entry is published with this key
pub record HasKey (c : Machine) (k : Known) : Type 0 where
  pub published : (b : ℕ) × Names c b k.entry.0
  pub words : entry_words c k.entry.0 ≡ words_of k.key
  pub in_range : IsKey k.key

-- a live view has the table's numbers, and what it has heard of is published
pub record IsView (k : Size) (c : Machine) (v : View) : Type 0 where
  pub size : v.size ≡ k
  pub heard : (x : Known) → Contains v.heard x → HasKey c x

-- the machine that the words and the views show meets the invariant
pub record IsRuled (k : Size) (s : Running) : Type 0 where
  pub width : length s.words ≡ 1 + k.count + 5 * (k.limit + k.most)
  pub views : (i : ℕ) (v : View) → get_elem? s.views i ≡ some v → v.mind.live ≡ true → IsView k (machine_of k s) v
  pub sized : IsSized (machine_of k s)
  pub sound : IsSoundMachine (machine_of k s)

abbrev pub first_view : Size → View
first_view k = record { size = k; mind = first_mind k; heard = [] }
