-- What contracts see of a table and of its seats, and what the calls do to a seat.
use Rattle.std.specs.Prelude.{◌≡◌, ◌≢◌, ℕ, ◌-◌, ◌<◌, ◌≤◌, ◌⊎◌, true, [], ◌∷◌, ◌++◌, length, None}
use Rattle.std.specs.List.{Contains}
use Rattle.atomic_table.specs.Seated.{TableId}
use Rattle.spd_cons_core.specs.declared.key.Entry.{Entry}
use Rattle.spd_cons_core.specs.declared.key.Key.{Key}
use Rattle.spd_cons_core.specs.declared.mind.Known.{Known}
use Rattle.spd_cons_core.specs.Views.{Seat, Machine}
use Rattle.spd_cons_core.specs.Seats.{spent, seat_at, bucket_count, is_known, parts_known, learned}
use Rattle.spd_cons_core.specs.Events.{after_join}
use Rattle.spd_cons_core.specs.Invariants.{IsSized, IsSoundMachine, shares, filled, times_listed}
use Rattle.spd_cons.specs.declared.view.Size.{Size}

-- which table it is, with its limit and its numbers of seats and of buckets
pub record TableValue : Type 0 where
  pub id : TableId
  pub size : Size

-- of which table a seat is, and what it is there: a seat of the machine
pub record SeatValue : Type 0 where
  pub table : TableValue
  pub mind : Seat

-- the seat with which a table begins: it knows nothing, and may be split until all seats are made
abbrev pub first_mind : Size → Seat
first_mind size = record spent { live = true; stands = 1; splits = size.most - 1 }

abbrev pub first_seat : TableValue → SeatValue
first_seat table = record { table = table; mind = first_mind table.size }

abbrev pub known : Entry → Key → Known
known e key = record { entry = e; key = key }

-- A moment of a table of this size: the machine that it shows then, which meets the invariant, and has this seat as one of
-- its live ones.
pub record IsSeated (size : Size) (mind : Seat) : Type 0 where
  pub machine : Machine
  pub seat : ℕ
  pub sized : IsSized machine
  pub sound : IsSoundMachine machine
  pub limit : machine.limit ≡ size.limit
  pub most : machine.most ≡ size.most
  pub count : bucket_count machine ≡ size.count
  pub there : seat_at machine seat ≡ mind
  pub live : mind.live ≡ true

-- What holds of every seat between two of its calls. Equal entries have equal keys and equal keys equal entries. It knows
-- the entries in each key that it knows, and those that it published, and lists none of these twice. Where it has met the
-- end of the claims and is all seats of its table, it has published more than the table's limit.
pub record IsSeatOf (s : SeatValue) : Type 0 where
  pub keys : (k other : Known) → Contains s.mind.knows k → Contains s.mind.knows other → k.entry ≡ other.entry → k.key ≡ other.key
  pub entries : (k other : Known) → Contains s.mind.knows k → Contains s.mind.knows other → k.key ≡ other.key → k.entry ≡ other.entry
  pub parts : (k : Known) → Contains s.mind.knows k → parts_known s.mind.knows k.key ≡ true
  pub listed : (e : Entry) → Contains s.mind.published e → is_known s.mind.knows e ≡ true
  pub once : (e : ℕ) → times_listed e s.mind ≤ 1
  pub full : s.mind.ended ≡ true → shares s.mind ≡ s.table.size.most → s.table.size.limit < length s.mind.published

-- what no call of find-or-make changes
pub record Keeps (old new : SeatValue) : Type 0 where
  pub table : new.table ≡ old.table
  pub stands : new.mind.stands ≡ old.mind.stands
  pub splits : new.mind.splits ≡ old.mind.splits

-- The key's entry was found or made: it is known with this key, and is the one that was known before if one was. Nothing
-- else is learned, and nothing else is published.
pub record Finds (old new : SeatValue) (key : Key) (e : Entry) : Type 0 where
  pub knows : new.mind.knows ≡ learned old.mind.knows (known e key)
  pub has : Contains new.mind.knows (known e key)
  pub same : (other : Entry) → Contains old.mind.knows (known other key) → other ≡ e
  pub published : (new.mind.published ≡ old.mind.published) ⊎ (new.mind.published ≡ old.mind.published ++ e ∷ [])
  pub ended : new.mind.ended ≡ old.mind.ended

-- The table is full, so that more than its limit are published, and the seat has no spare. It knows no entry with the key,
-- and knows and has published what it did before.
pub record Lacks (old new : SeatValue) (key : Key) : Type 0 where
  pub knows : new.mind.knows ≡ old.mind.knows
  pub published : new.mind.published ≡ old.mind.published
  pub ended : new.mind.ended ≡ true
  pub no_spare : old.mind.spare ≡ None
  pub unknown : (k : Known) → Contains old.mind.knows k → k.key ≢ key
  pub more : (m : IsSeated new.table.size new.mind) × (new.table.size.limit < filled m.machine)

-- The seat took another one over, as a join of the machine does, and knows what both knew with the same keys.
pub record Joins (old other new : SeatValue) : Type 0 where
  pub is : new ≡ record old { mind = after_join old.mind other.mind }
  pub first : (k : Known) → Contains old.mind.knows k → Contains new.mind.knows k
  pub second : (k : Known) → Contains other.mind.knows k → Contains new.mind.knows k
  pub only : (k : Known) → Contains new.mind.knows k → Contains old.mind.knows k ⊎ Contains other.mind.knows k

-- The number of buckets that are filled, at a moment in which the seat is all seats of its table.
abbrev pub IsPublishedCount : SeatValue → ℕ → Type 0
IsPublishedCount s n = (m : IsSeated s.table.size s.mind) × (filled m.machine ≡ n)
