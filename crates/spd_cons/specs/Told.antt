-- What each atomic step of the running table tells its seat.
use Rattle.std.specs.Prelude.{◌≡◌, ℕ, ◌+◌, ◌<◌, true, [], slice_index, Some, unwrap_or}
use Rattle.std.specs.List.{Contains}
use Rattle.atomic_table.specs.Table.{Me}
use Rattle.spd_cons_core.specs.declared.key.Entry.{Entry}
use Rattle.spd_cons_core.specs.declared.key.Key.{Key}
use Rattle.spd_cons_core.specs.declared.key.Key.TheVariants.{Act}
use Rattle.spd_cons_core.specs.declared.mind.Known.{Known}
use Rattle.spd_cons_core.specs.declared.mind.Call.{Call}
use Rattle.spd_cons_core.specs.declared.event.Event.{Event}
use Rattle.spd_cons_core.specs.declared.event.Event.TheVariants.{LoadBucket, Claim, StoreContent, ExchangeBucket, LoadContent}
use Rattle.spd_cons_core.specs.Views.{Seat, Machine}
use Rattle.spd_cons_core.specs.Spelling.{words_of}
use Rattle.spd_cons_core.specs.Seats.{spent, bucket, entry, entry_words, is_known}
use Rattle.spd_cons_core.specs.Events.{new_call, call_for, after_bucket, after_claim, after_exchange, after_content, after_split, split_off, after_join, step}
use Rattle.spd_cons.specs.declared.view.View.{View}
use Rattle.spd_cons.specs.Values.{IsSeated}
use Rattle.spd_cons.specs.Ruled.{word_place}

-- the view is a live seat's of a machine that meets the invariant
abbrev pub Sees : View → Type 0
Sees v = IsSeated v.size v.mind

-- the step is this event of such a machine
pub record Takes (event : ℕ → Event) (word : Machine → ℕ) (next : ℕ → Seat) (before : View) (found : ℕ) (after : View) : Type 0 where
  pub was : Sees before
  pub is : Sees after
  pub moved : is.machine ≡ step was.machine (event was.seat)
  pub same : is.seat ≡ was.seat
  pub read : found ≡ word was.machine
  pub now : after ≡ record before { mind = next found }

abbrev pub Mine : Type 0
Mine = Me (Unit {0}) View

-- the call that a seat is in
abbrev pub call_of : Seat → Call
call_of seat = unwrap_or seat.call (new_call 0 (Act 0))

abbrev pub spare_of : Seat → Entry
spare_of seat = unwrap_or seat.spare (entry 0)

abbrev pub found_of : Seat → Entry
found_of seat = unwrap_or (call_of seat).found (entry 0)

abbrev pub after_store : Seat → Seat
after_store seat = record seat { call = Some (record (call_of seat) { stored = (call_of seat).stored + 1 }) }

abbrev pub TellsBucket : Key → Mine → ℕ → Mine → Type 0
TellsBucket key m found after =
    Takes (λ i. LoadBucket i key) (λ c. bucket c (call_for m.0.size.count key m.0.mind).at) (λ n. after_bucket (call_for m.0.size.count key m.0.mind) n m.0.mind) m.0 found after.0 × (after.1 ≡ m.1)

abbrev pub TellsClaim : Mine → ℕ → Mine → Type 0
TellsClaim m found after = Takes (λ i. Claim i) (λ c. c.claims) (λ n. after_claim (m.0.size.limit + m.0.size.most) n m.0.mind) m.0 found after.0 × (after.1 ≡ m.1)

abbrev pub TellsStore : Mine → ℕ → Mine → Type 0
TellsStore m found after =
    Takes (λ i. StoreContent i (call_of m.0.mind).stored) (λ c. slice_index (words_of (call_of m.0.mind).key) (call_of m.0.mind).stored) (λ n. after_store m.0.mind) m.0 found after.0 × (after.1 ≡ m.1)

abbrev pub TellsExchange : Mine → ℕ → Mine → Type 0
TellsExchange m found after =
    Takes (λ i. ExchangeBucket i) (λ c. bucket c (call_of m.0.mind).at) (λ n. after_exchange (call_of m.0.mind) (spare_of m.0.mind) n m.0.mind) m.0 found after.0 × (after.1 ≡ m.1)

abbrev pub TellsContent : Mine → ℕ → Mine → Type 0
TellsContent m found after =
    Takes (λ i. LoadContent i (found_of m.0.mind) (call_of m.0.mind).right) (λ c. slice_index (entry_words c (found_of m.0.mind).0) (call_of m.0.mind).right)
    (λ n. after_content m.0.size.count (found_of m.0.mind) (call_of m.0.mind) n m.0.mind) m.0 found after.0 × (after.1 ≡ m.1)

-- A seat that looks at the claim number finds that it is a live seat of a machine, and that it knows what it has heard of
-- with that key, where it knows it.
pub record Learns (before after : View) : Type 0 where
  pub is : Sees after
  pub now : after ≡ record before { heard = [] }
  pub heard : (x : Known) → Contains before.heard x → is_known before.mind.knows x.entry ≡ true → Contains before.mind.knows x

abbrev pub TellsLook : Mine → Mine → Type 0
TellsLook m after = Learns m.0 after.0 × (after.1 ≡ m.1)

-- A word of an entry that the seat knows is that of the key with which it knows it, and the seat is as before.
abbrev pub TellsKnown : ℕ → Mine → ℕ → Mine → Type 0
TellsKnown place m found after =
    (after ≡ m) × ((k : Known) (word : ℕ) → Contains m.0.mind.knows k → word < 5 → place ≡ word_place m.0.size.count k.entry.0 word → found ≡ slice_index (words_of k.key) word)

-- the two views after a split, and after a join

abbrev pub split_view : View → View
split_view v = record v { mind = after_split v.mind }

abbrev pub new_view : View → View
new_view v = record { size = v.size; mind = split_off v.mind; heard = [] }

abbrev pub joined_view : View → View → View
joined_view v u = record { size = v.size; mind = after_join v.mind u.mind; heard = u.mind.knows }

abbrev pub spent_view : View
spent_view = record { size = record { limit = 0; most = 0; count = 0 }; mind = spent; heard = [] }
