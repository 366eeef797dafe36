-- What holds of the machine between any two events, and what an event leaves as it was.
use Rattle.std.specs.Prelude.{◌≡◌, ◌≢◌, ℕ, ◌+◌, ◌*◌, ◌<◌, ◌≤◌, ◌⊎◌, IsTrue, ◌==◌, nat_lt, if◌then◌else◌, length, take, Some, None, min, count_by, sum_by}
use Rattle.std.specs.List.{All, Contains}
use Rattle.std.specs.Int.{IsNextPowerOfTwo}
use Rattle.spd_cons_core.specs.declared.key.Entry.{Entry}
use Rattle.spd_cons_core.specs.declared.key.Key.{Key}
use Rattle.spd_cons_core.specs.declared.mind.Known.{Known}
use Rattle.spd_cons_core.specs.declared.mind.Call.{Call}
use Rattle.spd_cons_core.specs.declared.event.Event.{Event}
use Rattle.spd_cons_core.specs.declared.event.Event.TheVariants.{LoadBucket, Claim, StoreContent, ExchangeBucket, LoadContent, Split, Join}
use Rattle.spd_cons_core.specs.Views.{Seat, Machine}
use Rattle.spd_cons_core.specs.Spelling.{words_of, first_bucket, IsKey}
use Rattle.spd_cons_core.specs.Seats.{seat_at, bucket, bucket_count, Names, entry_words, is_known, parts_known}

-- the limit and the number of seats are in their ranges, and the lists have the lengths that these give
pub record IsSized (c : Machine) : Type 0 where
  pub limit_low : 16 ≤ c.limit
  pub limit_high : c.limit ≤ 8388608
  pub most_low : 1 ≤ c.most
  pub most_high : c.most ≤ 128
  pub buckets : IsNextPowerOfTwo (2 * (c.limit + c.most)) (bucket_count c)
  pub entries : length c.entries ≡ c.limit + c.most
  pub five_words : All (λ words. length words ≡ 5) c.entries

-- What one seat needs -------------------------------------------------------------------------

-- an entry below both the claim number and the end of the entries is claimed
pub record IsClaimed (c : Machine) (e : ℕ) : Type 0 where
  pub below_claims : e < c.claims
  pub below_end : e < c.limit + c.most

-- an entry that the seat knows is published with the key that it knows, and it knows the entries in that key
pub record IsKnown (c : Machine) (seat : Seat) (k : Known) : Type 0 where
  pub published : (b : ℕ) × Names c b k.entry.0
  pub words : entry_words c k.entry.0 ≡ words_of k.key
  pub in_range : IsKey k.key
  pub parts : IsTrue (parts_known seat.knows k.key)

-- a spare is claimed and isn't published, and the seat counts it
pub record IsSpare (c : Machine) (seat : Seat) (e : Entry) : Type 0 where
  pub claimed : IsClaimed c e.0
  pub unpublished : (b : ℕ) → bucket c b ≢ e.0 + 1
  pub counted : 1 ≤ seat.unpublished

-- a search that started at one bucket and has come to another has passed this bucket on its way; behind
-- the last bucket it goes on at the first
abbrev pub IsPassed : ℕ → ℕ → ℕ → Type 0
IsPassed start at k = ((start ≤ k) × (k < at)) ⊎ (((at < start) × (start ≤ k)) ⊎ ((at < start) × (k < at)))

-- the bucket is filled with an entry of another key
pub record IsOther (c : Machine) (key : Key) (b : ℕ) : Type 0 where
  pub entry : ℕ
  pub names : Names c b entry
  pub differs : entry_words c entry ≢ words_of key

-- a seat in a call: where its search is, and what it has compared and stored
pub record IsSearch (c : Machine) (seat : Seat) (call : Call) : Type 0 where
  pub in_range : IsKey call.key
  pub parts : IsTrue (parts_known seat.knows call.key)
  pub at_bucket : call.at < bucket_count c
  pub passed : (b : ℕ) → b < bucket_count c → IsPassed (first_bucket (words_of call.key) (bucket_count c)) call.at b → IsOther c call.key b
  -- what was found stands in the bucket still, and as many of its first words as were found right are the key's
  pub found : (e : Entry) → call.found ≡ Some e → Names c call.at e.0 × (take call.right (entry_words c e.0) ≡ take call.right (words_of call.key))
  pub none_right : call.found ≡ None → call.right ≡ 0
  -- as many of the spare's first words as were stored are the key's
  pub stored : (e : Entry) → seat.spare ≡ Some e → take call.stored (entry_words c e.0) ≡ take call.stored (words_of call.key)
  pub none_stored : seat.spare ≡ None → call.stored ≡ 0

-- what holds of each live seat
pub record IsSeat (c : Machine) (seat : Seat) : Type 0 where
  pub known : (k : Known) → Contains seat.knows k → IsKnown c seat k
  pub own_known : (e : Entry) → Contains seat.published e → IsTrue (is_known seat.knows e)
  pub spare : (e : Entry) → seat.spare ≡ Some e → IsSpare c seat e
  pub search : (call : Call) → seat.call ≡ Some call → IsSearch c seat call
  pub stands : 1 ≤ seat.stands
  pub unpublished : seat.unpublished ≤ seat.stands
  pub less_without_spare : seat.spare ≡ None → seat.unpublished + 1 ≤ seat.stands
  pub less_at_end : IsTrue seat.ended → seat.unpublished + 1 ≤ seat.stands
  pub end_met : IsTrue seat.ended → c.limit + c.most ≤ c.claims

-- What the seats have together ----------------------------------------------------------------

-- the sum of a number over all live seats
abbrev pub total_over_seats : (Seat → ℕ) → Machine → ℕ
total_over_seats f c = sum_by (λ seat. if seat.live then f seat else 0) c.seats

-- how often an entry stands in the published list of a seat
abbrev pub times_listed : ℕ → Seat → ℕ
times_listed e seat = count_by (λ p. p.0 == e) seat.published

-- how many seats a seat stands for, and may still become
abbrev pub shares : Seat → ℕ
shares seat = seat.stands + seat.splits

-- for how many seats that have met the end a seat stands
abbrev pub stands_at_end : Seat → ℕ
stands_at_end seat = if seat.ended then seat.stands else 0

-- the number of buckets that are filled, which is the number of published entries
abbrev pub filled : Machine → ℕ
filled c = count_by (λ b. nat_lt 0 b) c.buckets

-- the invariant of the machine
pub record IsSoundMachine (c : Machine) : Type 0 where
  -- only claimed entries are published, each in one bucket and once in the list of one live seat
  pub only_claimed : (b e : ℕ) → Names c b e → IsClaimed c e
  pub named_once : (a b e : ℕ) → Names c a e → Names c b e → a ≡ b
  pub listed_once : (b e : ℕ) → Names c b e → total_over_seats (times_listed e) c ≡ 1
  pub listed_never : (e : ℕ) → ((b : ℕ) → bucket c b ≢ e + 1) → total_over_seats (times_listed e) c ≡ 0
  -- all buckets from the start of a published entry's key to its own are filled
  pub filled_from_start : (b e k : ℕ) → Names c b e → k < bucket_count c → IsPassed (first_bucket (entry_words c e) (bucket_count c)) b k → bucket c k ≢ 0
  -- two filled buckets name entries of different keys
  pub distinct_keys : (a b d e : ℕ) → Names c a d → Names c b e → entry_words c d ≡ entry_words c e → a ≡ b
  -- each live seat has what it needs
  pub seats : (i : ℕ) → IsTrue (seat_at c i).live → IsSeat c (seat_at c i)
  -- no entry is the spare of two live seats
  pub own_spare : (i j : ℕ) (e : Entry) → IsTrue (seat_at c i).live → IsTrue (seat_at c j).live → (seat_at c i).spare ≡ Some e → (seat_at c j).spare ≡ Some e → i ≡ j
  -- the seats count each entry that is claimed and not published, and list each that is published
  pub all_counted : total_over_seats (λ seat. seat.unpublished) c + filled c ≡ min c.claims (c.limit + c.most)
  pub all_listed : total_over_seats (λ seat. length seat.published) c ≡ filled c
  -- the seats together are as many as may be made, and each claims at most once past the end
  pub all_seats : total_over_seats shares c ≡ c.most
  pub claims_bound : c.claims ≤ (c.limit + c.most) + total_over_seats stands_at_end c

-- What an event leaves as it was --------------------------------------------------------------

-- a bucket that isn't empty never changes, and neither do the words of a published entry
pub record Stays (before after : Machine) : Type 0 where
  pub limit : after.limit ≡ before.limit
  pub most : after.most ≡ before.most
  pub count : bucket_count after ≡ bucket_count before
  pub buckets : (b : ℕ) → bucket before b ≢ 0 → bucket after b ≡ bucket before b
  pub words : (b e : ℕ) → Names before b e → entry_words after e ≡ entry_words before e

-- the numbers of an event's key are in the ranges of their types
abbrev pub IsEvent : Event → Type 0
IsEvent (LoadBucket seat key) = IsKey key
IsEvent (Claim seat) = Unit {0}
IsEvent (StoreContent seat word) = Unit {0}
IsEvent (ExchangeBucket seat) = Unit {0}
IsEvent (LoadContent seat e word) = Unit {0}
IsEvent (Split seat) = Unit {0}
IsEvent (Join seat other) = Unit {0}

-- the machine after an event meets the invariant again, and what was published stays
pub record Keeps (before after : Machine) : Type 0 where
  pub sized : IsSized after
  pub sound : IsSoundMachine after
  pub stays : Stays before after

-- the seat has put its spare, in which the whole key of its call stands, into a bucket that was empty
pub record Publishes (before after : Machine) (seat b : ℕ) : Type 0 where
  pub call : Call
  pub entry : Entry
  pub live : IsTrue (seat_at before seat).live
  pub in_call : (seat_at before seat).call ≡ Some call
  pub own : (seat_at before seat).spare ≡ Some entry
  pub whole : entry_words before entry.0 ≡ words_of call.key
  pub was_empty : bucket before b ≡ 0
  pub names : Names after b entry.0

-- the seat whose step an event is
abbrev pub seat_of : Event → ℕ
seat_of (LoadBucket seat key) = seat
seat_of (Claim seat) = seat
seat_of (StoreContent seat word) = seat
seat_of (ExchangeBucket seat) = seat
seat_of (LoadContent seat e word) = seat
seat_of (Split seat) = seat
seat_of (Join seat other) = seat
