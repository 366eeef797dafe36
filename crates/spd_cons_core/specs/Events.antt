-- The seven kinds of event, each as the machine after it. An event that its seat can't take changes
-- nothing, and each event leaves alone what it doesn't write.
use Rattle.std.specs.Prelude.{ℕ, ◌+◌, ◌-◌, Bool, true, false, not, ◌&&◌, ◌||◌, ◌==◌, nat_lt, if◌then◌else◌, List, [], ◌∷◌, ◌++◌, slice_index, slice_set, Option, Some, None, is_none, unwrap_or, replicate}
use Rattle.std.specs.List.{fold}
use Rattle.std.specs.Option.{option_map_or}
use Rattle.spd_cons_core.specs.declared.key.Entry.{Entry}
use Rattle.spd_cons_core.specs.declared.key.Key.{Key}
use Rattle.spd_cons_core.specs.declared.mind.Call.{Call}
use Rattle.spd_cons_core.specs.declared.mind.Last.TheVariants.{Got, Full}
use Rattle.spd_cons_core.specs.declared.event.Event.{Event}
use Rattle.spd_cons_core.specs.declared.event.Event.TheVariants.{LoadBucket, Claim, StoreContent, ExchangeBucket, LoadContent, Split, Join}
use Rattle.spd_cons_core.specs.Views.{Seat, Machine}
use Rattle.spd_cons_core.specs.Spelling.{words_of, first_bucket}
use Rattle.spd_cons_core.specs.Seats.{seat_at, with_seat, spent, bucket, bucket_count, entry, entry_words, same_key, parts_known, learned}

-- LoadBucket -----------------------------------------------------------------------------------

-- a call for a key, at the start of its search
abbrev pub new_call : ℕ → Key → Call
new_call count key = record {
  key = key;
  at = first_bucket (words_of key) count;
  found = None;
  right = 0;
  empty = false;
  stored = 0;
}

-- the call that the seat is in, or else a new one
abbrev pub call_for : ℕ → Key → Seat → Call
call_for count key seat = unwrap_or seat.call (new_call count key)

-- the seat is live, and is in no call and knows the entries in the key, or is in a call for this key
-- which has yet to look into its bucket
abbrev pub can_load_bucket : Key → Seat → Bool
can_load_bucket key seat =
    seat.live && option_map_or (λ call. same_key call.key key && (is_none call.found && not call.empty)) seat.call (parts_known seat.knows key)

-- the seat after the bucket of its call was seen to be empty, which ends the call where the seat has
-- no spare and can't claim one
abbrev pub after_empty : Call → Seat → Seat
after_empty call seat =
    if is_none seat.spare && seat.ended
    then record seat { call = None; last = Full }
    else record seat { call = Some (record call { empty = true }) }

-- the seat after the bucket of its call was loaded: the entry that a filled one names is found
abbrev pub after_bucket : Call → ℕ → Seat → Seat
after_bucket call loaded seat =
    if loaded == 0
    then after_empty call seat
    else record seat { call = Some (record call { found = Some (entry (loaded - 1)) }) }

-- LoadBucket: a call goes on, or begins, by a look into its bucket
abbrev pub load_bucket : Machine → ℕ → Key → Machine
load_bucket c i key =
    let seat = seat_at c i in
    let call = call_for (bucket_count c) key seat in
    if can_load_bucket key seat
    then with_seat c i (after_bucket call (bucket c call.at) seat)
    else c

-- Claim ----------------------------------------------------------------------------------------

-- the seat is live, in a call at an empty bucket, has no spare and hasn't met the end of the claims
abbrev pub can_claim : Seat → Bool
can_claim seat = seat.live && (option_map_or (λ call. call.empty) seat.call false && (is_none seat.spare && not seat.ended))

-- the seat after a claim that found this number: below the end it is the seat's spare, and else the
-- seat has met the end and its call is over
abbrev pub after_claim : ℕ → ℕ → Seat → Seat
after_claim end claims seat =
    if nat_lt claims end
    then record seat { spare = Some (entry claims); unpublished = seat.unpublished + 1 }
    else record seat { ended = true; call = None; last = Full }

-- Claim: the claim number rises by 1, and the seat takes what it was
abbrev pub claim : Machine → ℕ → Machine
claim c i =
    let seat = seat_at c i in
    if can_claim seat
    then record c { claims = c.claims + 1; seats = slice_set c.seats i (after_claim (c.limit + c.most) c.claims seat) }
    else c

-- StoreContent ---------------------------------------------------------------------------------

-- the seat is live, its call is at an empty bucket, and this is the next word of five to be stored
abbrev pub can_store : ℕ → Call → Seat → Bool
can_store word call seat = seat.live && (call.empty && ((word == call.stored) && nat_lt word 5))

-- one word of the key, stored in the spare
abbrev pub store_in : Machine → ℕ → ℕ → Option Call → Option Entry → Machine
store_in c i word (Some call) (Some spare) =
    let seat = seat_at c i in
    if can_store word call seat
    then record c {
      entries = slice_set c.entries spare.0 (slice_set (entry_words c spare.0) word (slice_index (words_of call.key) word));
      seats = slice_set c.seats i (record seat { call = Some (record call { stored = call.stored + 1 }) });
    }
    else c
store_in c i word (Some call) None = c
store_in c i word None spare = c

-- StoreContent: a word of the key of the seat's call, stored in the seat's spare
abbrev pub store_content : Machine → ℕ → ℕ → Machine
store_content c i word = store_in c i word (seat_at c i).call (seat_at c i).spare

-- ExchangeBucket -------------------------------------------------------------------------------

-- the seat is live, its call is at an empty bucket, and the key stands whole in the spare
abbrev pub can_exchange : Call → Seat → Bool
can_exchange call seat = seat.live && (call.empty && (call.stored == 5))

-- the seat after its exchange found this number: it has published its spare, or has found the entry
-- that another seat published there before
abbrev pub after_exchange : Call → Entry → ℕ → Seat → Seat
after_exchange call spare found seat =
    if found == 0
    then record seat {
      knows = learned seat.knows (record { entry = spare; key = call.key });
      published = seat.published ++ spare ∷ [];
      spare = None;
      unpublished = seat.unpublished - 1;
      call = None;
      last = Got spare;
    }
    else record seat { call = Some (record call { found = Some (entry (found - 1)); empty = false }) }

-- only an empty bucket takes the spare
abbrev pub exchange_in : Machine → ℕ → Option Call → Option Entry → Machine
exchange_in c i (Some call) (Some spare) =
    let seat = seat_at c i in
    let found = bucket c call.at in
    if can_exchange call seat
    then record c {
      buckets = slice_set c.buckets call.at (if found == 0 then spare.0 + 1 else found);
      seats = slice_set c.seats i (after_exchange call spare found seat);
    }
    else c
exchange_in c i (Some call) None = c
exchange_in c i None spare = c

-- ExchangeBucket: the seat's spare, put into the bucket of its call
abbrev pub exchange_bucket : Machine → ℕ → Machine
exchange_bucket c i = exchange_in c i (seat_at c i).call (seat_at c i).spare

-- LoadContent ----------------------------------------------------------------------------------

-- the seat is live, its call has found this entry, and this is the next word of five to be compared
abbrev pub can_compare : Entry → ℕ → Call → Seat → Bool
can_compare e word call seat =
    seat.live && (option_map_or (λ found. found.0 == e.0) call.found false && ((word == call.right) && nat_lt word 5))

-- the bucket after this one, wrapping
abbrev pub next_bucket : ℕ → ℕ → ℕ
next_bucket count at = if nat_lt (at + 1) count then at + 1 else 0

-- the seat after one more word of the entry that it found was the key's: five of them are the key
abbrev pub after_equal : Entry → Call → Seat → Seat
after_equal e call seat =
    if call.right + 1 == 5
    then record seat { knows = learned seat.knows (record { entry = e; key = call.key }); call = None; last = Got e }
    else record seat { call = Some (record call { right = call.right + 1 }) }

-- the seat after it compared a word of the entry that it found: an unequal one sends the search on to
-- the next bucket
abbrev pub after_content : ℕ → Entry → Call → ℕ → Seat → Seat
after_content count e call loaded seat =
    if loaded == slice_index (words_of call.key) call.right
    then after_equal e call seat
    else record seat { call = Some (record call { at = next_bucket count call.at; found = None; right = 0 }) }

-- outside a call this is a step of reading an entry that is known, and changes nothing
abbrev pub compare_in : Machine → ℕ → Entry → ℕ → Option Call → Machine
compare_in c i e word (Some call) =
    let seat = seat_at c i in
    if can_compare e word call seat
    then with_seat c i (after_content (bucket_count c) e call (slice_index (entry_words c e.0) word) seat)
    else c
compare_in c i e word None = c

-- LoadContent: a word of the entry that the seat's call has found, compared with the key's
abbrev pub load_content : Machine → ℕ → Entry → ℕ → Machine
load_content c i e word = compare_in c i e word (seat_at c i).call

-- Split ----------------------------------------------------------------------------------------

-- the seat is live, in no call, and has a split left
abbrev pub can_split : Seat → Bool
can_split seat = seat.live && (is_none seat.call && nat_lt 0 seat.splits)

-- what is left to a seat that was split
abbrev pub after_split : Seat → Seat
after_split seat = record seat { splits = seat.splits - 1 }

-- a new seat, which knows what the other one knows and stands for itself
abbrev pub split_off : Seat → Seat
split_off seat = record spent { live = true; knows = seat.knows; stands = 1 }

-- Split: a new seat is added behind the others
abbrev pub split : Machine → ℕ → Machine
split c i =
    let seat = seat_at c i in
    if can_split seat
    then record c { seats = slice_set c.seats i (after_split seat) ++ split_off seat ∷ [] }
    else c

-- Join -----------------------------------------------------------------------------------------

-- these are two different live seats, neither in a call
abbrev pub can_join : ℕ → ℕ → Seat → Seat → Bool
can_join i j seat other =
    not (i == j) && ((seat.live && other.live) && (is_none seat.call && is_none other.call))

-- a seat's own spare, or else the other's
abbrev pub either_spare : Option Entry → Option Entry → Option Entry
either_spare (Some spare) other = Some spare
either_spare None other = other

-- a seat that has taken over all that the other one had
abbrev pub after_join : Seat → Seat → Seat
after_join seat other = record seat {
  knows = fold learned seat.knows other.knows;
  published = seat.published ++ other.published;
  spare = either_spare seat.spare other.spare;
  unpublished = seat.unpublished + other.unpublished;
  stands = seat.stands + other.stands;
  splits = seat.splits + other.splits;
  ended = seat.ended || other.ended;
}

-- Join: the first seat takes the other one over, which is then spent
abbrev pub join : Machine → ℕ → ℕ → Machine
join c i j =
    let seat = seat_at c i in
    let other = seat_at c j in
    if can_join i j seat other
    then record c { seats = slice_set (slice_set c.seats i (after_join seat other)) j spent }
    else c

-- The machine ----------------------------------------------------------------------------------

-- the machine after one event
abbrev pub step : Machine → Event → Machine
step c (LoadBucket i key) = load_bucket c i key
step c (Claim i) = claim c i
step c (StoreContent i word) = store_content c i word
step c (ExchangeBucket i) = exchange_bucket c i
step c (LoadContent i e word) = load_content c i e word
step c (Split i) = split c i
step c (Join i j) = join c i j

-- the machine after a list of events, the first one first
abbrev pub run : Machine → List Event → Machine
run c events = fold step c events

-- a table of so many buckets with nothing in it, and one seat that knows nothing
abbrev pub new_machine : ℕ → ℕ → ℕ → Machine
new_machine limit most count = record {
  limit = limit;
  most = most;
  claims = 0;
  buckets = replicate count 0;
  entries = replicate (limit + most) (replicate 5 0);
  seats = record spent { live = true; stands = 1; splits = most - 1 } ∷ [];
}
