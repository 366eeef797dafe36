-- An event that changes one seat's search and what it knows, and neither the table nor any count.
use Rattle.std.proofs.Common.{◌≡◌, ◌≢◌, ℕ, ◌+◌, ◌≤◌, true, cond, List, length, get_or, set, Option, Some, None, refl, sym, ap, ◌∙◌, subst, arith}
use Rattle.std.specs.List.{Contains}
use Rattle.std.proofs.lemmas.Option.{none-some, same_Some}
use Rattle.spd_cons_core.specs.declared.key.Entry.{Entry}
use Rattle.spd_cons_core.specs.declared.mind.Known.{Known}
use Rattle.spd_cons_core.specs.declared.mind.Call.{Call}
use Rattle.spd_cons_core.specs.declared.mind.Last.{Last}
use Rattle.spd_cons_core.specs.Views.{Seat, Machine}
use Rattle.spd_cons_core.specs.Seats.{spent, seat_at, with_seat, is_known}
use Rattle.spd_cons_core.specs.Invariants.{IsSized, IsKnown, IsSearch, IsSeat, IsSoundMachine, Stays, Keeps, total_over_seats, times_listed, shares, stands_at_end, filled}
use Rattle.spd_cons_core.proofs.Writes.{set_cases, live_within, total_same}
use Rattle.spd_cons_core.proofs.Growth.{Grows, LeavesSpare, grow_seat}

-- no event at all
pub stays_same : (c : Machine) → Stays c c
stays_same c = record { limit = refl; most = refl; count = refl; buckets = λ b full. refl; words = λ b e names. refl }

pub keeps_same : (c : Machine) → IsSized c → IsSoundMachine c → Keeps c c
keeps_same c sized sound = record { sized = sized; sound = sound; stays = stays_same c }

-- each seat, where one was replaced and the others keep their spares
pub seats_changed : (c d : Machine) → Grows c d → IsSoundMachine c → (i : ℕ) (w : Seat) → (seat_at c i).live ≡ true → IsSeat d w
    → ((j : ℕ) → j ≢ i → (seat_at c j).live ≡ true → LeavesSpare c d (seat_at c j))
    → (j : ℕ) → (get_or (set c.seats i w) j spent).live ≡ true → IsSeat d (get_or (set c.seats i w) j spent)
seats_changed c d g sound i w live mine others =
    set_cases (λ j s. s.live ≡ true → IsSeat d s) c.seats i w spent (live_within c.seats i live) (λ _. mine)
    (λ j other there. grow_seat c d g (seat_at c j) (others j other there) (sound.seats j there))

-- no two live seats have one spare, where the replaced seat has one that no other has
pub spares_changed : (c : Machine) → IsSoundMachine c → (i : ℕ) (w : Seat) → (seat_at c i).live ≡ true
    → ((e : Entry) → w.spare ≡ Some e → (j : ℕ) → j ≢ i → (seat_at c j).live ≡ true → (seat_at c j).spare ≡ Some e → ⊥)
    → (j h : ℕ) (e : Entry) → (get_or (set c.seats i w) j spent).live ≡ true → (get_or (set c.seats i w) h spent).live ≡ true → (get_or (set c.seats i w) j spent).spare ≡ Some e → (get_or (set c.seats i w) h spent).spare ≡ Some e → j ≡ h
spares_changed c sound i w live alone j h e =
    let within = live_within c.seats i live in
    set_cases (λ j s. s.live ≡ true → (get_or (set c.seats i w) h spent).live ≡ true → s.spare ≡ Some e → (get_or (set c.seats i w) h spent).spare ≡ Some e → j ≡ h) c.seats i w spent within
    (λ _ there mine its. set_cases (λ h s. s.live ≡ true → s.spare ≡ Some e → i ≡ h) c.seats i w spent within (λ _ _. refl)
    (λ h other there' its'. absurd (alone e mine h other there' its')) h there its)
    (λ j other here there its its'. set_cases (λ h s. s.live ≡ true → s.spare ≡ Some e → j ≡ h) c.seats i w spent within
    (λ _ mine. absurd (alone e mine j other here its))
    (λ h _ there' its''. sound.own_spare j h e here there' its its'') h there its')
    j

-- a seat that keeps its spare
pub spare_kept : (c : Machine) → IsSoundMachine c → (i : ℕ) (w : Seat) → (seat_at c i).live ≡ true → w.spare ≡ (seat_at c i).spare → (e : Entry) → w.spare ≡ Some e → (j : ℕ) → j ≢ i → (seat_at c j).live ≡ true → (seat_at c j).spare ≡ Some e → ⊥
spare_kept c sound i w live same e mine j other there its = other (sound.own_spare j i e there live its (sym same ∙ mine))

-- the seat has the counts and the spare that it had
pub record IsQuiet (old new : Seat) : Type 0 where
  pub live : new.live ≡ true
  pub published : new.published ≡ old.published
  pub spare : new.spare ≡ old.spare
  pub unpublished : new.unpublished ≡ old.unpublished
  pub stands : new.stands ≡ old.stands
  pub splits : new.splits ≡ old.splits
  pub ended : new.ended ≡ old.ended

-- what the seat now knows, and where its search is
pub record IsInformed (c : Machine) (seat : Seat) : Type 0 where
  pub known : (k : Known) → Contains seat.knows k → IsKnown c seat k
  pub own_known : (e : Entry) → Contains seat.published e → is_known seat.knows e ≡ true
  pub search : (call : Call) → seat.call ≡ Some call → IsSearch c seat call

-- other seats are untouched
pub grows_same : (c : Machine) (i : ℕ) (w : Seat) → Grows c (with_seat c i w)
grows_same c i w = record { limit = refl; most = refl; count = refl; claims = omega arith; names = λ b e names. names; words = λ b e names. refl }

pub leaves_same : (c : Machine) (i : ℕ) (w seat : Seat) → IsSeat c seat → LeavesSpare c (with_seat c i w) seat
leaves_same c i w seat was = record { words = λ e is. refl; unpublished = λ e is. (was.spare e is).unpublished }

-- the changed seat
quiet_seat : (c : Machine) (old w : Seat) → IsSeat c old → IsQuiet old w → IsInformed c w → IsSeat c w
quiet_seat c old w was quiet informed =
    let unpublished = quiet.unpublished in
    let stands = quiet.stands in
    let a = was.unpublished in
    let b = was.stands in record {
      known = informed.known;
      own_known = informed.own_known;
      spare = λ e is. let s = was.spare e (sym quiet.spare ∙ is) in let counted = s.counted in record {
        claimed = s.claimed;
        unpublished = s.unpublished;
        counted = omega arith;
      };
      search = informed.search;
      stands = omega arith;
      unpublished = omega arith;
      less_without_spare = λ none. let less = was.less_without_spare (sym quiet.spare ∙ none) in omega arith;
      less_at_end = λ ended. let less = was.less_at_end (sym quiet.ended ∙ ended) in omega arith;
      end_met = λ ended. was.end_met (sym quiet.ended ∙ ended);
    }

pub quiet_keeps : (c : Machine) (i : ℕ) (w : Seat) → IsSized c → IsSoundMachine c → (seat_at c i).live ≡ true → IsQuiet (seat_at c i) w → IsInformed c w → Keeps c (with_seat c i w)
quiet_keeps c i w sized sound live quiet informed =
    let mine : IsSeat c w = quiet_seat c (seat_at c i) w (sound.seats i live) quiet informed in
    let mine' : IsSeat (with_seat c i w) w = grow_seat c (with_seat c i w) (grows_same c i w) w (leaves_same c i w w mine) mine in
    let listed : (e : ℕ) → total_over_seats (times_listed e) (with_seat c i w) ≡ total_over_seats (times_listed e) c = λ e. total_same (times_listed e) c.seats i w live quiet.live (ap (λ (p : List Entry). times_listed e (record spent { published = p })) quiet.published) in
    let counted = total_same (λ s. s.unpublished) c.seats i w live quiet.live quiet.unpublished in
    let lists = total_same (λ s. length s.published) c.seats i w live quiet.live (ap length quiet.published) in
    let sums = total_same shares c.seats i w live quiet.live (λ x. quiet.stands x + quiet.splits x) in
    let ends = total_same stands_at_end c.seats i w live quiet.live (λ x. cond (quiet.ended x) (quiet.stands x) 0) in
    record {
      sized = record {
        limit_low = sized.limit_low;
        limit_high = sized.limit_high;
        most_low = sized.most_low;
        most_high = sized.most_high;
        buckets = sized.buckets;
        entries = sized.entries;
        five_words = sized.five_words;
      };
      sound = record {
        only_claimed = λ b e names. let was = sound.only_claimed b e names in record { below_claims = was.below_claims; below_end = was.below_end };
        named_once = sound.named_once;
        listed_once = λ b e names. listed e ∙ sound.listed_once b e names;
        listed_never = λ e never. listed e ∙ sound.listed_never e never;
        filled_from_start = sound.filled_from_start;
        distinct_keys = sound.distinct_keys;
        seats = seats_changed c (with_seat c i w) (grows_same c i w) sound i w live mine' (λ j _ there. leaves_same c i w (seat_at c j) (sound.seats j there));
        own_spare = spares_changed c sound i w live (spare_kept c sound i w live quiet.spare);
        all_counted = ap (λ n. n + filled c) counted ∙ sound.all_counted;
        all_listed = lists ∙ sound.all_listed;
        all_seats = sums ∙ sound.all_seats;
        claims_bound = subst (λ n. c.claims ≤ (c.limit + c.most) + n) (sym ends) sound.claims_bound;
      };
      stays = record { limit = refl; most = refl; count = refl; buckets = λ b full. refl; words = λ b e names. refl };
    }

-- the search that a seat is in after it was changed, and nothing else but how the last call ended
pub search_keeps : (c : Machine) (i : ℕ) (o : Option Call) (last : Last) → IsSized c → IsSoundMachine c → (seat_at c i).live ≡ true
    → ((call : Call) → o ≡ Some call → IsSearch c (record (seat_at c i) { call = o; last = last }) call) → Keeps c (with_seat c i (record (seat_at c i) { call = o; last = last }))
search_keeps c i o last sized sound live search =
    let was = sound.seats i live in
    quiet_keeps c i (record (seat_at c i) { call = o; last = last }) sized sound live
    record { live = live; published = refl; spare = refl; unpublished = refl; stands = refl; splits = refl; ended = refl }
    record {
      known = λ k at. let k' = was.known k at in record { published = k'.published; words = k'.words; in_range = k'.in_range; parts = k'.parts };
      own_known = was.own_known;
      search = search;
    }

-- a call that goes on
pub call_keeps : (c : Machine) (i : ℕ) (new : Call) → IsSized c → IsSoundMachine c → (seat_at c i).live ≡ true → IsSearch c (seat_at c i) new → Keeps c (with_seat c i (record (seat_at c i) { call = Some new }))
call_keeps c i new sized sound live search =
    search_keeps c i (Some new) (seat_at c i).last sized sound live
    (λ call is. subst (IsSearch c (record (seat_at c i) { call = Some new })) (same_Some new call is) record {
      in_range = search.in_range;
      parts = search.parts;
      at_bucket = search.at_bucket;
      passed = search.passed;
      found = search.found;
      none_right = search.none_right;
      stored = search.stored;
      none_stored = search.none_stored;
    })

-- a call that ends
pub end_keeps : (c : Machine) (i : ℕ) (last : Last) → IsSized c → IsSoundMachine c → (seat_at c i).live ≡ true → Keeps c (with_seat c i (record (seat_at c i) { call = None; last = last }))
end_keeps c i last sized sound live = search_keeps c i None last sized sound live (λ call is. absurd (none-some call is))
