-- The law of a bucket that is loaded.
use Rattle.std.proofs.Common.{◌≡◌, ◌≢◌, ℕ, ◌-◌, ◌<◌, Bool, true, not, ◌&&◌, eqb, take, Option, Some, None, is_none, unwrap_or, refl, sym, ap, ◌∙◌, arith}
use Rattle.std.specs.Option.{option_map_or}
use Rattle.std.proofs.lemmas.Bool.{true≢false, and_parts, cond_both, eqb-false}
use Rattle.std.proofs.lemmas.Option.{none-some, same_Some}
use Rattle.spd_cons_core.specs.declared.key.Entry.{Entry}
use Rattle.spd_cons_core.specs.declared.key.Key.{Key}
use Rattle.spd_cons_core.specs.declared.mind.Call.{Call}
use Rattle.spd_cons_core.specs.declared.mind.Last.TheVariants.{Full}
use Rattle.spd_cons_core.specs.Views.{Seat, Machine}
use Rattle.spd_cons_core.specs.Spelling.{IsKey, words_of, first_bucket}
use Rattle.spd_cons_core.specs.Seats.{seat_at, with_seat, bucket, bucket_count, entry, entry_words, same_key, parts_known}
use Rattle.spd_cons_core.specs.Events.{new_call, call_for, can_load_bucket, after_bucket, load_bucket}
use Rattle.spd_cons_core.specs.Invariants.{IsSized, IsSearch, IsSoundMachine, Keeps}
use Rattle.spd_cons_core.proofs.Quiet.{keeps_same, call_keeps, end_keeps}
use Rattle.spd_cons_core.proofs.Starts.{start_below, start_passes_none}

-- there are buckets
pub some_buckets : (c : Machine) → IsSized c → 0 < bucket_count c
some_buckets c sized = let low = sized.limit_low in let more = sized.buckets.1 in omega arith

-- a new call meets what a search needs
new_search : (c : Machine) (seat : Seat) (key : Key) → IsSized c → IsKey key → parts_known seat.knows key ≡ true → IsSearch c seat (new_call (bucket_count c) key)
new_search c seat key sized fits known = record {
  in_range = fits;
  parts = known;
  at_bucket = start_below (words_of key) (bucket_count c) (some_buckets c sized);
  passed = λ b within passed. absurd (start_passes_none (first_bucket (words_of key) (bucket_count c)) b passed);
  found = λ e is. absurd (none-some e is);
  none_right = λ _. refl;
  stored = λ e is. refl;
  none_stored = λ _. refl;
}

-- the search with its bucket seen to be empty
emptied : (c : Machine) (seat : Seat) (call : Call) → IsSearch c seat call → IsSearch c seat (record call { empty = true })
emptied c seat call was = record {
  in_range = was.in_range;
  parts = was.parts;
  at_bucket = was.at_bucket;
  passed = was.passed;
  found = was.found;
  none_right = was.none_right;
  stored = was.stored;
  none_stored = was.none_stored;
}

-- the search with the entry that its bucket names
pub found_entry : (c : Machine) (seat : Seat) (call : Call) (empty : Bool) → IsSearch c seat call → call.right ≡ 0 → bucket c call.at ≢ 0
    → IsSearch c seat (record call { found = Some (entry (bucket c call.at - 1)); empty = empty })
found_entry c seat call empty was none full = record {
  in_range = was.in_range;
  parts = was.parts;
  at_bucket = was.at_bucket;
  passed = was.passed;
  found = λ e is. let same : bucket c call.at - 1 ≡ e.0 = ap (λ (x : Entry). x.0) (same_Some (entry (bucket c call.at - 1)) e is) in
      (omega arith, ap (λ n. take n (entry_words c e.0)) none ∙ ap (λ n. take n (words_of call.key)) (sym none));
  none_right = λ is. absurd (none-some (entry (bucket c call.at - 1)) (sym is));
  stored = was.stored;
  none_stored = was.none_stored;
}

-- the search in which a seat that can load a bucket stands
pub record IsReady (c : Machine) (seat : Seat) (call : Call) : Type 0 where
  pub search : IsSearch c seat call
  pub none_found : call.found ≡ None

pub ready : (c : Machine) (seat : Seat) (key : Key) → IsSized c → IsKey key → ((call : Call) → seat.call ≡ Some call → IsSearch c seat call) → can_load_bucket key seat ≡ true → IsReady c seat (call_for (bucket_count c) key seat)
ready c seat key sized fits was can = by_call seat.call refl (and_parts seat.live _ can).1
  where
    none_is : (o : Option Entry) → is_none o ≡ true → o ≡ None
    none_is None e = refl
    none_is (Some x) e = absurd (true≢false (sym e))

    by_call : (o : Option Call) → seat.call ≡ o → option_map_or (λ call. same_key call.key key && (is_none call.found && not call.empty)) o (parts_known seat.knows key) ≡ true
        → IsReady c seat (unwrap_or o (new_call (bucket_count c) key))
    by_call None is known = record { search = new_search c seat key sized fits known; none_found = refl }
    by_call (Some call) is looks =
        let free = (and_parts (same_key call.key key) _ looks).1 in
        record { search = was call is; none_found = none_is call.found (and_parts (is_none call.found) (not call.empty) free).0 }

loaded : (c : Machine) (i : ℕ) (call : Call) → IsSized c → IsSoundMachine c → (seat_at c i).live ≡ true → IsReady c (seat_at c i) call → Keeps c (with_seat c i (after_bucket call (bucket c call.at) (seat_at c i)))
loaded c i call sized sound live ready =
    cond_both (eqb (bucket c call.at) 0) _ _ (λ (w : Seat). Keeps c (with_seat c i w))
    (λ _. cond_both (is_none (seat_at c i).spare && (seat_at c i).ended) _ _ (λ (w : Seat). Keeps c (with_seat c i w))
    (λ _. end_keeps c i Full sized sound live)
    (λ _. call_keeps c i (record call { empty = true }) sized sound live (emptied c (seat_at c i) call ready.search)))
    (λ full. call_keeps c i (record call { found = Some (entry (bucket c call.at - 1)) }) sized sound live
    (found_entry c (seat_at c i) call call.empty ready.search (ready.search.none_right ready.none_found) (eqb-false (bucket c call.at) 0 full)))

-- a bucket that is loaded keeps the invariant, where the key of a load that is taken is in range
pub taken_load_keeps : (c : Machine) (i : ℕ) (key : Key) → IsSized c → IsSoundMachine c → (can_load_bucket key (seat_at c i) ≡ true → IsKey key) → Keeps c (load_bucket c i key)
taken_load_keeps c i key sized sound fits =
    cond_both (can_load_bucket key (seat_at c i)) _ c (Keeps c)
    (λ can. let live = (and_parts (seat_at c i).live _ can).0 in
    loaded c i (call_for (bucket_count c) key (seat_at c i)) sized sound live (ready c (seat_at c i) key sized (fits can) (sound.seats i live).search can))
    (λ _. keeps_same c sized sound)

-- a bucket that is loaded keeps the invariant
pub load_bucket_keeps : (c : Machine) (i : ℕ) (key : Key) → IsSized c → IsSoundMachine c → IsKey key → Keeps c (load_bucket c i key)
load_bucket_keeps c i key sized sound fits = taken_load_keeps c i key sized sound (λ _. fits)
