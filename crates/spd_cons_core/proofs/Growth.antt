-- What holds of a seat goes on holding while other seats fill the table.
use Rattle.std.proofs.Common.{◌≡◌, ◌≢◌, ℕ, ◌+◌, ◌<◌, ◌≤◌, Some, None, take, refl, sym, ap, ◌∙◌, subst, arith}
use Rattle.std.specs.List.{Contains}
use Rattle.spd_cons_core.specs.declared.key.Entry.{Entry}
use Rattle.spd_cons_core.specs.declared.key.Key.{Key}
use Rattle.spd_cons_core.specs.declared.mind.Known.{Known}
use Rattle.spd_cons_core.specs.declared.mind.Call.{Call}
use Rattle.spd_cons_core.specs.Views.{Seat, Machine}
use Rattle.spd_cons_core.specs.Spelling.{words_of, first_bucket}
use Rattle.spd_cons_core.specs.Seats.{bucket, bucket_count, Names, entry_words, parts_known}
use Rattle.spd_cons_core.specs.Invariants.{IsClaimed, IsKnown, IsPassed, IsOther, IsSearch, IsSeat}

-- the table after an event has all that it had
pub record Grows (c d : Machine) : Type 0 where
  pub limit : d.limit ≡ c.limit
  pub most : d.most ≡ c.most
  pub count : bucket_count d ≡ bucket_count c
  pub claims : c.claims ≤ d.claims
  pub names : (b e : ℕ) → Names c b e → Names d b e
  pub words : (b e : ℕ) → Names c b e → entry_words d e ≡ entry_words c e

-- and the event neither wrote nor published the seat's spare
pub record LeavesSpare (c d : Machine) (seat : Seat) : Type 0 where
  pub words : (e : Entry) → seat.spare ≡ Some e → entry_words d e.0 ≡ entry_words c e.0
  pub unpublished : (e : Entry) → seat.spare ≡ Some e → (b : ℕ) → bucket d b ≢ e.0 + 1

pub grow_claimed : (c d : Machine) → Grows c d → (e : ℕ) → IsClaimed c e → IsClaimed d e
grow_claimed c d g e was =
    let more = g.claims in
    let limit = g.limit in
    let most = g.most in
    let low = was.below_claims in
    let end = was.below_end in record {
      below_claims = omega arith;
      below_end = omega arith;
    }

pub grow_known : (c d : Machine) → Grows c d → (seat : Seat) (k : Known) → IsKnown c seat k → IsKnown d seat k
grow_known c d g seat k was =
    let at = was.published in record {
      published = (at.0, g.names at.0 k.entry.0 at.1);
      words = g.words at.0 k.entry.0 at.1 ∙ was.words;
      in_range = was.in_range;
      parts = was.parts;
    }

-- and of a seat that knows what another one knows
pub known_moved : (c d : Machine) → Grows c d → (seat w : Seat) → w.knows ≡ seat.knows → ((k : Known) → Contains seat.knows k → IsKnown c seat k) → (k : Known) → Contains w.knows k → IsKnown d w k
known_moved c d g seat w same was k at =
    let k' = grow_known c d g seat k (was k (subst (λ l. Contains l k) same at)) in
    record { published = k'.published; words = k'.words; in_range = k'.in_range; parts = ap (λ l. parts_known l k.key) same ∙ k'.parts }

pub grow_other : (c d : Machine) → Grows c d → (key : Key) (b : ℕ) → IsOther c key b → IsOther d key b
grow_other c d g key b was = record {
  entry = was.entry;
  names = g.names b was.entry was.names;
  differs = λ same. was.differs (sym (g.words b was.entry was.names) ∙ same);
}

pub grow_passed : (c d : Machine) → Grows c d → (key : Key) (at : ℕ)
    → ((b : ℕ) → b < bucket_count c → IsPassed (first_bucket (words_of key) (bucket_count c)) at b → IsOther c key b)
    → (b : ℕ) → b < bucket_count d → IsPassed (first_bucket (words_of key) (bucket_count d)) at b → IsOther d key b
grow_passed c d g key at was =
    subst (λ (n : ℕ). (b : ℕ) → b < n → IsPassed (first_bucket (words_of key) n) at b → IsOther d key b) (sym g.count)
    (λ b within passed. grow_other c d g key b (was b within passed))

-- the search of a seat that knows what it knew, with another spare
pub search_moved : (c d : Machine) → Grows c d → (seat w : Seat) → w.knows ≡ seat.knows → (call : Call) → IsSearch c seat call
    → ((e : Entry) → w.spare ≡ Some e → take call.stored (entry_words d e.0) ≡ take call.stored (words_of call.key)) → (w.spare ≡ None → call.stored ≡ 0) → IsSearch d w call
search_moved c d g seat w same call was stored none_stored =
    let at = was.at_bucket in
    let count = g.count in record {
      in_range = was.in_range;
      parts = ap (λ l. parts_known l call.key) same ∙ was.parts;
      at_bucket = omega arith;
      passed = grow_passed c d g call.key call.at was.passed;
      found = λ e is. let f = was.found e is in (g.names call.at e.0 f.0, ap (take call.right) (g.words call.at e.0 f.0) ∙ f.1);
      none_right = was.none_right;
      stored = stored;
      none_stored = none_stored;
    }

pub grow_search : (c d : Machine) → Grows c d → (seat : Seat) → LeavesSpare c d seat → (call : Call) → IsSearch c seat call → IsSearch d seat call
grow_search c d g seat leaves call was =
    search_moved c d g seat seat refl call was (λ e is. ap (take call.stored) (leaves.words e is) ∙ was.stored e is) was.none_stored

pub grow_seat : (c d : Machine) → Grows c d → (seat : Seat) → LeavesSpare c d seat → IsSeat c seat → IsSeat d seat
grow_seat c d g seat leaves was =
    let limit = g.limit in
    let most = g.most in
    let more = g.claims in record {
      known = λ k in'. grow_known c d g seat k (was.known k in');
      own_known = was.own_known;
      spare = λ e is. let s = was.spare e is in record {
        claimed = grow_claimed c d g e.0 s.claimed;
        unpublished = leaves.unpublished e is;
        counted = s.counted;
      };
      search = λ call is. grow_search c d g seat leaves call (was.search call is);
      stands = was.stands;
      unpublished = was.unpublished;
      less_without_spare = was.less_without_spare;
      less_at_end = was.less_at_end;
      end_met = λ ended. let m = was.end_met ended in omega arith;
    }
