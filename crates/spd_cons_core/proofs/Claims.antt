-- The law of a claim.
use Rattle.std.proofs.Common.{◌≡◌, ◌≢◌, ℕ, ◌+◌, ◌<◌, ◌≤◌, Bool, true, false, cond, not, ltb, min, List, take, length, set, Option, Some, None, is_none, refl, sym, ap, ◌∙◌, arith}
use Rattle.std.proofs.lemmas.Bool.{true≢false, and_parts, cond_both, ltb-true, ltb-false, not-true}
use Rattle.std.proofs.lemmas.Option.{none-some, same_Some}
use Rattle.spd_cons_core.specs.declared.key.Entry.{Entry}
use Rattle.spd_cons_core.specs.declared.mind.Last.TheVariants.{Full}
use Rattle.spd_cons_core.specs.Views.{Seat, Machine}
use Rattle.spd_cons_core.specs.Spelling.{words_of}
use Rattle.spd_cons_core.specs.Seats.{seat_at, entry, entry_words}
use Rattle.spd_cons_core.specs.Events.{can_claim, claim}
use Rattle.spd_cons_core.specs.Invariants.{IsSized, IsSeat, IsSoundMachine, Keeps, total_over_seats, times_listed, shares, stands_at_end}
use Rattle.spd_cons_core.proofs.Writes.{total_set, total_same}
use Rattle.spd_cons_core.proofs.Growth.{Grows, LeavesSpare, known_moved, search_moved, grow_claimed}
use Rattle.spd_cons_core.proofs.Quiet.{keeps_same, seats_changed, spares_changed, spare_kept}

-- the machine with one more claim, and the seat that made it
abbrev with_claim : Machine → ℕ → Seat → Machine
with_claim c i w = record c { claims = c.claims + 1; seats = set c.seats i w }

grows : (c : Machine) (i : ℕ) (w : Seat) → Grows c (with_claim c i w)
grows c i w = record { limit = refl; most = refl; count = refl; claims = omega arith; names = λ b e names. names; words = λ b e names. refl }

leaves : (c : Machine) (i : ℕ) (w : Seat) (seat : Seat) → IsSeat c seat → LeavesSpare c (with_claim c i w) seat
leaves c i w seat was = record { words = λ e is. refl; unpublished = λ e is. (was.spare e is).unpublished }

-- what the claim did to the counts
record IsCounted (c : Machine) (i : ℕ) (w : Seat) : Type 0 where
  live : w.live ≡ true
  published : w.published ≡ (seat_at c i).published
  stands : w.stands ≡ (seat_at c i).stands
  splits : w.splits ≡ (seat_at c i).splits
  counted : w.unpublished + min c.claims (c.limit + c.most) ≡ (seat_at c i).unpublished + min (c.claims + 1) (c.limit + c.most)
  ends : c.claims + 1 + stands_at_end (seat_at c i) ≤ ((c.limit + c.most) + total_over_seats stands_at_end c) + stands_at_end w
  alone : (e : Entry) → w.spare ≡ Some e → (j : ℕ) → j ≢ i → (seat_at c j).live ≡ true → (seat_at c j).spare ≡ Some e → ⊥

claim_changes : (c : Machine) (i : ℕ) (w : Seat) → IsSized c → IsSoundMachine c → (seat_at c i).live ≡ true → IsSeat (with_claim c i w) w → IsCounted c i w → Keeps c (with_claim c i w)
claim_changes c i w sized sound live mine is =
    let d : Machine = with_claim c i w in
    let listed : (e : ℕ) → total_over_seats (times_listed e) d ≡ total_over_seats (times_listed e) c = λ e. total_same (times_listed e) c.seats i w live is.live (ap (λ (p : List Entry). times_listed e (record w { published = p })) is.published) in
    let unpublished = total_set (λ s. s.unpublished) c.seats i w live is.live in
    let lists = total_same (λ s. length s.published) c.seats i w live is.live (ap length is.published) in
    let sums = total_same shares c.seats i w live is.live (λ x. is.stands x + is.splits x) in
    let at_end = total_set stands_at_end c.seats i w live is.live in
    let counted = sound.all_counted in
    let more = is.counted in
    let ends = is.ends in
    record {
      sized = record {
        limit_low = sized.limit_low;
        limit_high = sized.limit_high;
        most_low = sized.most_low;
        most_high = sized.most_high;
        buckets = sized.buckets;
        entries = sized.entries;
        five_words = sized.five_words;
      };
      sound = record {
        only_claimed = λ b e names. grow_claimed c d (grows c i w) e (sound.only_claimed b e names);
        named_once = sound.named_once;
        listed_once = λ b e names. listed e ∙ sound.listed_once b e names;
        listed_never = λ e never. listed e ∙ sound.listed_never e never;
        filled_from_start = sound.filled_from_start;
        distinct_keys = sound.distinct_keys;
        seats = seats_changed c d (grows c i w) sound i w live mine (λ j _ there. leaves c i w (seat_at c j) (sound.seats j there));
        own_spare = spares_changed c sound i w live is.alone;
        all_counted = omega arith;
        all_listed = lists ∙ sound.all_listed;
        all_seats = sums ∙ sound.all_seats;
        claims_bound = omega arith;
      };
      stays = record { limit = refl; most = refl; count = refl; buckets = λ b full. refl; words = λ b e names. refl };
    }

-- a seat that can claim
record IsClaiming (seat : Seat) : Type 0 where
  live : seat.live ≡ true
  no_spare : seat.spare ≡ None
  going_on : seat.ended ≡ false

can : (seat : Seat) → can_claim seat ≡ true → IsClaiming seat
can seat test =
    let all = and_parts seat.live _ test in
    let rest = and_parts _ _ all.1 in
    let two = and_parts (is_none seat.spare) (not seat.ended) rest.1 in record {
      live = all.0;
      no_spare = none_is seat.spare two.0;
      going_on = not-true seat.ended two.1;
    }
  where
    none_is : (o : Option Entry) → is_none o ≡ true → o ≡ None
    none_is None e = refl
    none_is (Some x) e = absurd (true≢false (sym e))

-- a claim below the end
with_spare : (c : Machine) (i : ℕ) → IsSized c → IsSoundMachine c → IsClaiming (seat_at c i) → c.claims < c.limit + c.most
    → Keeps c (with_claim c i (record (seat_at c i) { spare = Some (entry c.claims); unpublished = (seat_at c i).unpublished + 1 }))
with_spare c i sized sound may room =
    let seat : Seat = seat_at c i in
    let w : Seat = record seat { spare = Some (entry c.claims); unpublished = seat.unpublished + 1 } in
    let was = sound.seats i may.live in
    let less = was.less_without_spare may.no_spare in
    let none_ends : stands_at_end seat ≡ 0 = ap (λ (b : Bool). cond b seat.stands 0) may.going_on in
    let bound = sound.claims_bound in
    claim_changes c i w sized sound may.live
    record {
      known = known_moved c (with_claim c i w) (grows c i w) seat w refl was.known;
      own_known = was.own_known;
      spare = λ e is. let same : c.claims ≡ e.0 = ap (λ (x : Entry). x.0) (same_Some (entry c.claims) e is) in record {
        claimed = record { below_claims = omega arith; below_end = omega arith };
        unpublished = λ b names. let old = (sound.only_claimed b e.0 names).below_claims in omega arith;
        counted = omega arith;
      };
      search = λ call is. let s = was.search call is in search_moved c (with_claim c i w) (grows c i w) seat w refl call s
          (λ e _. ap (λ n. take n (entry_words c e.0)) (s.none_stored may.no_spare) ∙ ap (λ n. take n (words_of call.key)) (sym (s.none_stored may.no_spare)))
          (λ none. absurd (none-some (entry c.claims) (sym none)));
      stands = was.stands;
      unpublished = omega arith;
      less_without_spare = λ none. absurd (none-some (entry c.claims) (sym none));
      less_at_end = λ ended. absurd (true≢false (sym ended ∙ may.going_on));
      end_met = λ ended. absurd (true≢false (sym ended ∙ may.going_on));
    }
    record {
      live = may.live;
      published = refl;
      stands = refl;
      splits = refl;
      counted = omega arith;
      ends = omega arith;
      alone = λ e is j other there its. let same : c.claims ≡ e.0 = ap (λ (x : Entry). x.0) (same_Some (entry c.claims) e is) in
          let low = ((sound.seats j there).spare e its).claimed.below_claims in absurd (omega arith);
    }

-- a claim past the end
at_end : (c : Machine) (i : ℕ) → IsSized c → IsSoundMachine c → IsClaiming (seat_at c i) → c.limit + c.most ≤ c.claims
    → Keeps c (with_claim c i (record (seat_at c i) { ended = true; call = None; last = Full }))
at_end c i sized sound may past =
    let seat : Seat = seat_at c i in
    let w : Seat = record seat { ended = true; call = None; last = Full } in
    let was = sound.seats i may.live in
    let less = was.less_without_spare may.no_spare in
    let stands = was.stands in
    let none_ends : stands_at_end seat ≡ 0 = ap (λ (b : Bool). cond b seat.stands 0) may.going_on in
    let bound = sound.claims_bound in
    claim_changes c i w sized sound may.live
    record {
      known = known_moved c (with_claim c i w) (grows c i w) seat w refl was.known;
      own_known = was.own_known;
      spare = λ e is. absurd (none-some e (sym may.no_spare ∙ is));
      search = λ call is. absurd (none-some call is);
      stands = was.stands;
      unpublished = was.unpublished;
      less_without_spare = λ _. less;
      less_at_end = λ _. less;
      end_met = λ _. omega arith;
    }
    record {
      live = may.live;
      published = refl;
      stands = refl;
      splits = refl;
      counted = omega arith;
      ends = omega arith;
      alone = spare_kept c sound i w may.live refl;
    }

-- a claim keeps the invariant
pub claim_keeps : (c : Machine) (i : ℕ) → IsSized c → IsSoundMachine c → Keeps c (claim c i)
claim_keeps c i sized sound =
    cond_both (can_claim (seat_at c i)) _ c (Keeps c)
    (λ test. let may = can (seat_at c i) test in
    cond_both (ltb c.claims (c.limit + c.most)) _ _ (λ (w : Seat). Keeps c (with_claim c i w))
    (λ room. with_spare c i sized sound may (ltb-true c.claims (c.limit + c.most) room))
    (λ past. at_end c i sized sound may (ltb-false c.claims (c.limit + c.most) past)))
    (λ _. keeps_same c sized sound)
