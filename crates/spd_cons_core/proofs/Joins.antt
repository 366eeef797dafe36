-- The law of a join.
use Rattle.std.proofs.Common.{◌≡◌, ◌≢◌, ◌⊎◌, ℕ, ◌+◌, ◌≤◌, Bool, true, false, cond, not, ◌&&◌, ◌||◌, eqb, List, length, get_or, set, Option, Some, None, is_none, refl, sym, ap, ◌∙◌, inl, inr, ⊎_elim, arith}
use Rattle.std.specs.List.{Contains, sum_by, fold}
use Rattle.std.proofs.lemmas.Bool.{true≢false, and_parts, cond_both, or_cases, eqb-false, not-true, cases_eq}
use Rattle.std.proofs.lemmas.List.{get_or-set_other, length-append}
use Rattle.std.proofs.lemmas.List.Elements.{Contains-append_cases}
use Rattle.std.proofs.lemmas.List.Sums.{sum_by-set, sum_by-append}
use Rattle.std.proofs.lemmas.Option.{none-some}
use Rattle.spd_cons_core.specs.declared.key.Entry.{Entry}
use Rattle.spd_cons_core.specs.declared.mind.Known.{Known}
use Rattle.spd_cons_core.specs.declared.mind.Call.{Call}
use Rattle.spd_cons_core.specs.Views.{Seat, Machine}
use Rattle.spd_cons_core.specs.Seats.{spent, seat_at, learned}
use Rattle.spd_cons_core.specs.Events.{can_join, either_spare, after_join, join}
use Rattle.spd_cons_core.specs.Invariants.{IsSized, IsKnown, IsSeat, IsSoundMachine, Keeps, total_over_seats, times_listed, shares, stands_at_end}
use Rattle.spd_cons_core.proofs.Writes.{set_cases, live_within, total_set, share_of, share_live}
use Rattle.spd_cons_core.proofs.Growth.{Grows, grow_claimed, grow_known, grow_seat}
use Rattle.spd_cons_core.proofs.Knowledge.{joined_keeps, joined_known, joined_cases, parts_more}
use Rattle.spd_cons_core.proofs.Quiet.{keeps_same}
use Rattle.spd_cons_core.proofs.Splits.{grows_seats, leaves_seats}

-- two different live seats in no call
record IsJoining (c : Machine) (i j : ℕ) : Type 0 where
  here : (seat_at c i).live ≡ true
  there : (seat_at c j).live ≡ true
  apart : j ≢ i
  no_call : (seat_at c i).call ≡ None

joining : (c : Machine) (i j : ℕ) → can_join i j (seat_at c i) (seat_at c j) ≡ true → IsJoining c i j
joining c i j can =
    let all = and_parts (not (eqb i j)) _ can in
    let rest = and_parts ((seat_at c i).live && (seat_at c j).live) _ all.1 in
    let live = and_parts (seat_at c i).live (seat_at c j).live rest.0 in
    let calls = and_parts (is_none (seat_at c i).call) (is_none (seat_at c j).call) rest.1 in record {
      here = live.0;
      there = live.1;
      apart = λ same. eqb-false i j (not-true (eqb i j) all.0) (sym same);
      no_call = none_is (seat_at c i).call calls.0;
    }
  where
    none_is : (o : Option Call) → is_none o ≡ true → o ≡ None
    none_is None e = refl
    none_is (Some x) e = absurd (true≢false (sym e))

-- whose spare a joined seat has
spare_cases : (a b : Option Entry) (e : Entry) → either_spare a b ≡ Some e → (a ≡ Some e) ⊎ (b ≡ Some e)
spare_cases (Some x) b e is = inl is
spare_cases None b e is = inr is

spare_none : (a b : Option Entry) → either_spare a b ≡ None → (a ≡ None)
spare_none (Some x) b is = absurd (none-some x (sym is))
spare_none None b is = refl

-- a joined seat knows what both knew
knows_both : (c d : Machine) → Grows c d → (seat other : Seat) → IsSeat c seat → IsSeat c other → (k : Known) → Contains (fold learned seat.knows other.knows) k → IsKnown d (after_join seat other) k
knows_both c d g seat other was was' k at = ⊎_elim
    (λ (mine : Contains seat.knows k). let k' = grow_known c d g seat k (was.known k mine) in record {
      published = k'.published;
      words = k'.words;
      in_range = k'.in_range;
      parts = parts_more seat.knows (fold learned seat.knows other.knows) (joined_keeps other.knows seat.knows) k.key k'.parts;
    })
    (λ (its : Contains other.knows k). let k' = grow_known c d g other k (was'.known k its) in record {
      published = k'.published;
      words = k'.words;
      in_range = k'.in_range;
      parts = parts_more other.knows (fold learned seat.knows other.knows) (joined_known other.knows seat.knows) k.key k'.parts;
    })
    (joined_cases other.knows seat.knows k at)

joined_seat : (c : Machine) (i j : ℕ) (l : List Seat) → IsSoundMachine c → IsJoining c i j → IsSeat (record c { seats = l }) (after_join (seat_at c i) (seat_at c j))
joined_seat c i j l sound may =
    let seat : Seat = seat_at c i in
    let other : Seat = seat_at c j in
    let d : Machine = record c { seats = l } in
    let g = grows_seats c l in
    let was = sound.seats i may.here in
    let was' = sound.seats j may.there in
    let a = was.stands in
    let b = was.unpublished in
    let b' = was'.unpublished in
    record {
      known = knows_both c d g seat other was was';
      own_known = λ e at. ⊎_elim
          (λ (mine : Contains seat.published e). joined_keeps other.knows seat.knows e (was.own_known e mine))
          (λ (its : Contains other.published e). joined_known other.knows seat.knows e (was'.own_known e its))
          (Contains-append_cases seat.published other.published e at);
      spare = λ e is. ⊎_elim
          (λ (mine : seat.spare ≡ Some e). let s = was.spare e mine in let n = s.counted in record { claimed = grow_claimed c d g e.0 s.claimed; unpublished = s.unpublished; counted = omega arith })
          (λ (its : other.spare ≡ Some e). let s = was'.spare e its in let n = s.counted in record { claimed = grow_claimed c d g e.0 s.claimed; unpublished = s.unpublished; counted = omega arith })
          (spare_cases seat.spare other.spare e is);
      search = λ call is. absurd (none-some call (sym may.no_call ∙ is));
      stands = omega arith;
      unpublished = omega arith;
      less_without_spare = λ none. let less = was.less_without_spare (spare_none seat.spare other.spare none) in omega arith;
      less_at_end = λ ended. ⊎_elim
          (λ (e : seat.ended ≡ true). let less = was.less_at_end e in omega arith)
          (λ (e : other.ended ≡ true). let less = was'.less_at_end e in omega arith)
          (or_cases seat.ended other.ended ended);
      end_met = λ ended. ⊎_elim was.end_met was'.end_met (or_cases seat.ended other.ended ended);
    }

-- a sum over the live seats after the join
total_join : (f : Seat → ℕ) (c : Machine) (i j : ℕ) (w : Seat) → IsJoining c i j → w.live ≡ true
    → sum_by (share_of f) (set (set c.seats i w) j spent) + (f (seat_at c i) + f (seat_at c j)) ≡ total_over_seats f c + f w
total_join f c i j w may live =
    let there : get_or (set c.seats i w) j spent ≡ seat_at c j = get_or-set_other c.seats i j w spent may.apart in
    let there_live : (get_or (set c.seats i w) j spent).live ≡ true = ap (λ (s : Seat). s.live) there ∙ may.there in
    let a = total_set f c.seats i w may.here live in
    let b = sum_by-set (share_of f) (set c.seats i w) j spent spent (live_within (set c.seats i w) j there_live) in
    let s = ap (share_of f) there ∙ share_live f (seat_at c j) may.there in
    omega arith

total_joined : (f : Seat → ℕ) (c : Machine) (i j : ℕ) (w : Seat) → IsJoining c i j → w.live ≡ true → f w ≡ f (seat_at c i) + f (seat_at c j)
    → sum_by (share_of f) (set (set c.seats i w) j spent) ≡ total_over_seats f c
total_joined f c i j w may live both = let e = total_join f c i j w may live in omega arith

more_ends : (a b : Bool) (m n : ℕ) → cond a m 0 + cond b n 0 ≤ cond (a || b) (m + n) 0
more_ends true true m n = omega arith
more_ends true false m n = omega arith
more_ends false true m n = omega arith
more_ends false false m n = omega arith

-- who holds a spare after the join held it before, or is the joined seat
record Holder (c : Machine) (i j h : ℕ) (e : Entry) : Type 0 where
  from : ℕ
  live : (seat_at c from).live ≡ true
  has : (seat_at c from).spare ≡ Some e
  moved : from ≡ j → h ≡ i
  stayed : from ≢ j → h ≡ from

holder : (c : Machine) (i j : ℕ) → IsJoining c i j → (h : ℕ) (e : Entry) → (get_or (set (set c.seats i (after_join (seat_at c i) (seat_at c j))) j spent) h spent).live ≡ true
    → (get_or (set (set c.seats i (after_join (seat_at c i) (seat_at c j))) j spent) h spent).spare ≡ Some e → Holder c i j h e
holder c i j may h e =
    let w : Seat = after_join (seat_at c i) (seat_at c j) in
    let there_live : (get_or (set c.seats i w) j spent).live ≡ true = ap (λ (s : Seat). s.live) (get_or-set_other c.seats i j w spent may.apart) ∙ may.there in
    set_cases (λ h s. s.live ≡ true → s.spare ≡ Some e → Holder c i j h e) (set c.seats i w) j spent spent (live_within (set c.seats i w) j there_live)
    (λ live _. absurd (true≢false (sym live)))
    (λ h not_j. set_cases (λ h s. h ≢ j → s.live ≡ true → s.spare ≡ Some e → Holder c i j h e) c.seats i w spent (live_within c.seats i may.here)
    (λ _ _ is. ⊎_elim
    (λ (mine : (seat_at c i).spare ≡ Some e). record { from = i; live = may.here; has = mine; moved = λ _. refl; stayed = λ _. refl })
    (λ (its : (seat_at c j).spare ≡ Some e). record { from = j; live = may.there; has = its; moved = λ _. refl; stayed = λ n. absurd (n refl) })
    (spare_cases (seat_at c i).spare (seat_at c j).spare e is))
    (λ h _ not_j live is. record { from = h; live = live; has = is; moved = λ x. absurd (not_j x); stayed = λ _. refl })
    h not_j)
    h

joins : (c : Machine) (i j : ℕ) → IsSized c → IsSoundMachine c → IsJoining c i j → Keeps c (record c { seats = set (set c.seats i (after_join (seat_at c i) (seat_at c j))) j spent })
joins c i j sized sound may =
    let seat : Seat = seat_at c i in
    let other : Seat = seat_at c j in
    let w : Seat = after_join seat other in
    let l : List Seat = set (set c.seats i w) j spent in
    let d : Machine = record c { seats = l } in
    let g = grows_seats c l in
    let there_live : (get_or (set c.seats i w) j spent).live ≡ true = ap (λ (s : Seat). s.live) (get_or-set_other c.seats i j w spent may.apart) ∙ may.there in
    let mine : IsSeat d w = joined_seat c i j l sound may in
    let listed = λ (e : ℕ). total_joined (times_listed e) c i j w may may.here (sum_by-append (λ (p : Entry). cond (eqb p.0 e) 1 0) seat.published other.published) in
    let unpublished = total_joined (λ s. s.unpublished) c i j w may may.here refl in
    let lists = total_joined (λ s. length s.published) c i j w may may.here (length-append seat.published other.published) in
    let sums = total_joined shares c i j w may may.here (omega arith) in
    let ends = total_join stands_at_end c i j w may may.here in
    let more = more_ends seat.ended other.ended seat.stands other.stands in
    let counted = sound.all_counted in
    let bound = sound.claims_bound in
    record {
      sized = record {
        limit_low = sized.limit_low;
        limit_high = sized.limit_high;
        most_low = sized.most_low;
        most_high = sized.most_high;
        buckets = sized.buckets;
        entries = sized.entries;
        five_words = sized.five_words;
      };
      sound = record {
        only_claimed = λ b e names. grow_claimed c d g e (sound.only_claimed b e names);
        named_once = sound.named_once;
        listed_once = λ b e names. listed e ∙ sound.listed_once b e names;
        listed_never = λ e never. listed e ∙ sound.listed_never e never;
        filled_from_start = sound.filled_from_start;
        distinct_keys = sound.distinct_keys;
        seats = set_cases (λ h s. s.live ≡ true → IsSeat d s) (set c.seats i w) j spent spent (live_within (set c.seats i w) j there_live)
            (λ live. absurd (true≢false (sym live)))
            (λ h _. set_cases (λ h s. s.live ≡ true → IsSeat d s) c.seats i w spent (live_within c.seats i may.here) (λ _. mine)
            (λ h _ live. grow_seat c d g (seat_at c h) (leaves_seats c l (seat_at c h) (sound.seats h live)) (sound.seats h live)) h);
        own_spare = λ h g' e live live' is is'.
            let a = holder c i j may h e live is in
            let b = holder c i j may g' e live' is' in
            let same : a.from ≡ b.from = sound.own_spare a.from b.from e a.live b.live a.has b.has in
            ⊎_elim
            (λ (at_j : a.from ≡ j). a.moved at_j ∙ sym (b.moved (sym same ∙ at_j)))
            (λ (not_j : a.from ≡ j → ⊥). a.stayed not_j ∙ (same ∙ sym (b.stayed (λ x. not_j (same ∙ x)))))
            (cases_eq a.from j);
        all_counted = omega arith;
        all_listed = lists ∙ sound.all_listed;
        all_seats = sums ∙ sound.all_seats;
        claims_bound = omega arith;
      };
      stays = record { limit = refl; most = refl; count = refl; buckets = λ b full. refl; words = λ b e names. refl };
    }

-- a join keeps the invariant
pub join_keeps : (c : Machine) (i j : ℕ) → IsSized c → IsSoundMachine c → Keeps c (join c i j)
join_keeps c i j sized sound =
    cond_both (can_join i j (seat_at c i) (seat_at c j)) _ c (Keeps c)
    (λ can. joins c i j sized sound (joining c i j can))
    (λ _. keeps_same c sized sound)
