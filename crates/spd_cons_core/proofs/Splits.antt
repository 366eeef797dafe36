-- The law of a split.
use Rattle.std.proofs.Common.{◌≡◌, ℕ, ◌<◌, true, List, [], ◌∷◌, ◌++◌, length, get_or, set, Some, is_none, refl, sym, ◌∙◌, subst, ⊎_elim, arith}
use Rattle.std.specs.List.{Contains}
use Rattle.std.proofs.lemmas.Bool.{true≢false, and_parts, cond_both, ltb-true, cases_order}
use Rattle.std.proofs.lemmas.List.{get_or_append_left, get_or_push, get_or_past, length_push}
use Rattle.std.proofs.lemmas.List.Sums.{sum_by_push}
use Rattle.std.proofs.lemmas.Option.{none-some}
use Rattle.spd_cons_core.specs.Views.{Seat, Machine}
use Rattle.spd_cons_core.specs.Seats.{spent, seat_at}
use Rattle.spd_cons_core.specs.Events.{can_split, after_split, split_off, split}
use Rattle.spd_cons_core.specs.Invariants.{IsSized, IsSeat, IsSoundMachine, Keeps, times_listed, shares, stands_at_end}
use Rattle.spd_cons_core.proofs.Writes.{total_set, total_same, share_of}
use Rattle.spd_cons_core.proofs.Growth.{Grows, LeavesSpare, known_moved, grow_claimed, search_moved}
use Rattle.spd_cons_core.proofs.Quiet.{keeps_same, seats_changed, spares_changed, spare_kept}

-- a list with one more element, by cases on the place
pub push_cases : {A : Type 0} (P : ℕ → A → Type 0) (l : List A) (y d : A) → ((j : ℕ) → P j (get_or l j d)) → P (length l) y → (j : ℕ) → P j (get_or (l ++ y ∷ []) j d)
push_cases P l y d old new j =
    ⊎_elim
    (λ (e : j ≡ length l). subst (P j) (sym (get_or_push l y d j (sym e))) (subst (λ k. P k y) (sym e) new))
    (λ o. ⊎_elim
    (λ (less : j < length l). subst (P j) (sym (get_or_append_left l (y ∷ []) d j less)) (old j))
    (λ (more : length l < j). subst (P j) (get_or_past l j d (omega arith) ∙ sym (get_or_past (l ++ y ∷ []) j d (omega (arith, length_push l y)))) (old j))
    o)
    (cases_order j (length l))

-- the table is the same, whatever the seats
pub grows_seats : (c : Machine) (l : List Seat) → Grows c (record c { seats = l })
grows_seats c l = record { limit = refl; most = refl; count = refl; claims = omega arith; names = λ b e names. names; words = λ b e names. refl }

pub leaves_seats : (c : Machine) (l : List Seat) (seat : Seat) → IsSeat c seat → LeavesSpare c (record c { seats = l }) seat
leaves_seats c l seat was = record { words = λ e is. refl; unpublished = λ e is. (was.spare e is).unpublished }

pub nothing_contained : {A : Type 0} (x : A) → Contains [] x → ⊥
nothing_contained x at = omega (arith, at.1)

splits : (c : Machine) (i : ℕ) → IsSized c → IsSoundMachine c → (seat_at c i).live ≡ true → 0 < (seat_at c i).splits
    → Keeps c (record c { seats = set c.seats i (after_split (seat_at c i)) ++ split_off (seat_at c i) ∷ [] })
splits c i sized sound live some =
    let seat : Seat = seat_at c i in
    let w : Seat = after_split seat in
    let v : Seat = split_off seat in
    let l : List Seat = set c.seats i w in
    let all : List Seat = l ++ v ∷ [] in
    let d : Machine = record c { seats = all } in
    let g = grows_seats c all in
    let was = sound.seats i live in
    let mine : IsSeat d w = record {
      known = known_moved c d g seat w refl was.known;
      own_known = was.own_known;
      spare = λ e is. let s = was.spare e is in record { claimed = grow_claimed c d g e.0 s.claimed; unpublished = s.unpublished; counted = s.counted };
      search = λ call is. let s = was.search call is in search_moved c d g seat w refl call s s.stored s.none_stored;
      stands = was.stands;
      unpublished = was.unpublished;
      less_without_spare = was.less_without_spare;
      less_at_end = was.less_at_end;
      end_met = was.end_met;
    } in
    let other : IsSeat d v = record {
      known = known_moved c d g seat v refl was.known;
      own_known = λ e at. absurd (nothing_contained e at);
      spare = λ e is. absurd (none-some e is);
      search = λ call is. absurd (none-some call is);
      stands = omega arith;
      unpublished = omega arith;
      less_without_spare = λ _. omega arith;
      less_at_end = λ ended. absurd (true≢false (sym ended));
      end_met = λ ended. absurd (true≢false (sym ended));
    } in
    let listed = λ (e : ℕ). total_same (times_listed e) c.seats i w live live refl in
    let listed' = λ (e : ℕ). sum_by_push (share_of (times_listed e)) l v in
    let unpublished = total_same (λ s. s.unpublished) c.seats i w live live refl in
    let unpublished' = sum_by_push (share_of (λ s. s.unpublished)) l v in
    let lists = total_same (λ s. length s.published) c.seats i w live live refl in
    let lists' = sum_by_push (share_of (λ s. length s.published)) l v in
    let sums = total_set shares c.seats i w live live in
    let sums' = sum_by_push (share_of shares) l v in
    let ends = total_same stands_at_end c.seats i w live live refl in
    let ends' = sum_by_push (share_of stands_at_end) l v in
    let counted = sound.all_counted in
    let all_listed = sound.all_listed in
    let all_seats = sound.all_seats in
    let bound = sound.claims_bound in
    let spares = spares_changed c sound i w live (spare_kept c sound i w live refl) in
    record {
      sized = record {
        limit_low = sized.limit_low;
        limit_high = sized.limit_high;
        most_low = sized.most_low;
        most_high = sized.most_high;
        buckets = sized.buckets;
        entries = sized.entries;
        five_words = sized.five_words;
      };
      sound = record {
        only_claimed = λ b e names. grow_claimed c d g e (sound.only_claimed b e names);
        named_once = sound.named_once;
        listed_once = λ b e names. let a = listed e in let b' = listed' e in let one = sound.listed_once b e names in omega arith;
        listed_never = λ e never. let a = listed e in let b' = listed' e in let none = sound.listed_never e never in omega arith;
        filled_from_start = sound.filled_from_start;
        distinct_keys = sound.distinct_keys;
        seats = push_cases (λ j s. s.live ≡ true → IsSeat d s) l v spent
            (seats_changed c d g sound i w live mine (λ j _ there. leaves_seats c all (seat_at c j) (sound.seats j there))) (λ _. other);
        own_spare = λ j h e.
            push_cases (λ j s. s.live ≡ true → (get_or all h spent).live ≡ true → s.spare ≡ Some e → (get_or all h spent).spare ≡ Some e → j ≡ h) l v spent
            (λ j here there its. push_cases (λ h s. s.live ≡ true → s.spare ≡ Some e → j ≡ h) l v spent (λ h there' its'. spares j h e here there' its its') (λ _ is. absurd (none-some e is)) h there)
            (λ _ _ is _. absurd (none-some e is)) j;
        all_counted = omega arith;
        all_listed = omega arith;
        all_seats = omega arith;
        claims_bound = omega arith;
      };
      stays = record { limit = refl; most = refl; count = refl; buckets = λ b full. refl; words = λ b e names. refl };
    }

-- a split keeps the invariant
pub split_keeps : (c : Machine) (i : ℕ) → IsSized c → IsSoundMachine c → Keeps c (split c i)
split_keeps c i sized sound =
    cond_both (can_split (seat_at c i)) _ c (Keeps c)
    (λ can. let all = and_parts (seat_at c i).live _ can in
    splits c i sized sound all.0 (ltb-true 0 (seat_at c i).splits (and_parts (is_none (seat_at c i).call) _ all.1).1))
    (λ _. keeps_same c sized sound)
