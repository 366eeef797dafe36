-- What holds of a seat whose view is one of a machine that meets the invariant.
use Rattle.std.proofs.Common.{◌≡◌, ℕ, ◌+◌, ◌<◌, ◌≤◌, true, length, sym, ap, ◌∙◌, subst, refl, [], ◌∷◌, set, arith, length-set, None, Some, Option, is_none, ◌&&◌, ◌||◌, length-append}
use Rattle.std.specs.List.{Contains}
use Rattle.spd_cons_core.specs.declared.mind.Known.{Known}
use Rattle.spd_cons_core.specs.Views.{Seat}
use Rattle.std.specs.List.{fold}
use Rattle.std.specs.Option.{option_or}
use Rattle.spd_cons_core.specs.declared.key.Entry.{Entry}
use Rattle.spd_cons_core.specs.Events.{either_spare}
use Rattle.spd_cons.specs.declared.seat.ActiveSeat.{ActiveSeat}
use Rattle.std.proofs.lemmas.Bool.{lt-ltb}
use Rattle.std.proofs.Math.ListN.{get_or-append}
use Rattle.std.proofs.Math.Seq.{get_or-append_seam}
use Rattle.std.proofs.lemmas.List.{get_or-set_same}
use Rattle.spd_cons_core.specs.Views.{Machine}
use Rattle.spd_cons_core.specs.Events.{can_split, after_split, split_off, split}
use Rattle.spd_cons_core.specs.Seats.{spent, seat_at, parts_known, is_known, learned}
use Rattle.spd_cons_core.specs.Invariants.{shares, times_listed, filled}
use Rattle.spd_cons_core.proofs.CallerLemmas.{joined_known, joined_cases, joined_contains, known_from, split_keeps, split_taken, live_within, known_keys, known_entries, full_table, filled_above_limit, listed_at_most_once, total_alone}
use Rattle.spd_cons.specs.declared.view.Size.{Size}
use Rattle.spd_cons.specs.declared.view.View.{View}
use Rattle.spd_cons.specs.declared.seat.Seat.TheInside.{Inside}
use Rattle.spd_cons.specs.Values.{TableValue, IsSeated, IsSeatOf, Joins}
use Rattle.spd_cons.specs.Shown.{shown, IsAtRest, IsActive, view_of}
use Rattle.spd_cons.specs.Told.{Sees, Learns, split_view, new_view, joined_view}

pub seat_facts : (v : View) (t : TableValue) → Sees v → t.size ≡ v.size → IsSeatOf (record { table = t; mind = v.mind })
seat_facts v t sees size =
    let live = ap (λ (z : Seat). z.live) sees.there ∙ sees.live in
    let was = sees.sound.seats sees.seat live in
    let knows : (seat_at sees.machine sees.seat).knows ≡ v.mind.knows = ap (λ (z : Seat). z.knows) sees.there in
    let there : (k : Known) → Contains v.mind.knows k → Contains (seat_at sees.machine sees.seat).knows k = λ k at. subst (λ l. Contains l k) (sym knows) at in
    record {
      keys = λ k other at at' same. known_keys sees.machine sees.sound sees.seat sees.seat k other live live (there k at) (there other at') same;
      entries = λ k other at at' same. known_entries sees.machine sees.sound sees.seat sees.seat k other live live (there k at) (there other at') same;
      parts = λ k at. subst (λ l. parts_known l k.key ≡ true) knows (was.known k (there k at)).parts;
      listed = λ e at. subst (λ l. is_known l e ≡ true) knows (was.own_known e (subst (λ l. Contains l e) (sym (ap (λ (z : Seat). z.published) sees.there)) at));
      once = λ e. subst (λ (z : Seat). times_listed e z ≤ 1) sees.there (listed_at_most_once sees.machine sees.sound sees.seat live e);
      full = λ ended all.
          let more = full_table sees.machine sees.sound sees.seat live (ap (λ (z : Seat). z.ended) sees.there ∙ ended) (ap shares sees.there ∙ (all ∙ (ap (λ (z : Size). z.most) size ∙ sym sees.most))) in
          subst (λ (n : ℕ). n < length v.mind.published) (sees.limit ∙ sym (ap (λ (z : Size). z.limit) size)) (subst (λ (z : Seat). sees.machine.limit < length z.published) sees.there more);
    }

-- where the seat has met the end, and where it is all seats

pub more_than_limit : (size : Size) (mind : Seat) (m : IsSeated size mind) → mind.ended ≡ true → size.limit < filled m.machine
more_than_limit size mind m ended =
    subst (λ (n : ℕ). n < filled m.machine) m.limit (filled_above_limit m.machine m.sound m.seat (ap (λ (z : Seat). z.live) m.there ∙ m.live) (ap (λ (z : Seat). z.ended) m.there ∙ ended))

pub published_count : (size : Size) (mind : Seat) (m : IsSeated size mind) → shares mind ≡ size.most → filled m.machine ≡ length mind.published
published_count size mind m all =
    sym m.sound.all_listed
    ∙ (total_alone (λ s. length s.published) m.machine m.sound m.seat (ap (λ (z : Seat). z.live) m.there ∙ m.live) (ap shares m.there ∙ (all ∙ sym m.most))
    ∙ ap (λ (z : Seat). length z.published) m.there)

pub rest_facts : (s : Inside) → IsAtRest s → IsSeatOf (shown s)
rest_facts s rest = seat_facts (s.active.token.me.0) (record { id = s.active.token.table_id; size = s.active.token.me.0.size }) rest.active.sees refl

-- after a split

pub sees_left : (v : View) → Sees v → can_split v.mind ≡ true → Sees (split_view v)
sees_left v s can =
    let c : Machine = s.machine in
    let within : s.seat < length c.seats = live_within c.seats s.seat (ap (λ (z : Seat). z.live) s.there ∙ s.live) in
    let law = split_keeps c s.seat s.sized s.sound in
    let taken = split_taken c s.seat v.mind s.there can in
    record {
      machine = split c s.seat;
      seat = s.seat;
      sized = law.sized;
      sound = law.sound;
      limit = law.stays.limit ∙ s.limit;
      most = law.stays.most ∙ s.most;
      count = law.stays.count ∙ s.count;
      there = ap (λ (m : Machine). seat_at m s.seat) taken ∙ (get_or-append (set c.seats s.seat (after_split v.mind)) (split_off v.mind ∷ []) spent s.seat (omega (arith, length-set c.seats s.seat (after_split v.mind))) ∙ get_or-set_same c.seats s.seat (after_split v.mind) spent within);
      live = s.live;
    }

pub sees_right : (v : View) → Sees v → can_split v.mind ≡ true → Sees (new_view v)
sees_right v s can =
    let c : Machine = s.machine in
    let law = split_keeps c s.seat s.sized s.sound in
    let taken = split_taken c s.seat v.mind s.there can in
    record {
      machine = split c s.seat;
      seat = length (set c.seats s.seat (after_split v.mind));
      sized = law.sized;
      sound = law.sound;
      limit = law.stays.limit ∙ s.limit;
      most = law.stays.most ∙ s.most;
      count = law.stays.count ∙ s.count;
      there = ap (λ (m : Machine). seat_at m (length (set c.seats s.seat (after_split v.mind)))) taken ∙ get_or-append_seam (set c.seats s.seat (after_split v.mind)) (split_off v.mind) [] spent;
      live = refl;
    }

pub can-split : (m : Seat) → m.live ≡ true → m.call ≡ None → 0 < m.splits → can_split m ≡ true
can-split m live rests more = λ i. live i && (is_none (rests i) && lt-ltb 0 m.splits more i)

-- after a join

pub join_result : (t o n : TableValue) (v u w : View) → n ≡ t → Learns (joined_view v u) w → Joins (record { table = t; mind = v.mind }) (record { table = o; mind = u.mind }) (record { table = n; mind = w.mind })
join_result t o n v u w table learns =
    let now = learns.now in
    let knows : w.mind.knows ≡ fold learned v.mind.knows u.mind.knows = ap (λ (z : View). z.mind.knows) now in
    record {
      is = λ i. record { table = table i; mind = ap (λ (z : View). z.mind) now i };
      first = λ k at. subst (λ l. Contains l k) (sym knows) (joined_contains u.mind.knows v.mind.knows k at);
      second = λ k at. subst (λ l. Contains l k) (sym knows) (learns.heard k at (joined_known u.mind.knows v.mind.knows k.entry (known_from u.mind.knows k at)));
      only = λ k at. joined_cases u.mind.knows v.mind.knows k (subst (λ l. Contains l k) knows at);
    }

either_is_or : (a b : Option Entry) → either_spare a b ≡ option_or a b
either_is_or (Some x) b = refl
either_is_or None b = refl

pub join_rest : (h theirs new : ActiveSeat) → IsActive h → IsActive theirs → (view_of h).mind.call ≡ None → Learns (joined_view (view_of h) (view_of theirs)) (view_of new) → new.token.me.1 ≡ h.token.me.1
    → new.spare ≡ option_or h.spare theirs.spare → new.ended ≡ (h.ended || theirs.ended) → new.published ≡ h.published + theirs.published → new.stands ≡ h.stands + theirs.stands → new.splits ≡ h.splits + theirs.splits
    → IsActive new × ((view_of new).mind.call ≡ None)
join_rest h theirs new is is' rests learns held spare ended published stands splits =
    let now = learns.now in (
      record {
        none_held = held ∙ is.none_held;
        sees = learns.is;
        heard = ap (λ (z : View). z.heard) now;
        spare = ap (λ (z : View). z.mind.spare) now ∙ ((λ i. either_spare (is.spare i) (is'.spare i)) ∙ (either_is_or h.spare theirs.spare ∙ sym spare));
        ended = ap (λ (z : View). z.mind.ended) now ∙ ((λ i. is.ended i || is'.ended i) ∙ sym ended);
        published = published ∙ ((λ i. is.published i + is'.published i) ∙ sym (ap (λ (z : View). length z.mind.published) now ∙ length-append (view_of h).mind.published (view_of theirs).mind.published));
        stands = ap (λ (z : View). z.mind.stands) now ∙ ((λ i. is.stands i + is'.stands i) ∙ sym stands);
        splits = ap (λ (z : View). z.mind.splits) now ∙ ((λ i. is.splits i + is'.splits i) ∙ sym splits);
      },
      ap (λ (z : View). z.mind.call) now ∙ rests,
    )
