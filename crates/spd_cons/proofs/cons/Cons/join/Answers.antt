use Rattle.std.proofs.Common.{◌≡◌, ◌∙◌, ap, subst, refl, ◌||◌, ◌+◌}
use Rattle.spd_cons.specs.declared.view.View.{View}
use Rattle.spd_cons.specs.declared.seat.ActiveSeat.{ActiveSeat}
use Rattle.spd_cons.specs.Told.{Mine, Learns, joined_view}
use Rattle.spd_cons.specs.Shown.{shown, view_of}
use Rattle.spd_cons.specs.Values.{SeatValue, TableValue, IsSeatOf, Joins}
use Rattle.spd_cons.proofs.Facts.{join_result, join_rest, rest_facts, seat_facts}
use Rattle.spd_cons.proofs.cons.Cons.join.Goals as goal

learned : (c : goal.After-seat-5-1) → Learns (joined_view (view_of c.seat.inside.active) (view_of c.other.inside.active)) c.look.new.token.me.0
learned c = subst (λ (m : Mine). Learns m.0 c.look.new.token.me.0) c.join_token.ensures.views c.look.ensures.tells.0

pub returns-clause-joins : goal.returns-clause-joins
returns-clause-joins c =
    let n : TableValue = record { id = c.look.new.token.table_id; size = c.look.new.token.me.0.size } in
    let new : SeatValue = record { table = n; mind = c.look.new.token.me.0.mind } in
    let old : SeatValue = shown c.seat.inside in
    let theirs : SeatValue = shown c.other.inside in
    let same : n ≡ old.table = λ i. record { id = (c.look.ensures.own ∙ c.join_token.ensures.own) i; size = ap (λ (z : View). z.size) (learned c).now i } in
    subst (λ (p : SeatValue). Joins p c.args.other new) c.seat.view_is
    (subst (λ (q : SeatValue). Joins old q new) c.other.view_is
    (join_result old.table theirs.table n (view_of c.seat.inside.active) (view_of c.other.inside.active) c.look.new.token.me.0 same (learned c)))

pub returns-clause-before : goal.returns-clause-before
returns-clause-before c = subst (λ (v : SeatValue). IsSeatOf v) c.seat.view_is (rest_facts _ c.seat.invariant)

pub returns-clause-other : goal.returns-clause-other
returns-clause-other c = subst (λ (v : SeatValue). IsSeatOf v) c.other.view_is (rest_facts _ c.other.invariant)

pub returns-clause-after : goal.returns-clause-after
returns-clause-after c = seat_facts c.look.new.token.me.0 _ c.look.ensures.tells.0.is refl

pub invariant_of-seat : goal.invariant_of-seat
invariant_of-seat c =
    let new : ActiveSeat = record { token = c.look.new.token; spare = c.or-seat-inside.result; ended = c.seat.inside.active.ended || c.other.inside.active.ended; published = c.seat.inside.active.published + c.other.inside.active.published; stands = c.seat.inside.active.stands + c.other.inside.active.stands; splits = c.seat.inside.active.splits + c.other.inside.active.splits } in
    let r = join_rest c.seat.inside.active c.other.inside.active new c.seat.invariant.active c.other.invariant.active c.seat.invariant.rests (learned c) (c.look.ensures.tells.1 ∙ ap (λ (m : Mine). m.1) c.join_token.ensures.views) c.or-seat-inside.ensures refl refl refl refl in
    record { active = r.0; rests = r.1 }
