use Rattle.std.proofs.Common.{◌≡◌, ◌∙◌, sym, ap, subst, length, true, ◌<◌, ◌-◌}
use Rattle.spd_cons_core.specs.Events.{can_split}
use Rattle.spd_cons.specs.Values.{SeatValue}
use Rattle.spd_cons.specs.declared.view.View.{View}
use Rattle.spd_cons.specs.Told.{Sees, Mine}
use Rattle.spd_cons.specs.Shown.{view_of}
use Rattle.spd_cons.proofs.Facts.{sees_left, sees_right, can-split}
use Rattle.spd_cons.proofs.cons.Cons.split.Goals as goal

can : (c : goal.After-seat-1) → can_split c.seat.inside.active.token.me.0.mind ≡ true
can c = can-split c.seat.inside.active.token.me.0.mind c.seat.invariant.active.sees.live c.seat.invariant.rests (subst (λ (v : SeatValue). 0 < v.mind.splits) (sym c.seat.view_is) c.requires.splits)

pub invariant_of-seat : goal.invariant_of-seat
invariant_of-seat c =
    let h = c.seat.invariant.active in
    let is = c.split_token-token.ensures.views.0 in
    let view = ap (λ (m : Mine). m.0) is in
    record {
      active = record {
        none_held = ap (λ (m : Mine). m.1) is ∙ h.none_held;
        sees = subst Sees (sym view) (sees_left (view_of c.seat.inside.active) h.sees (can c));
        heard = ap (λ (v : View). v.heard) view ∙ h.heard;
        spare = ap (λ (v : View). v.mind.spare) view ∙ h.spare;
        ended = ap (λ (v : View). v.mind.ended) view ∙ h.ended;
        published = h.published ∙ sym (ap (λ (v : View). length v.mind.published) view);
        stands = ap (λ (v : View). v.mind.stands) view ∙ h.stands;
        splits = ap (λ (v : View). v.mind.splits) view ∙ ap (λ n. n - 1) h.splits;
      };
      rests = ap (λ (v : View). v.mind.call) view ∙ c.seat.invariant.rests;
    }

pub invariant_of-result : goal.invariant_of-result
invariant_of-result c =
    let h = c.seat.invariant.active in
    let is = c.split_token-token.ensures.views.1 in
    let view = ap (λ (m : Mine). m.0) is in
    record {
      active = record {
        none_held = ap (λ (m : Mine). m.1) is;
        sees = subst Sees (sym view) (sees_right (view_of c.seat.inside.active) h.sees (can c));
        heard = ap (λ (v : View). v.heard) view;
        spare = ap (λ (v : View). v.mind.spare) view;
        ended = ap (λ (v : View). v.mind.ended) view;
        published = sym (ap (λ (v : View). length v.mind.published) view);
        stands = ap (λ (v : View). v.mind.stands) view;
        splits = ap (λ (v : View). v.mind.splits) view;
      };
      rests = ap (λ (v : View). v.mind.call) view;
    }
