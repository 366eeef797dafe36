use Rattle.std.proofs.Common.{◌≡◌, ◌∙◌, length, sym, ap, subst}
use Rattle.spd_cons_core.specs.Invariants.{shares}
use Rattle.spd_cons.specs.Values.{SeatValue, TableValue, IsPublishedCount}
use Rattle.spd_cons.proofs.Facts.{published_count}
use Rattle.spd_cons.proofs.cons.Cons.made.Goals as goal

pub returns-clause-filled : goal.returns-clause-filled
returns-clause-filled c =
    let own : c.args.self ≡ c.args.seat.table = sym c.requires.own in
    subst (IsPublishedCount c.args.seat) (sym c.published.ensures)
    (subst (λ (v : SeatValue). shares v.mind ≡ v.table.size.most → IsPublishedCount v (length v.mind.published)) c.seat.view_is
    (λ all. (c.seat.invariant.active.sees, published_count _ _ c.seat.invariant.active.sees all))
    (c.requires.all ∙ ap (λ (t : TableValue). t.size.most) own))
