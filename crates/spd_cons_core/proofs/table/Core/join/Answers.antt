use Rattle.std.proofs.Common.{◌≡◌, sym, subst, OnOk}
use Rattle.spd_cons_core.specs.Views.{Machine}
use Rattle.spd_cons_core.proofs.Taken.{join_taken}
use Rattle.spd_cons_core.proofs.table.Core.join.Goals as goal

pub returns : goal.returns
returns c =
    let is = join_taken c.args.self.now c.end_seat-ended.new.self c.args.seat c.args.other c.in-Some-Some.first.now c.in-Some-Some.second.now c.end_seat-ended.result c.can_join.result
    c.in-Some-Some.ensures.seat c.in-Some-Some.ensures'.seat c.if-seat-other.false c.can_join.ensures c.if-not-can_join.false c.end_seat-ended.ensures.seat c.end_seat-ended.ensures.left in
    subst (λ (m : Machine). OnOk c.take_over.result (c.take_over.new.self ≡ m)) (sym is) c.take_over.ensures
