use Rattle.std.proofs.Common.{sym, ap, ◌∙◌, arith}
use Rattle.spd_cons_core.specs.Views.{Seat}
use Rattle.spd_cons_core.proofs.Taken.{compare_entry, compare_bucket}
use Rattle.spd_cons_core.proofs.table.Core.load_content.Goals as goal

pub load_word-loaded-requires-clause-within : goal.load_word-loaded-requires-clause-within
load_word-loaded-requires-clause-within c =
    compare_entry c.args.self.now c.requires.sized c.requires.sound c.args.seat c.in-Some.mind.now c.in-Some-call.call c.args.entry c.args.word c.can_compare.result c.in-Some.ensures.seat c.can_compare.ensures c.if-not-can_compare.false
    (ap (λ (s : Seat). s.call) (sym c.mind.view_is) ∙ c.in-Some-call.is)

pub see_content-requires-clause-at : goal.see_content-requires-clause-at
see_content-requires-clause-at c =
    let within = compare_bucket c.args.self.now c.requires.sound c.args.seat c.in-Some.mind.now c.in-Some-call.call c.args.entry c.args.word c.can_compare.result c.in-Some.ensures.seat c.can_compare.ensures c.if-not-can_compare.false
    (ap (λ (s : Seat). s.call) (sym c.mind.view_is) ∙ c.in-Some-call.is) in
    let count = c.bucket_count-count.ensures in
    omega arith
