use Rattle.std.proofs.Common.{◌<◌, sym, subst}
use Rattle.spd_cons_core.specs.declared.mind.Call.{Call}
use Rattle.spd_cons_core.specs.Seats.{bucket_count}
use Rattle.spd_cons_core.proofs.Taken.{call_for_within}
use Rattle.spd_cons_core.proofs.table.Core.load_bucket.Goals as goal

pub load-loaded-requires-clause-within : goal.load-loaded-requires-clause-within
load-loaded-requires-clause-within c =
    let within = call_for_within c.args.self.now c.requires.sized c.requires.sound c.args.seat c.args.key c.in-Some.mind.now c.can_load_bucket.result c.in-Some.ensures.seat c.can_load_bucket.ensures c.if-not-can_load_bucket.false in
    subst (λ (call : Call). call.at < bucket_count c.args.self.now) (sym c.call_for-call.ensures.call) within
