use Rattle.spd_solver.proofs.VerdictLaws.{text_placed}
use Rattle.spd_solver.proofs.checking.judge.Goals as goal

pub unjudged-requires : goal.unjudged-requires
unjudged-requires c = text_placed c.args.given.now.model c.args.given.now.digest c.deref.result.now c.args.options.now.nodes c.in-Err.why c.in-Err.ensures.unjudged
