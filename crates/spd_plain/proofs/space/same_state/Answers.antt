use Rattle.std.proofs.Common.{length, ap, subst, arith}
use Rattle.spd_model.specs.Lawful.{IsLawful}
use Rattle.spd_model.specs.States.{sizes}
use Rattle.spd_model.proofs.CallerLemmas.StateOrder.{length-IsState, length-sizes}
use Rattle.spd_plain.proofs.space.same_state.Goals as goal

pub of-requires : goal.of-requires
of-requires c =
    let m = c.args.model.now in
    let law = subst IsLawful c.model.view_is c.model.invariant in
    omega (arith, ap length c.values.ensures, length-IsState (sizes m) c.args.s.now c.requires, length-sizes m, law.few_vars)
