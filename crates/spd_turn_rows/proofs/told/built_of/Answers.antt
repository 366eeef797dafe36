use Rattle.std.proofs.Common.{subst}
use Rattle.spd_model.specs.Lawful.{IsLawful}
use Rattle.spd_model.proofs.CallerLemmas.Validity.{is_valid}
use Rattle.spd_turn_rows.proofs.told.built_of.Goals as goal

pub returns-in-Ok-clause-valid : goal.returns-in-Ok-clause-valid
returns-in-Ok-clause-valid g c =
    let b = c.in-Ok.ensures.built.ok in
    is_valid c.args.model.now (subst IsLawful c.model.view_is c.model.invariant) b.sums b.rewards
