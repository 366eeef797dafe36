use Rattle.std.proofs.Common.{◌≡◌, IfOk, subst}
use mir.Syntax.{w128}
use Rattle.std.proofs.lemmas.Int.{to_z-of_z}
use Rattle.spd_bellman.specs.Bound.{IsBoundBelow}
use Rattle.spd_check.specs.declared.verdict.Verdict.TheVariants.{Yes}
use Rattle.spd_check.specs.Certificates.{policy_by, value_by}
use Rattle.spd_check.proofs.alone.check_uncounted.Goals as goal

pub returns-clause-below : goal.returns-clause-below
returns-clause-below g c =
    let m = c.args.model.now in
    let w = value_by c.args.value.now in
    let policy = policy_by c.args.policy.now in
    subst (λ r. IfOk c.check_in.result (λ v. v ≡ Yes → IsBoundBelow m w policy r)) (to_z-of_z w128 c.args.residual c.ranges.residual) c.check_in.ensures.below
