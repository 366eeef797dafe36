use Rattle.std.proofs.Common.{sym, subst, Result, Ok, Err, IfOk, IfErr}
use Rattle.spd_model.specs.Lawful.{IsLawful}
use Rattle.spd_model.proofs.CallerLemmas.Results.{err_is}
use Rattle.spd_model.proofs.CallerLemmas.Validity.{is_valid}
use Rattle.spd_check.specs.declared.verdict.CheckFault.{CheckFault}
use Rattle.spd_check.specs.declared.verdict.Verdict.{Verdict}
use Rattle.spd_check.specs.Certificates.{policy_by, value_by}
use Rattle.spd_check.specs.Faults.{IsFaultOf}
use Rattle.spd_check.proofs.alone.check.Goals as goal

pub returns-in_err-built-clause-fault : goal.returns-in_err-built-clause-fault
returns-in_err-built-clause-fault c =
    let w = value_by c.args.cert.now.value in
    let policy = policy_by c.args.cert.now.policy in
    subst (λ (r : Result Verdict CheckFault). IfErr r (IsFaultOf c.args.model.now w policy c.args.node_limit)) (sym (err_is c.from_residual.result c.in_err-built.field-0.0 c.from_residual.ensures.1))
    (c.in_err-built.ensures.fault w policy)

pub check_alone-requires-clause-valid : goal.check_alone-requires-clause-valid
check_alone-requires-clause-valid c =
    is_valid c.args.model.now (subst IsLawful c.model.view_is c.model.invariant) c.in_ok-built.ensures.built.sums c.in_ok-built.ensures.built.rewards

pub returns-clause-valid : goal.returns-clause-valid
returns-clause-valid c =
    let valid = is_valid c.args.model.now (subst IsLawful c.model.view_is c.model.invariant) c.in_ok-built.ensures.built.sums c.in_ok-built.ensures.built.rewards in
    if-ok c.check_alone.result valid
  where
    if-ok : {P : Type 0} (r : Result Verdict CheckFault) → P → IfOk r (λ v. P)
    if-ok (Ok v) p = p
    if-ok (Err e) p = tt
