use Rattle.std.proofs.Common.{◌≤◌, length, ap, ◌∙◌, subst, arith}
use Rattle.spd_model.specs.Process.{Process}
use Rattle.spd_model.specs.Lawful.{IsLawful}
use Rattle.spd_model.proofs.Pairs.{describes, missing_is}
use Rattle.spd_model.proofs.process.Model.state_of.Goals as goal

pub returns-in-Ok-clause-state : goal.returns-in-Ok-clause-state
returns-in-Ok-clause-state c =
    let m = c.args.self.now in
    let law : IsLawful m = subst IsLawful c.self.view_is c.self.invariant in
    let count = ap length c.as_slice.ensures ∙ ap (λ (p : Process). length p.vars) c.self.view_is in
    let few : length c.as_slice.result.now ≤ 100 = omega (arith, count, law.few_vars) in
    describes m c.args.pairs.now c.in_ok-chosen.chosen (length c.as_slice.result.now) count few c.in_ok-chosen.ensures.chosen c.in-Ok.state c.in-Ok.ensures.all

pub returns-in-Err-clause-fault : goal.returns-in-Err-clause-fault
returns-in-Err-clause-fault c =
    let m = c.args.self.now in
    let law : IsLawful m = subst IsLawful c.self.view_is c.self.invariant in
    let count = ap length c.as_slice.ensures ∙ ap (λ (p : Process). length p.vars) c.self.view_is in
    let few : length c.as_slice.result.now ≤ 100 = omega (arith, count, law.few_vars) in
    let first = c.in-Err.ensures.first in
    missing_is m c.args.pairs.now c.in_ok-chosen.chosen (length c.as_slice.result.now) count few c.in_ok-chosen.ensures.chosen c.in-Err.var first.0 first.1
