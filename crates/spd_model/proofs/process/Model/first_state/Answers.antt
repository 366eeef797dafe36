use Rattle.std.proofs.Common.{length, ap, ◌∙◌, subst, sym, arith}
use Rattle.spd_model.specs.Process.{Process}
use Rattle.spd_model.specs.Lawful.{IsLawful}
use Rattle.spd_model.specs.States.{sizes}
use Rattle.spd_model.proofs.CallerLemmas.StateOrder.{sizes_some, length-sizes}
use Rattle.spd_model.proofs.Steps.{first_is}
use Rattle.spd_model.proofs.process.Model.first_state.Goals as goal

pub returns : goal.returns
returns c =
    let m = c.args.self.now in
    let law : IsLawful m = subst IsLawful c.self.view_is c.self.invariant in
    let count = ap length c.as_slice.ensures ∙ ap (λ (p : Process). length p.vars) c.self.view_is ∙ sym (length-sizes m) in
    first_is (sizes m) _ _ (sizes_some m law) count (omega (arith, length-sizes m, law.few_vars)) c.of.ensures
