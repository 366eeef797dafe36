use Rattle.std.proofs.Common.{◌≡◌, ◌∙◌, length, map, ap, sym, subst, take_all}
use Rattle.spd_model.specs.declared.process.Var.{Var}
use Rattle.spd_model.specs.Lawful.{IsLawful}
use Rattle.spd_model.specs.Process.{Process}
use Rattle.spd_nodes.specs.Limits.{IsLayout}
use Rattle.spd_build.proofs.LayoutLaws.{lawful-layout}
use Rattle.spd_build.proofs.layout.layout_of.Goals as goal

pub new-requires : goal.new-requires
new-requires c =
    let m = c.args.model.now in
    let law : IsLawful m = subst IsLawful c.model.view_is c.model.invariant in
    let counts = map (λ (x : Var). length x.values) in
    let vars : c.as_slice-vars.result.now ≡ m.vars = c.as_slice-vars.ensures ∙ ap (λ (p : Process). p.vars) c.model.view_is in
    let all = c.loop-var.invariant ∙ ap counts (take_all c.loop-var.var-index c.as_slice-vars.result.now c.loop-var-test.false) in
    subst IsLayout (sym (c.as_slice-2.ensures.value ∙ all ∙ ap counts vars)) (lawful-layout m law)
