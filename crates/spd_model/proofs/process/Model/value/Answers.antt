use Rattle.std.proofs.Common.{◌≡◌, length, ◌<◌, List, get_or, sym, ap, ◌∙◌, subst}
use Rattle.spd_model.specs.declared.tree.Tree.{Tree}
use Rattle.spd_model.specs.Process.{Process}
use Rattle.spd_model.specs.Lawful.{IsLawful}
use Rattle.spd_model.specs.States.{sizes}
use Rattle.spd_model.proofs.Walks.{name_near, name_reaches, name_nearer, IsState-followed, var_near, value_near, branch_reaches, branch_nearer}
use Rattle.spd_model.proofs.process.Model.value.Goals as goal

pub bounds-as_slice-diagram : goal.bounds-as_slice-diagram
bounds-as_slice-diagram c =
    let law = subst IsLawful c.self.view_is c.self.invariant in
    let dds : c.as_slice.result.now ≡ c.args.self.now.dds = c.as_slice.ensures ∙ ap (λ (m : Process). m.dds) c.self.view_is in
    subst (λ (l : List Tree). c.in-Named.diagram < length l) (sym dds)
    (name_near c.args.self.now law.dds_fit c.args.s.now c.args.t.now c.args.tree.now c.loop-reached.reached.now c.in-Named.diagram c.in-Named.is c.loop-reached.invariant)

pub loop-reached-smaller-in-Named : goal.loop-reached-smaller-in-Named
loop-reached-smaller-in-Named c =
    let law = subst IsLawful c.self.view_is c.self.invariant in
    let dds : c.as_slice.result.now ≡ c.args.self.now.dds = c.as_slice.ensures ∙ ap (λ (m : Process). m.dds) c.self.view_is in
    let next = c.index-as_slice-diagram.result in
    name_nearer c.args.self.now law.dds_fit c.args.s.now c.args.t.now c.args.tree.now c.loop-reached.reached.now c.in-Named.diagram c.in-Named.is c.loop-reached.invariant
    next (sym (c.index-as_slice-diagram.is ∙ ap (λ (l : List Tree). get_or l c.in-Named.diagram next) dds))

pub loop-reached-preserved-in-Named : goal.loop-reached-preserved-in-Named
loop-reached-preserved-in-Named c =
    let law = subst IsLawful c.self.view_is c.self.invariant in
    let dds : c.as_slice.result.now ≡ c.args.self.now.dds = c.as_slice.ensures ∙ ap (λ (m : Process). m.dds) c.self.view_is in
    let next = c.index-as_slice-diagram.result in
    name_reaches c.args.self.now law.dds_fit c.args.s.now c.args.t.now c.args.tree.now c.loop-reached.reached.now c.in-Named.diagram c.in-Named.is c.loop-reached.invariant
    next (sym (c.index-as_slice-diagram.is ∙ ap (λ (l : List Tree). get_or l c.in-Named.diagram next) dds))

pub get-value-requires : goal.get-value-requires
get-value-requires c =
    let state = IsState-followed (sizes c.args.self.now) c.in-Branch.primed c.args.s.now c.args.t.now c.followed.result.now c.requires.present c.requires.next c.followed.ensures in
    var_near c.args.self.now c.args.s.now c.args.t.now c.args.tree.now c.loop-reached.reached.now c.in-Branch.var c.in-Branch.primed c.in-Branch.kids c.in-Branch.is
    c.loop-reached.invariant c.followed.result.now (sym c.followed.ensures) state

pub bounds-as_slice-value : goal.bounds-as_slice-value
bounds-as_slice-value c =
    let state = IsState-followed (sizes c.args.self.now) c.in-Branch.primed c.args.s.now c.args.t.now c.followed.result.now c.requires.present c.requires.next c.followed.ensures in
    let near = value_near c.args.self.now c.args.s.now c.args.t.now c.args.tree.now c.loop-reached.reached.now c.in-Branch.var c.in-Branch.primed c.in-Branch.kids c.in-Branch.is
    c.loop-reached.invariant c.followed.result.now (sym c.followed.ensures) state in
    rw (c.as_slice-in-Branch.ensures, c.get-value.ensures) near

pub loop-reached-smaller : goal.loop-reached-smaller
loop-reached-smaller c =
    let state = IsState-followed (sizes c.args.self.now) c.in-Branch.primed c.args.s.now c.args.t.now c.followed.result.now c.requires.present c.requires.next c.followed.ensures in
    let kid = c.index-as_slice-value.result in
    branch_nearer c.args.self.now c.args.s.now c.args.t.now c.args.tree.now c.loop-reached.reached.now c.in-Branch.var c.in-Branch.primed c.in-Branch.kids c.in-Branch.is
    c.loop-reached.invariant c.followed.result.now (sym c.followed.ensures) state kid
    (sym (c.index-as_slice-value.is ∙ (λ i. get_or (c.as_slice-in-Branch.ensures i) (c.get-value.ensures i) kid)))

pub loop-reached-preserved : goal.loop-reached-preserved
loop-reached-preserved c =
    let state = IsState-followed (sizes c.args.self.now) c.in-Branch.primed c.args.s.now c.args.t.now c.followed.result.now c.requires.present c.requires.next c.followed.ensures in
    let kid = c.index-as_slice-value.result in
    branch_reaches c.args.self.now c.args.s.now c.args.t.now c.args.tree.now c.loop-reached.reached.now c.in-Branch.var c.in-Branch.primed c.in-Branch.kids c.in-Branch.is
    c.loop-reached.invariant c.followed.result.now (sym c.followed.ensures) state kid
    (sym (c.index-as_slice-value.is ∙ (λ i. get_or (c.as_slice-in-Branch.ensures i) (c.get-value.ensures i) kid)))
