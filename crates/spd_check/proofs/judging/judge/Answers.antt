use Rattle.std.proofs.Common.{◌≡◌, ◌∙◌, sym, subst, ap}
use mir.Syntax.{w128}
use Rattle.std.proofs.lemmas.Int.{to_z-of_z}
use Rattle.spd_nodes.specs.Shown.{Shown, meaning}
use Rattle.spd_search.specs.Found.{first_found}
use Rattle.spd_model.specs.States.{IsState}
use Rattle.spd_check.specs.declared.verdict.Verdict.TheVariants.{No}
use Rattle.spd_check.specs.Certificates.{fails_above, fails_below, policy_by}
use Rattle.spd_check.specs.inner.Judging.{action_by}
use Rattle.spd_check.proofs.JudgeLaws.{above-search, below-search, found-all, found-long, judged-no, judged-yes, over}
use Rattle.spd_check.proofs.judging.judge.Goals as goal

pub first_of-requires : goal.first_of-requires
first_of-requires g c =
    let s = g.F.Forest.shows c.args.forest.now in
    found-long s c.args.residual c.args.gaps.now.above c.args.gaps.now.below c.in_ok-above.above c.in_ok-below.below (subst (λ z. c.in_ok-above.above ≡ first_found s.sizes (over z) (meaning s c.args.gaps.now.above)) (to_z-of_z w128 c.args.residual c.ranges.residual) c.in_ok-above.ensures.found) (subst (λ z. c.in_ok-below.below ≡ first_found s.sizes (over z) (meaning s c.args.gaps.now.below)) (to_z-of_z w128 c.args.residual c.ranges.residual) (rw c.first_found.ensures.same at c.in_ok-below.ensures.found))

pub action_at-action-requires-clause-state : goal.action_at-action-requires-clause-state
action_at-action-requires-clause-state g c =
    let s = g.F.Forest.shows c.args.forest.now in
    let same : g.F.Forest.shows c.first_found-2.new.forest ≡ s = c.first_found-2.ensures.same ∙ c.first_found.ensures.same in
    subst (λ (t : Shown). IsState t.sizes c.in-Some.failure.state) (sym same)
    (c.in-Some.ensures.state s.sizes (found-all s c.args.residual c.args.gaps.now.above c.in_ok-above.above (subst (λ z. c.in_ok-above.above ≡ first_found s.sizes (over z) (meaning s c.args.gaps.now.above)) (to_z-of_z w128 c.args.residual c.ranges.residual) c.in_ok-above.ensures.found))
    (found-all s c.args.residual c.args.gaps.now.below c.in_ok-below.below (subst (λ z. c.in_ok-below.below ≡ first_found s.sizes (over z) (meaning s c.args.gaps.now.below)) (to_z-of_z w128 c.args.residual c.ranges.residual) (rw c.first_found.ensures.same at c.in_ok-below.ensures.found))))

pub returns-in-None-clause-verdict : goal.returns-in-None-clause-verdict
returns-in-None-clause-verdict g c = λ m w can.
    let s = g.F.Forest.shows c.args.forest.now in
    let o = c.layout.ensures.sound in
    let bounds = c.args.bounds.now in
    let policy = c.args.policy.now in
    judged-yes m w policy c.args.residual s o bounds c.args.high c.args.gaps.now can
    (c.in-None.ensures.first s.sizes (fails_above m w c.args.residual) (fails_below m w (policy_by policy) c.args.residual)
    (above-search m w policy c.args.residual s o bounds c.args.high c.args.gaps.now can c.in_ok-above.above (subst (λ z. c.in_ok-above.above ≡ first_found s.sizes (over z) (meaning s c.args.gaps.now.above)) (to_z-of_z w128 c.args.residual c.ranges.residual) c.in_ok-above.ensures.found))
    (below-search m w policy c.args.residual s o bounds c.args.high c.args.gaps.now can c.in_ok-below.below (subst (λ z. c.in_ok-below.below ≡ first_found s.sizes (over z) (meaning s c.args.gaps.now.below)) (to_z-of_z w128 c.args.residual c.ranges.residual) (rw c.first_found.ensures.same at c.in_ok-below.ensures.found))))

pub returns-in-Some-clause-verdict : goal.returns-in-Some-clause-verdict
returns-in-Some-clause-verdict g c = λ m w can.
    let s = g.F.Forest.shows c.args.forest.now in
    let o = c.layout.ensures.sound in
    let bounds = c.args.bounds.now in
    let policy = c.args.policy.now in
    let failure = c.in-Some.failure in
    let same : g.F.Forest.shows c.first_found-2.new.forest ≡ s = c.first_found-2.ensures.same ∙ c.first_found.ensures.same in
    let action = subst (λ (t : Shown). c.action_at-action.result ≡ action_by t bounds c.args.high policy failure) same c.action_at-action.ensures.action in
    ap (No failure.state failure.side) action
    ∙ judged-no m w policy c.args.residual s o bounds c.args.high c.args.gaps.now can failure
    (c.in-Some.ensures.first s.sizes (fails_above m w c.args.residual) (fails_below m w (policy_by policy) c.args.residual)
    (above-search m w policy c.args.residual s o bounds c.args.high c.args.gaps.now can c.in_ok-above.above (subst (λ z. c.in_ok-above.above ≡ first_found s.sizes (over z) (meaning s c.args.gaps.now.above)) (to_z-of_z w128 c.args.residual c.ranges.residual) c.in_ok-above.ensures.found))
    (below-search m w policy c.args.residual s o bounds c.args.high c.args.gaps.now can c.in_ok-below.below (subst (λ z. c.in_ok-below.below ≡ first_found s.sizes (over z) (meaning s c.args.gaps.now.below)) (to_z-of_z w128 c.args.residual c.ranges.residual) (rw c.first_found.ensures.same at c.in_ok-below.ensures.found))))
