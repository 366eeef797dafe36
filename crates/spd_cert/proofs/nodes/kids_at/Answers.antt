use Rattle.std.proofs.Common.{◌≡◌, ◌-◌, ◌+◌, [], List, ℕ, Ok, ap, subst, ◌∙◌}
use Rattle.std.proofs.lemmas.Result.{err_from_is_err_and}
use Rattle.spd_frozen.specs.Nodes.{all_shown}
use Rattle.spd_cert.specs.declared.word.Ender.{Ender}
use Rattle.spd_cert.specs.Reading.{Fails, kid_at, kids_at}
use Rattle.spd_cert.proofs.Loops.{kid_goes_on, kid_stops, kids_done}
use Rattle.spd_cert.proofs.nodes.kids_at.Goals as goal

pub returns-in_err-kid : goal.returns-in_err-kid
returns-in_err-kid c =
    let p = err_from_is_err_and c.from_residual-in_err-kid.result c.from_residual-in_err-kid.ensures.1 in
    let nodes = all_shown c.args.nodes.now in
    let stopped = subst (λ (e : Ender). Fails c.in_err-kid.field-0.0 (kid_at nodes c.args.var e c.loop-before.rest.now)) c.kid_ender.ensures c.in_err-kid.ensures in
    rw (p.1, p.2) (
    kid_stops nodes c.args.var c.args.size c.loop-before.before c.loop-before.kids.items c.loop-before.rest.now (kids_at nodes c.args.var c.args.size [] c.args.bytes.now) c.loop-before.invariant
    c.in_err-kid.field-0.0 c.loop-before-test.true stopped
    )

pub loop-before-preserved : goal.loop-before-preserved
loop-before-preserved c =
    let nodes = all_shown c.args.nodes.now in
    let kid = c.in_ok-kid.kid in
    let read = subst (λ (e : Ender). kid_at nodes c.args.var e c.loop-before.rest.now ≡ Ok (kid, c.in_ok-kid.behind.now)) c.kid_ender.ensures c.in_ok-kid.ensures in
    ap (λ (l : List ℕ). kids_at nodes c.args.var (c.args.size - (c.loop-before.before + 1)) l c.in_ok-kid.behind.now) c.in_ok-push.ensures.items
    ∙ kid_goes_on nodes c.args.var c.args.size c.loop-before.before c.loop-before.kids.items c.loop-before.rest.now (kids_at nodes c.args.var c.args.size [] c.args.bytes.now) c.loop-before.invariant
    kid c.in_ok-kid.behind.now c.loop-before-test.true read

pub returns : goal.returns
returns c =
    let nodes = all_shown c.args.nodes.now in
    kids_done nodes c.args.var c.args.size c.loop-before.before c.loop-before.kids.items c.loop-before.rest.now (kids_at nodes c.args.var c.args.size [] c.args.bytes.now) c.loop-before.invariant c.loop-before-test.false
