use Rattle.std.proofs.Common.{subst}
use Rattle.spd_nodes.specs.Grove.{GroveValue, IsGrove}
use Rattle.spd_nodes.proofs.GroveLaws.{sound-shown}
use Rattle.spd_nodes.proofs.grove.Grove.facts.Goals as goal

pub returns-clause-seat : goal.returns-clause-seat
returns-clause-seat c =
    let g : IsGrove _ c.args.self.now = subst (λ (v : GroveValue). IsGrove c.self.inside.cons.now v) c.self.view_is c.self.invariant in
    g.seat

pub returns-clause-fit : goal.returns-clause-fit
returns-clause-fit c =
    let g : IsGrove _ c.args.self.now = subst (λ (v : GroveValue). IsGrove c.self.inside.cons.now v) c.self.view_is c.self.invariant in
    g.fit

pub returns-clause-sound : goal.returns-clause-sound
returns-clause-sound c =
    let g : IsGrove _ c.args.self.now = subst (λ (v : GroveValue). IsGrove c.self.inside.cons.now v) c.self.view_is c.self.invariant in
    sound-shown _ _ g.layout g.seat g.fit
