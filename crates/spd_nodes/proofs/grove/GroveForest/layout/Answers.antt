use Rattle.std.proofs.Common.{subst}
use Rattle.spd_nodes.specs.Grove.{GroveValue, IsGrove}
use Rattle.spd_nodes.proofs.GroveLaws.{sound-shown}
use Rattle.spd_nodes.proofs.grove.GroveForest.layout.Goals as goal

pub returns-clause-sound : goal.returns-clause-sound
returns-clause-sound c =
    let g : IsGrove _ c.args.self.now = subst (λ (v : GroveValue). IsGrove c.self.inside.cons.now v) c.self.view_is c.self.invariant in
    sound-shown _ _ g.layout g.seat g.fit
