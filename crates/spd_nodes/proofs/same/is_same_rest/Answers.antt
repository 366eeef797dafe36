use Rattle.std.proofs.Common.{refl}
use Rattle.spd_nodes.specs.States.{AgreePast}
use Rattle.spd_nodes.specs.Shown.{meaning}
use Rattle.spd_nodes.proofs.ShownLaws.{same-rest, when-same}
use Rattle.spd_nodes.proofs.same.is_same_rest.Goals as goal

pub returns-clause-same : goal.returns-clause-same
returns-clause-same g c =
    let s = g.F.Forest.shows c.args.forest.now in
    when-same c.args.f c.args.g c.eq.result (λ r. AgreePast s.sizes c.args.level.0 (meaning s c.args.f) (meaning s r)) c.eq.ensures
    (record { at = λ p q i j k. refl })
    (same-rest s c.layout.ensures.sound c.args.level.0 c.args.f c.args.g c.requires.left c.requires.right c.requires.left_root c.requires.right_root)
