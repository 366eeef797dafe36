use Rattle.std.proofs.Common.{refl}
use Rattle.spd_nodes.specs.States.{Agree}
use Rattle.spd_nodes.specs.Shown.{meaning}
use Rattle.spd_nodes.proofs.ShownLaws.{same-function, when-same}
use Rattle.spd_nodes.proofs.same.is_same_function.Goals as goal

pub returns-clause-same : goal.returns-clause-same
returns-clause-same g c =
    let s = g.F.Forest.shows c.args.forest.now in
    when-same c.args.f c.args.g c.eq.result (λ r. Agree s.sizes (meaning s c.args.f) (meaning s r)) c.eq.ensures
    (record { at = λ p q i j. refl })
    (same-function s c.layout.ensures.sound c.args.f c.args.g c.requires.left c.requires.right c.requires.left_whole c.requires.right_whole)
