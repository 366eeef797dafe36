use Rattle.std.proofs.Common.{◌∙◌, arith}
use Rattle.std.specs.Arc.{arc_value}
use Rattle.spd_turn.proofs.RunLaws.{run-from, start-value}
use Rattle.spd_turn.proofs.running.Run.start.Goals as goal

pub make_turn-requires-clause-value : goal.make_turn-requires-clause-value
make_turn-requires-clause-value g c κs within = c.requires.built.start ∙ start-value c.args.model.now c.args.options.span

pub invariant_of-result : goal.invariant_of-result
invariant_of-result g c =
    run-from c.args.model.now c.args.built.now c.args.options 0 c.in_ok-finished.field-0 (arc_value c.in-Ok.iterate) c.in-Ok.ensures.ok c.requires.valid c.requires.built
    c.requires.options c.in_ok-finished.ensures.ok c.in_ok-finished.ensures.room (omega arith) (λ j h. absurd (omega arith))
