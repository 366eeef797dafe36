use Rattle.std.proofs.Common.{◌≡◌, rules, ap, ◌∙◌}
use Rattle.std.specs.Arc.{arc_value}
use Rattle.spd_board.proofs.Steps.{starts}
use Rattle.spd_board.proofs.open.open_board.Goals as goal

pub new-requires-clause-rule : goal.new-requires-clause-rule
new-requires-clause-rule g c =
    let nr = g.T.Numbered.nr in
    let same : arc_value c.in_ok-try_clone.field-0 ≡ arc_value c.args.first = search rules in
    starts nr record { item = c.in_ok-try_clone.field-0 } (ap nr same ∙ c.requires.zero)
