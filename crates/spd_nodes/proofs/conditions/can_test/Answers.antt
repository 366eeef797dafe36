use Rattle.std.proofs.Common.{rules, ◌<◌}
use Rattle.spd_nodes.specs.Levels.{slots, after}
use Rattle.spd_nodes.proofs.TreeLaws.{after_above}
use Rattle.spd_nodes.proofs.conditions.can_test.Goals as goal

pub overflow_add-level : goal.overflow_add-level
overflow_add-level g c =
    let s = g.F.Forest.shows c.args.forest.now in
    let above : c.args.level.0 < after (slots s.sizes) c.args.level.0 = after_above (slots s.sizes) c.args.level.0 c.requires.level in
    let end = rw c.layout.ensures.sizes at c.end-end.ensures.end in
    search rules
