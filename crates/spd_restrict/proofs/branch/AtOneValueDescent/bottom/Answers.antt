use Rattle.spd_nodes.specs.Levels.{slots}
use Rattle.spd_restrict.proofs.ReplacedLaws.{can-replace}
use Rattle.spd_restrict.proofs.branch.AtOneValueDescent.bottom.Goals as goal

pub replace_after-requires-clause-can : goal.replace_after-requires-clause-can
replace_after-requires-clause-can g c =
    let s = g.F.Forest.shows c.args.forest.now in
    let may = c.requires.may in
    let can = can-replace (slots s.sizes) may.slot c.args.self.now.first may.end may.is_slot c.args.self.now.value may.value_in (s.tree c.args.f.name) (s.tree c.args.g.name)
    (c.requires.sound.reduced c.args.f.name c.requires.left.known) (c.requires.sound.reduced c.args.g.name c.requires.right.known) c.requires.ends.left c.requires.ends.right may.left may.right in
    record { within = can.0; left = can.1; right = can.2 }
