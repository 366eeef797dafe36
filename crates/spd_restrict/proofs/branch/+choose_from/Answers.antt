use Rattle.std.proofs.Common.{rules, arith, map, ◌<◌, ◌+◌, length}
use Rattle.spd_nodes.specs.Shown.{meaning}
use Rattle.spd_nodes.proofs.CallerLemmas.{among-fails}
use Rattle.spd_restrict.specs.Chosen.{chosen_from}
use Rattle.spd_restrict.proofs.BranchLaws.{last-made, step-made}
use Rattle.spd_restrict.proofs.branch.+choose_from.Goals as goal

pub returns-then-value-kids-clause-made : goal.returns-then-value-kids-clause-made
returns-then-value-kids-clause-made g t c =
    last-made (g.F.Forest.shows c.args.forest.now) c.layout.ensures.sound c.args.var c.args.primed c.args.kids.now c.requires.known c.requires.whole c.requires.var c.requires.count (record { 0 = 0 }) c.args.value c.if-value-kids.true

pub returns-in_err-rest-clause-made : goal.returns-in_err-rest-clause-made
returns-in_err-rest-clause-made g t c =
    let made = among-fails {g = chosen_from c.args.value c.args.var c.args.primed (map (meaning (g.F.Forest.shows c.args.forest.now)) c.args.kids.now)} c.in_err-rest.field-0.0 c.in_err-rest.ensures.made in
    search rules

pub returns-clause-made : goal.returns-clause-made
returns-clause-made g t c =
    let room : c.args.value + 1 < length c.args.kids.now = grind arith in
    step-made (g.F.Forest.shows c.args.forest.now) c.layout.ensures.sound c.args.var c.args.primed c.args.kids.now c.requires.known c.requires.whole c.requires.var c.requires.count (record { 0 = 0 }) c.args.value room
    (g.F.Forest.shows c.choose_from.new.forest) c.in_ok-rest.rest c.in_ok-rest.ensures.made (g.F.Forest.shows c.replace.new.forest) c.replace.result c.replace.ensures.made
