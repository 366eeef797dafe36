use Rattle.std.proofs.lemmas.Result.{on_ok_weaker}
use Rattle.spd_gather.proofs.SplitLaws.{split-again}
use Rattle.spd_gather.proofs.halves.Sides.add_again.Goals as goal

pub returns : goal.returns
returns g c =
    on_ok_weaker c.push.result
    (λ p. split-again (g.F.Forest.shows c.args.forest.now) c.args.before.now c.args.self.now c.push.new.self c.args.j c.args.name c.index-yes.result.now c.index-no.result.now c.requires.split c.requires.j c.requires.name c.index-yes.ensures c.index-no.ensures c.push.ensures.low p.0 p.1)
    c.push.ensures.sides
