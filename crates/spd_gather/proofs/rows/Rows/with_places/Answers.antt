use Rattle.spd_gather.proofs.PlaceLaws.{rows-none}
use Rattle.spd_gather.proofs.rows.Rows.with_places.Goals as goal

pub returns : goal.returns
returns c = rows-none c.args.width c.resize.new.self.items c.loop.answers.items c.loop.invariant.empty
