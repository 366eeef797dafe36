use Rattle.spd_nodes.proofs.GroveLaws.{sound-shown}
use Rattle.spd_nodes.proofs.grove.Grove.new.Goals as goal

pub returns-clause-sound : goal.returns-clause-sound
returns-clause-sound c = sound-shown c.args.layout.now c.args.seat c.sizes.ensures.layout c.facts.ensures c.requires.fit
