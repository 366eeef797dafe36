use Rattle.spd_gen.proofs.TextLaws.{keep-is}
use Rattle.spd_gen.proofs.WritingLaws.{writes-as}
use Rattle.spd_gen.proofs.machine.put_keep_of.Goals as goal

pub returns : goal.returns
returns g c = writes-as _ _ _ _ _ (keep-is c.args.machine.now c.args.left.now) c.put_all.ensures
