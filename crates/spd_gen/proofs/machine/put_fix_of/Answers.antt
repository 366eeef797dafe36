use Rattle.spd_gen.proofs.TextLaws.{fix-is}
use Rattle.spd_gen.proofs.WritingLaws.{writes-as}
use Rattle.spd_gen.proofs.machine.put_fix_of.Goals as goal

pub returns : goal.returns
returns g c = writes-as _ _ _ _ _ (fix-is c.args.machine.now) c.put_all.ensures
