use Rattle.std.proofs.Common.{◌∙◌}
use Rattle.spd_gen.proofs.TextLaws.{variable-is}
use Rattle.spd_gen.proofs.WritingLaws.{writes-as}
use Rattle.spd_gen.proofs.machine.put_variable.Goals as goal

pub returns : goal.returns
returns g c = writes-as _ _ _ _ _ (variable-is c.args.i c.as_bytes-machine.result.now (c.as_bytes-machine.ensures.value ∙ c.format.ensures.text)) c.put_all.ensures
