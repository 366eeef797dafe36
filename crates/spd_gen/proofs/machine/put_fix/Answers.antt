use Rattle.std.proofs.Common.{◌∙◌, ap}
use Rattle.spd_gen.specs.inner.Lines.{fix_of}
use Rattle.spd_gen.proofs.TextLaws.{fix_of-machine}
use Rattle.spd_gen.proofs.WritingLaws.{writes-as}
use Rattle.spd_gen.proofs.machine.put_fix.Goals as goal

pub returns : goal.returns
returns g c = writes-as _ _ _ _ _ (ap fix_of (c.as_bytes-machine.ensures.value ∙ c.format.ensures.text) ∙ fix_of-machine c.args.i) c.put_fix_of.ensures
