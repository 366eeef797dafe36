use Rattle.spd_text.proofs.TextLaws.{counts-is}
use Rattle.spd_text.proofs.WritingLaws.{writes-as}
use Rattle.spd_text.proofs.summary.put_counts_of.Goals as goal

pub returns : goal.returns
returns g c = writes-as _ _ _ _ _ _ _ (counts-is c.args.value.now c.args.policy.now) c.put_all.ensures
