use Rattle.spd_text.proofs.TextLaws.{choice-is}
use Rattle.spd_text.proofs.WritingLaws.{writes-as}
use Rattle.spd_text.proofs.failure.put_choice.Goals as goal

pub returns : goal.returns
returns g c = writes-as _ _ _ _ _ _ _ (choice-is c.args.side.now c.args.action.now) c.put_all.ensures
