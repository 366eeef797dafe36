use Rattle.spd_text.proofs.TextLaws.{end-is}
use Rattle.spd_text.proofs.WritingLaws.{writes-as}
use Rattle.spd_text.proofs.result.put_words.Goals as goal

pub returns : goal.returns
returns g c = writes-as _ _ _ _ _ _ _ (end-is c.args.side.now c.args.action.now c.args.error.now) c.put_all.ensures
