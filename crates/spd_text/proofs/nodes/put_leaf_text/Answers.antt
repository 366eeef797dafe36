use Rattle.spd_text.proofs.TextLaws.{leaf-is}
use Rattle.spd_text.proofs.WritingLaws.{writes-as}
use Rattle.spd_text.proofs.nodes.put_leaf_text.Goals as goal

pub returns : goal.returns
returns g c = writes-as _ _ _ _ _ _ _ (leaf-is c.args.number.now c.args.text.now) c.put_all.ensures
