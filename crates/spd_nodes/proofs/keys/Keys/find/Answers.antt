use Rattle.spd_nodes.proofs.KeyLaws.{find-is}
use Rattle.spd_nodes.proofs.keys.Keys.find.Goals as goal

pub returns : goal.returns
returns c = find-is c.args.self.now c.args.key c.get_index_of.result (rw c.self.view_is at c.get_index_of.ensures.index) (rw c.self.view_is at c.get_index_of.ensures.found)
