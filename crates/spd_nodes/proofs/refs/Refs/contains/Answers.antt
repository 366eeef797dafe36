use Rattle.spd_nodes.proofs.RefLaws.{contains-any}
use Rattle.spd_nodes.proofs.refs.Refs.contains.Goals as goal

pub returns : goal.returns
returns c = contains-any c.args.self.now c.args.r c.contains.result (rw c.self.view_is at c.contains.ensures)
