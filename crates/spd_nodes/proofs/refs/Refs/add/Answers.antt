use Rattle.spd_nodes.proofs.RefLaws.{adds-ref}
use Rattle.spd_nodes.proofs.refs.Refs.add.Goals as goal
use Rattle.spd_nodes.proofs.refs.Refs.add.Goals.{in-Ok, in-Err}

pub returns-clause-ok : goal.returns-clause-ok
returns-clause-ok c = elim c.match-insert.branch [
  | in-Ok w ↦ rw w.result-is (rw c.self.view_is at (adds-ref c.self.inside.set.keys c.insert.new.self.keys c.args.r w.in-Ok.ensures.keys))
  | in-Err w ↦ rw w.result-is tt
]
