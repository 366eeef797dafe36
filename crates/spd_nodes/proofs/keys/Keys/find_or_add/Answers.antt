use Rattle.spd_nodes.proofs.KeyLaws.{places-key}
use Rattle.spd_nodes.proofs.keys.Keys.find_or_add.Goals as goal
use Rattle.spd_nodes.proofs.keys.Keys.find_or_add.Goals.{in-Ok, in-Err}

pub returns-clause-ok : goal.returns-clause-ok
returns-clause-ok c = elim c.match-insert_full.branch [
  | in-Ok w ↦ (let h = w.in-Ok.ensures in rw w.result-is (rw c.self.view_is at (places-key c.self.inside.set.keys c.insert_full.new.self.keys c.args.key h.stored.0 w.in-Ok.place h.keys h.index h.within h.stored.1 h.stored.2)))
  | in-Err w ↦ rw w.result-is tt
]
