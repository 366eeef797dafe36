use Rattle.std.proofs.Common.{◌≡◌, map, take, fold}
use Rattle.spd_model.specs.Trees.{read_tree}
use Rattle.spd_reader.specs.declared.dd.Dd.{Dd}
use Rattle.spd_reader.specs.Facts.{facts, together}
use Rattle.spd_reader.proofs.names.Names.+facts.Given as goal

abbrev pub invariant-loop-kid : goal.invariant-loop-kid
invariant-loop-kid l =
    l.all ≡ fold together l.initial.all (map (read_tree facts (map (λ (d : Dd). d.facts) l.self.dds.items)) (take l.kid-index l.kid-items))
