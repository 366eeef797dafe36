use Rattle.std.specs.Prelude.{is_ok}
use Rattle.spd_reader.proofs.FactLaws.{known_after}
use Rattle.spd_reader.proofs.names.Names.declare.Goals as goal

pub invariant_of-self-2-clause-known : goal.invariant_of-self-2-clause-known
invariant_of-self-2-clause-known c =
    known_after (is_ok c.push.result) c.args.self.now.dds.items c.push.new.self.items (record { tree = c.args.tree; facts = c.facts-facts.result })
    c.push.ensures.items c.facts-facts.ensures c.args.self.now.known
