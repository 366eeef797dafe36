use Rattle.std.proofs.Common.{◌∙◌, arith}
use Rattle.spd_reader.proofs.FactLaws.{facts_there, facts_past}
use Rattle.spd_reader.proofs.names.Names.facts_of.Goals as goal

pub returns-then-dd-len-clause-told : goal.returns-then-dd-len-clause-told
returns-then-dd-len-clause-told c = facts_there c.args.self.now.dds.items c.args.dd c.index.result.now (omega arith) c.index.ensures c.args.self.now.known

pub returns-else-dd-len-clause-told : goal.returns-else-dd-len-clause-told
returns-else-dd-len-clause-told c = c.none.ensures ∙ facts_past c.args.self.now.dds.items c.args.dd (omega arith) c.args.self.now.known
