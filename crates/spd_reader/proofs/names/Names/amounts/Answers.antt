use Rattle.std.proofs.Common.{arith}
use Rattle.spd_reader.specs.Scopes.{scope_of}
use Rattle.spd_reader.proofs.ActionLaws.{amount_means, amount_notes, amounts_noted}
use Rattle.spd_reader.proofs.names.Names.amounts.Goals as goal

pub loop-shape-preserved : goal.loop-shape-preserved
loop-shape-preserved c =
    let file = c.args.self.now.file.now in
    let s = scope_of c.args.self.now in
    let trees = c.args.trees.now in
    let i = c.loop-shape.shape-index in
    let shape = c.shape-item.result in
    record {
      means = amount_means file s trees i shape shape c.loop-shape-test.true c.shape-item.is c.loop-shape.amounts c.push.new.self _ c.in_ok-tree.tree
          c.in_ok-tree.ensures.means c.in_ok-push.ensures.ok c.loop-shape.invariant.means;
      notes = amount_notes file s trees i shape shape c.loop-shape-test.true c.shape-item.is c.loop-shape.found c.tree.new.found _ c.in_ok-tree.ensures.notes c.loop-shape.invariant.notes;
    }

pub returns-clause-notes : goal.returns-clause-notes
returns-clause-notes c =
    amounts_noted c.args.self.now.file.now (scope_of c.args.self.now) c.args.trees.now c.loop-shape.shape-index c.loop-shape.found _ (omega arith) c.loop-shape.invariant.notes
