use Rattle.std.proofs.Common.{sym}
use Rattle.spd_nodes.specs.Levels.{IsTestOf}
use Rattle.spd_nodes.proofs.LayoutLaws.{one_test}
use Rattle.spd_nodes.proofs.layout.Layout.level.Goals as goal

pub returns-clause-only : goal.returns-clause-only
returns-clause-only c v p x k =
    let is : IsTestOf c.args.self.now c.level_in.result c.args.var c.args.primed c.args.value = record { var_in = c.requires.var; value_in = c.requires.value; level_is = sym (rw c.sizes.ensures.sizes at c.level_in.ensures.level) } in
    one_test c.args.self.now c.level_in.result c.args.var v c.args.primed p c.args.value x is k
