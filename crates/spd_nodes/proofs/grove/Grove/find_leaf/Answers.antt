use Rattle.std.proofs.Common.{subst}
use Rattle.spd_nodes.specs.Shown.{MakesTree}
use Rattle.spd_nodes.specs.Grove.{shown_of}
use Rattle.spd_nodes.proofs.GroveLaws.{leaf-good, leaf-tree}
use Rattle.spd_nodes.proofs.grove.Grove.find_leaf.Goals as goal

pub find-requires : goal.find-requires
find-requires g c = rw c.key_of.ensures (leaf-good _ _ c.args.leaf)

pub returns-clause-made : goal.returns-clause-made
returns-clause-made g c =
    subst (λ t. MakesTree (shown_of c.args.self.now) (shown_of c.find.new.self) t c.find.result) (rw c.key_of.ensures (leaf-tree _ _ c.args.leaf)) c.find.ensures.finds.made
