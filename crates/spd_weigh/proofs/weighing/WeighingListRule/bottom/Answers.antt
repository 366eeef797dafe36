use Rattle.std.proofs.Common.{ap, sym, subst, ◌∙◌}
use Rattle.spd_nodes.specs.Trees.{Ends}
use Rattle.spd_nodes.specs.Shown.{MakesTree}
use Rattle.spd_weigh.proofs.PlanLaws.{bottom-tree, bottom-fit}
use Rattle.spd_weigh.proofs.weighing.WeighingListRule.bottom.Goals as goal

pub weighed_leaf-leaf-requires-clause-fit : goal.weighed_leaf-leaf-requires-clause-fit
weighed_leaf-leaf-requires-clause-fit g c = bottom-fit c.args.self.now.way c.args.self.now.levels c.args.self.now.first c.args.self.now.end (g.F.Forest.shows c.args.forest.now) c.args.list.now c.requires.met.trees c.requires.ends

pub returns-clause-made : goal.returns-clause-made
returns-clause-made g c =
    let e = ap Ends c.weighed_leaf-leaf.ensures.leaf ∙ sym (bottom-tree c.args.self.now.way c.args.self.now.levels c.args.self.now.first c.args.self.now.end (g.F.Forest.shows c.args.forest.now) c.args.list.now c.requires.met.trees c.requires.ends) in
    let made : MakesTree (g.F.Forest.shows c.weighed_leaf-leaf.new.forest) (g.F.Forest.shows c.leaf.new.self) (Ends c.weighed_leaf-leaf.result) c.leaf.result = record { sound = c.leaf.ensures.sound; grows = c.leaf.ensures.grows; ok = c.leaf.ensures.ok; makes = c.leaf.ensures.makes; fault = c.leaf.ensures.fault } in
    subst (λ u. MakesTree (g.F.Forest.shows c.args.forest.now) (g.F.Forest.shows c.leaf.new.self) u c.leaf.result) e (rw c.weighed_leaf-leaf.ensures.same at made)
