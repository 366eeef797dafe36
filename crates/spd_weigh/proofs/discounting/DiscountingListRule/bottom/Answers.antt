use Rattle.std.proofs.Common.{ap, sym, subst, ◌∙◌}
use Rattle.spd_nodes.specs.Trees.{Ends}
use Rattle.spd_nodes.specs.Shown.{MakesTree}
use Rattle.spd_weigh.proofs.DiscountLaws.{discount-bottom, discount-fits}
use Rattle.spd_weigh.proofs.discounting.DiscountingListRule.bottom.Goals as goal

pub leaf_times-leaf-requires-clause-fit : goal.leaf_times-leaf-requires-clause-fit
leaf_times-leaf-requires-clause-fit g c =
    let rule = c.args.self.now in
    discount-fits rule.way rule.levels rule.discount (g.F.Forest.shows c.args.forest.now) c.requires.sound c.args.list.now c.requires.met.known c.requires.met.trees c.requires.ends

pub returns-clause-made : goal.returns-clause-made
returns-clause-made g c =
    let rule = c.args.self.now in
    let e = ap Ends c.leaf_times-leaf.ensures.leaf ∙ sym (discount-bottom rule.way rule.levels rule.discount (g.F.Forest.shows c.args.forest.now) c.requires.sound c.args.list.now c.requires.met.known c.requires.met.trees c.requires.ends) in
    let made : MakesTree (g.F.Forest.shows c.leaf_times-leaf.new.forest) (g.F.Forest.shows c.leaf.new.self) (Ends c.leaf_times-leaf.result) c.leaf.result = record { sound = c.leaf.ensures.sound; grows = c.leaf.ensures.grows; ok = c.leaf.ensures.ok; makes = c.leaf.ensures.makes; fault = c.leaf.ensures.fault } in
    subst (λ u. MakesTree (g.F.Forest.shows c.args.forest.now) (g.F.Forest.shows c.leaf.new.self) u c.leaf.result) e (rw c.leaf_times-leaf.ensures.same at made)
