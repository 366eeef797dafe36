use Rattle.std.proofs.Common.{◌-◌, sym, subst}
use Rattle.spd_nodes.specs.declared.leaf.Leaf.TheVariants.{Act}
use Rattle.spd_nodes.specs.Trees.{Ends}
use Rattle.spd_nodes.specs.Shown.{MakesTree}
use Rattle.spd_policy.proofs.PlaceLaws.{decided-place}
use Rattle.spd_policy.proofs.placing.PlacingListRule.bottom.Goals as goal

pub returns-clause-made : goal.returns-clause-made
returns-clause-made g c =
    let s = g.F.Forest.shows c.args.forest.now in
    let f = c.first_same.ensures in
    let e = decided-place c.args.self.now.levels s c.requires.sound c.args.list.now c.requires.met.known c.requires.met.trees c.requires.ends c.first_same.result f.after f.within f.before f.same in
    let made : MakesTree s (g.F.Forest.shows c.leaf.new.self) (Ends (Act (c.first_same.result - 1))) c.leaf.result = record { sound = c.leaf.ensures.sound; grows = c.leaf.ensures.grows; ok = c.leaf.ensures.ok; makes = c.leaf.ensures.makes; fault = c.leaf.ensures.fault } in
    subst (λ u. MakesTree s (g.F.Forest.shows c.leaf.new.self) u c.leaf.result) (sym e) made
