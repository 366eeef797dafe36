use Rattle.std.proofs.Common.{ap, sym, subst, ◌∙◌}
use Rattle.spd_apply.specs.Halves.{IsLeaf}
use Rattle.spd_nodes.specs.Trees.{Ends}
use Rattle.spd_nodes.specs.Shown.{MakesTree}
use Rattle.spd_gather.proofs.CallerLemmas.{all-of}
use Rattle.spd_policy.specs.Choosing.{greatest_leaf}
use Rattle.spd_policy.proofs.SplitLaws.{made-of-leaves}
use Rattle.spd_policy.proofs.highest.HighestListRule.bottom.Goals as goal

pub highest_leaf-leaf-requires-clause-leaves : goal.highest_leaf-leaf-requires-clause-leaves
highest_leaf-leaf-requires-clause-leaves g c = all-of IsLeaf (g.F.Forest.shows c.args.forest.now) c.args.list.now c.requires.ends

pub returns-clause-made : goal.returns-clause-made
returns-clause-made g c =
    let s = g.F.Forest.shows c.args.forest.now in
    let e = ap Ends c.highest_leaf-leaf.ensures.leaf ∙ sym (made-of-leaves greatest_leaf c.args.self.now.levels s c.requires.sound c.args.list.now c.requires.met.known c.requires.met.trees c.requires.ends) in
    let made : MakesTree (g.F.Forest.shows c.highest_leaf-leaf.new.forest) (g.F.Forest.shows c.leaf.new.self) (Ends c.highest_leaf-leaf.result) c.leaf.result = record { sound = c.leaf.ensures.sound; grows = c.leaf.ensures.grows; ok = c.leaf.ensures.ok; makes = c.leaf.ensures.makes; fault = c.leaf.ensures.fault } in
    subst (λ u. MakesTree s (g.F.Forest.shows c.leaf.new.self) u c.leaf.result) e (rw c.highest_leaf-leaf.ensures.same at made)
