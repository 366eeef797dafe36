use Rattle.std.proofs.Common.{ℤ, FitsSigned, to_z, of_z, subst}
use Rattle.std.proofs.lemmas.Int.{to_z-of_z}
use Rattle.std.specs.Int.{w128}
use Rattle.spd_nodes.specs.declared.leaf.Leaf.TheVariants.{Num}
use Rattle.spd_nodes.specs.Trees.{Ends}
use Rattle.spd_nodes.specs.Shown.{MakesTree}
use Rattle.spd_build.proofs.TreeLaws.{number-tree}
use Rattle.spd_build.proofs.trees.number.Goals as goal
use Rattle.spd_nodes.proofs.CallerLemmas.{makes-diagram}

pub returns-clause-made : goal.returns-clause-made
returns-clause-made g c =
    let fits : FitsSigned w128 c.args.x = c.ranges.x in
    let old = g.F.Forest.shows c.args.forest.now in
    let new = g.F.Forest.shows c.leaf.new.self in
    let made : MakesTree old new (Ends (Num (to_z w128 (of_z w128 c.args.x)))) c.leaf.result =
    record { sound = c.leaf.ensures.sound; grows = c.leaf.ensures.grows; ok = c.leaf.ensures.ok; makes = c.leaf.ensures.makes; fault = c.leaf.ensures.fault } in
    makes-diagram c.layout.ensures.sound (number-tree old c.args.x)
    (subst (λ (y : ℤ). MakesTree old new (Ends (Num y)) c.leaf.result) (to_z-of_z w128 c.args.x fits) made)
