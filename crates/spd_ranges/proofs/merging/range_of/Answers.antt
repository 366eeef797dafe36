use Rattle.std.proofs.Common.{◌≡◌, ap, sym, subst, ◌∙◌, pos, to_z}
use mir.Syntax.{w128}
use Rattle.std.proofs.lemmas.Int.{to_z-of_z}
use Rattle.spd_nodes.specs.Shown.{Shown, MakesDiagram, meaning}
use Rattle.spd_apply.specs.Outcome.{map_each}
use Rattle.spd_ranges.specs.inner.Groups.{Finds, found_in}
use Rattle.spd_ranges.proofs.MergeLaws.{same-ranges, found-ranges}
use Rattle.spd_ranges.proofs.merging.range_of.Goals as goal

pub returns-then-span-eq0-clause-made : goal.returns-then-span-eq0-clause-made
returns-then-span-eq0-clause-made g c =
    let s : Shown = g.F.Forest.shows c.args.forest.now in
    let none : c.args.span ≡ pos 0 = sym (to_z-of_z w128 c.args.span c.ranges.span) ∙ ap (to_z w128) c.if-span-eq0.true in
    same-ranges s s c.layout.ensures.sound c.args.pairs c.requires.whole c.requires.known c.args.span c.requires.ranges none

pub returns-in-Ok-clause-made : goal.returns-in-Ok-clause-made
returns-in-Ok-clause-made g c =
    let s : Shown = g.F.Forest.shows c.args.forest.now in
    let t : Shown = g.F.Forest.shows c.map_leaves.new.forest in
    let made = subst (λ (v : Shown). MakesDiagram v t (map_each (found_in c.in-Ok.groups.groups.items) (meaning v c.args.pairs)) c.map_leaves.result) c.in-Ok.ensures.same c.map_leaves.ensures.made in
    let finds = subst (λ x. Finds s.sizes x (meaning s c.args.pairs) c.in-Ok.groups.groups.items) (to_z-of_z w128 c.args.span c.ranges.span) c.in-Ok.ensures.finds in
    found-ranges s t c.layout.ensures.sound c.args.pairs c.requires.whole c.requires.known c.args.span c.requires.ranges c.in-Ok.groups.groups.items c.map_leaves.result finds made
