use Rattle.std.proofs.Common.{sym, subst, Ok, Err}
use mir.Syntax.{w128}
use Rattle.std.proofs.lemmas.Int.{to_z-of_z}
use Rattle.spd_model.proofs.CallerLemmas.Results.{err_is}
use Rattle.spd_nodes.specs.Shown.{Shown, MakesDiagram, meaning}
use Rattle.spd_ranges.specs.Merging.{Merges, group_ranges}
use Rattle.spd_ranges.proofs.MergeLaws.{no-pairs, pairs-range, no-ranges, ranges-range, no-values, all-made}
use Rattle.spd_ranges.proofs.TurnLaws.{merges-turn}
use Rattle.spd_ranges.proofs.merging.merge.Goals as goal

-- ---- where the pairs aren't made

pub returns-in_err-pairs-clause-made : goal.returns-in_err-pairs-clause-made
returns-in_err-pairs-clause-made g c =
    let s : Shown = g.F.Forest.shows c.args.forest.now in
    let t : Shown = g.F.Forest.shows c.pair_up.new.forest in
    subst (Merges s t c.args.span (meaning s c.args.low) (meaning s c.args.high)) (sym (err_is c.from_residual.result c.in_err-pairs.field-0.0 c.from_residual.ensures.1))
    (no-pairs s c.layout.ensures.sound c.args.low c.args.high c.requires.ordered c.args.span t c.in_err-pairs.field-0.0 c.in_err-pairs.ensures.made)

pub returns-in_err-pairs-clause-turn : goal.returns-in_err-pairs-clause-turn
returns-in_err-pairs-clause-turn g c = λ m w best.
    merges-turn m w c.args.span (g.F.Forest.shows c.args.forest.now) c.args.low c.args.high best (g.F.Forest.shows c.pair_up.new.forest) c.layout.ensures.sound c.from_residual.result
    (returns-in_err-pairs-clause-made g c)

pub range_of-requires-clause-ranges : goal.range_of-requires-clause-ranges
range_of-requires-clause-ranges g c =
    pairs-range (g.F.Forest.shows c.args.forest.now) c.layout.ensures.sound c.args.low c.args.high c.requires.ordered c.args.span (g.F.Forest.shows c.pair_up.new.forest) c.in_ok-pairs.pairs c.in_ok-pairs.ensures.made

-- ---- where the ranges aren't made

pub returns-in_err-range-clause-made : goal.returns-in_err-range-clause-made
returns-in_err-range-clause-made g c =
    let s : Shown = g.F.Forest.shows c.args.forest.now in
    let t : Shown = g.F.Forest.shows c.pair_up.new.forest in
    let v : Shown = g.F.Forest.shows c.range_of.new.forest in
    let made = subst (λ x. MakesDiagram t v (group_ranges t.sizes x (meaning t c.in_ok-pairs.pairs)) (Err c.in_err-range.field-0.0)) (to_z-of_z w128 c.args.span c.ranges.span) c.in_err-range.ensures.made in
    subst (Merges s v c.args.span (meaning s c.args.low) (meaning s c.args.high)) (sym (err_is c.from_residual-in_err-range.result c.in_err-range.field-0.0 c.from_residual-in_err-range.ensures.1))
    (no-ranges s c.layout.ensures.sound c.args.low c.args.high c.requires.ordered c.args.span t c.in_ok-pairs.pairs c.in_ok-pairs.ensures.made v c.in_err-range.field-0.0 made)

pub returns-in_err-range-clause-turn : goal.returns-in_err-range-clause-turn
returns-in_err-range-clause-turn g c = λ m w best.
    merges-turn m w c.args.span (g.F.Forest.shows c.args.forest.now) c.args.low c.args.high best (g.F.Forest.shows c.range_of.new.forest) c.layout.ensures.sound c.from_residual-in_err-range.result
    (returns-in_err-range-clause-made g c)

pub map_leaves-requires-clause-fits : goal.map_leaves-requires-clause-fits
map_leaves-requires-clause-fits g c =
    let s : Shown = g.F.Forest.shows c.args.forest.now in
    let t : Shown = g.F.Forest.shows c.pair_up.new.forest in
    let v : Shown = g.F.Forest.shows c.range_of.new.forest in
    let made = subst (λ x. MakesDiagram t v (group_ranges t.sizes x (meaning t c.in_ok-pairs.pairs)) (Ok c.in_ok-range.range)) (to_z-of_z w128 c.args.span c.ranges.span) c.in_ok-range.ensures.made in
    ranges-range s c.layout.ensures.sound c.args.low c.args.high c.requires.ordered c.args.span t c.in_ok-pairs.pairs c.in_ok-pairs.ensures.made v c.in_ok-range.range made

-- ---- where the values aren't made

pub returns-in_err-mid-clause-made : goal.returns-in_err-mid-clause-made
returns-in_err-mid-clause-made g c =
    let s : Shown = g.F.Forest.shows c.args.forest.now in
    let t : Shown = g.F.Forest.shows c.pair_up.new.forest in
    let v : Shown = g.F.Forest.shows c.range_of.new.forest in
    let u : Shown = g.F.Forest.shows c.map_leaves.new.forest in
    let made = subst (λ x. MakesDiagram t v (group_ranges t.sizes x (meaning t c.in_ok-pairs.pairs)) (Ok c.in_ok-range.range)) (to_z-of_z w128 c.args.span c.ranges.span) c.in_ok-range.ensures.made in
    subst (Merges s u c.args.span (meaning s c.args.low) (meaning s c.args.high)) (sym (err_is c.from_residual-in_err-mid.result c.in_err-mid.field-0.0 c.from_residual-in_err-mid.ensures.1))
    (no-values s c.layout.ensures.sound c.args.low c.args.high c.requires.ordered c.args.span t c.in_ok-pairs.pairs c.in_ok-pairs.ensures.made v c.in_ok-range.range made u c.in_err-mid.field-0.0 c.in_err-mid.ensures.made)

pub returns-in_err-mid-clause-turn : goal.returns-in_err-mid-clause-turn
returns-in_err-mid-clause-turn g c = λ m w best.
    merges-turn m w c.args.span (g.F.Forest.shows c.args.forest.now) c.args.low c.args.high best (g.F.Forest.shows c.map_leaves.new.forest) c.layout.ensures.sound c.from_residual-in_err-mid.result
    (returns-in_err-mid-clause-made g c)

-- ---- where all are made

pub returns-clause-made : goal.returns-clause-made
returns-clause-made g c =
    let s : Shown = g.F.Forest.shows c.args.forest.now in
    let t : Shown = g.F.Forest.shows c.pair_up.new.forest in
    let v : Shown = g.F.Forest.shows c.range_of.new.forest in
    let u : Shown = g.F.Forest.shows c.map_leaves.new.forest in
    let made = subst (λ x. MakesDiagram t v (group_ranges t.sizes x (meaning t c.in_ok-pairs.pairs)) (Ok c.in_ok-range.range)) (to_z-of_z w128 c.args.span c.ranges.span) c.in_ok-range.ensures.made in
    all-made s c.layout.ensures.sound c.args.low c.args.high c.requires.ordered c.args.span t c.in_ok-pairs.pairs c.in_ok-pairs.ensures.made v c.in_ok-range.range made u c.in_ok-mid.mid c.in_ok-mid.ensures.made

pub returns-clause-turn : goal.returns-clause-turn
returns-clause-turn g c = λ m w best.
    merges-turn m w c.args.span (g.F.Forest.shows c.args.forest.now) c.args.low c.args.high best (g.F.Forest.shows c.map_leaves.new.forest) c.layout.ensures.sound
    (Ok (record { pairs = c.in_ok-pairs.pairs; range = c.in_ok-range.range; mid = c.in_ok-mid.mid }))
    (returns-clause-made g c)
