use Rattle.std.proofs.Common.{◌<◌, [], ◌∷◌, length, map, rules, arith, subst}
use Rattle.std.proofs.lemmas.List.{length-map}
use Rattle.spd_nodes.specs.Shown.{StandsFor}
use Rattle.spd_nodes.proofs.CallerLemmas.{makes_among-known}
use Rattle.spd_restrict.specs.Chosen.{function_at}
use Rattle.spd_backup.proofs.BuiltLaws.{refs-long, stands-before}
use Rattle.spd_backup.proofs.thawing.thaw_part.Goals as goal

pub offset_bounds-refs-before : goal.offset_bounds-refs-before
offset_bounds-refs-before g c =
    let fs = map g.P.Listed.function c.args.parts.now in
    let near : c.in-Some.before < length c.args.refs.now =
    refs-long (g.F.Forest.shows c.args.forest.now) c.args.refs.now fs c.args.at c.in-Some.before c.requires.stand c.in-Some.ensures.before (omega (arith, c.requires.at, length-map c.args.parts.now g.P.Listed.function)) in
    search rules

pub bounds-refs-before : goal.bounds-refs-before
bounds-refs-before g c =
    let fs = map g.P.Listed.function c.args.parts.now in
    refs-long (g.F.Forest.shows c.args.forest.now) c.args.refs.now fs c.args.at c.in-Some.before c.requires.stand c.in-Some.ensures.before (omega (arith, c.requires.at, length-map c.args.parts.now g.P.Listed.function))

pub returns-in-Some-clause-made : goal.returns-in-Some-clause-made
returns-in-Some-clause-made g c =
    let s = g.F.Forest.shows c.args.forest.now in
    let fs = map g.P.Listed.function c.args.parts.now in
    let f = function_at fs c.args.at in
    makes_among-known s c.layout.ensures.sound _ f (f ∷ [])
    (subst (StandsFor s _) c.in-Some.ensures.same
    (stands-before s c.args.refs.now fs c.args.at c.in-Some.before _ c.requires.stand c.in-Some.ensures.before (omega (arith, c.requires.at, length-map c.args.parts.now g.P.Listed.function))))
