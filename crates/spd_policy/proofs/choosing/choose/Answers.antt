use Rattle.std.proofs.Common.{◌∙◌, sym, subst, map}
use Rattle.spd_model.proofs.CallerLemmas.Results.{err_is}
use Rattle.spd_nodes.specs.Shown.{meaning}
use Rattle.spd_nodes.proofs.CallerLemmas.{grows-then}
use Rattle.spd_policy.specs.Best.{MakesBestOf}
use Rattle.spd_policy.specs.Choosing.{greatest_leaf, place_leaf}
use Rattle.spd_policy.proofs.BestLaws.{act-fails, all-made, high-fails, low-fails, low-stands}
use Rattle.spd_policy.proofs.ListLaws.{holds-grow, numeric-grows, numeric-known}
use Rattle.spd_policy.proofs.choosing.choose.Goals as goal

pub greatest_bound-requires : goal.greatest_bound-requires
greatest_bound-requires g c = record { list = c.requires.lower; some = c.requires.some; few = c.requires.few; table = c.requires.tables.greatest }

-- ---- the greatest lower bound isn't made

pub returns-in_err-low-clause-made : goal.returns-in_err-low-clause-made
returns-in_err-low-clause-made g c =
    let s = g.F.Forest.shows c.args.forest.now in
    let t = g.F.Forest.shows c.greatest_bound.new.forest in
    subst (MakesBestOf (map (meaning s) c.args.lows.now) (map (meaning s) c.args.highs.now) s t) (sym (err_is c.from_residual.result c.in_err-low.field-0.0 c.from_residual.ensures.1))
    (low-fails s c.layout.ensures.sound c.args.lows.now c.args.highs.now (numeric-known s c.args.lows.now c.requires.lower) (numeric-known s c.args.highs.now c.requires.upper) c.requires.some c.requires.beside t c.in_err-low.field-0.0 c.in_err-low.ensures.made)

pub returns-in_err-low-clause-keeps : goal.returns-in_err-low-clause-keeps
returns-in_err-low-clause-keeps g c = c.greatest_bound.ensures.keeps

pub returns-in_err-low-clause-tables : goal.returns-in_err-low-clause-tables
returns-in_err-low-clause-tables g c =
    let s = g.F.Forest.shows c.args.forest.now in
    let t = g.F.Forest.shows c.greatest_bound.new.forest in
    record { greatest = c.greatest_bound.ensures.table; places = holds-grow place_leaf s t c.args.tables.now.places c.in_err-low.ensures.made.grows c.requires.tables.places }

-- ---- the greatest upper bound

pub greatest_bound-requires-2 : goal.greatest_bound-requires-2
greatest_bound-requires-2 g c =
    let s = g.F.Forest.shows c.args.forest.now in
    let t = g.F.Forest.shows c.greatest_bound.new.forest in
    record { list = numeric-grows s t c.args.highs.now c.in_ok-low.ensures.made.grows c.requires.upper; some = rw c.requires.beside c.requires.some; few = rw c.requires.beside c.requires.few; table = c.greatest_bound.ensures.table }

pub returns-in_err-high-clause-made : goal.returns-in_err-high-clause-made
returns-in_err-high-clause-made g c =
    let s = g.F.Forest.shows c.args.forest.now in
    let t = g.F.Forest.shows c.greatest_bound.new.forest in
    let u = g.F.Forest.shows c.greatest_bound-2.new.forest in
    subst (MakesBestOf (map (meaning s) c.args.lows.now) (map (meaning s) c.args.highs.now) s u) (sym (err_is c.from_residual-in_err-high.result c.in_err-high.field-0.0 c.from_residual-in_err-high.ensures.1))
    (high-fails s c.layout.ensures.sound c.args.lows.now c.args.highs.now (numeric-known s c.args.lows.now c.requires.lower) (numeric-known s c.args.highs.now c.requires.upper) c.requires.some c.requires.beside t c.in_ok-low.low c.in_ok-low.ensures.made u c.in_err-high.field-0.0 c.in_err-high.ensures.made)

pub returns-in_err-high-clause-keeps : goal.returns-in_err-high-clause-keeps
returns-in_err-high-clause-keeps g c = c.greatest_bound-2.ensures.keeps ∙ c.greatest_bound.ensures.keeps

pub returns-in_err-high-clause-tables : goal.returns-in_err-high-clause-tables
returns-in_err-high-clause-tables g c =
    let s = g.F.Forest.shows c.args.forest.now in
    let u = g.F.Forest.shows c.greatest_bound-2.new.forest in
    record { greatest = c.greatest_bound-2.ensures.table; places = holds-grow place_leaf s u c.args.tables.now.places (grows-then c.in_ok-low.ensures.made.grows c.in_err-high.ensures.made.grows) c.requires.tables.places }

-- ---- the policy

pub first_greatest-requires : goal.first_greatest-requires
first_greatest-requires g c =
    let s = g.F.Forest.shows c.args.forest.now in
    let t = g.F.Forest.shows c.greatest_bound.new.forest in
    let u = g.F.Forest.shows c.greatest_bound-2.new.forest in
    let grows = grows-then c.in_ok-low.ensures.made.grows c.in_ok-high.ensures.made.grows in
    record { list = numeric-grows s u c.args.lows.now grows c.requires.lower; some = c.requires.some; few = c.requires.few; greatest = low-stands s c.layout.ensures.sound c.args.lows.now c.args.highs.now (numeric-known s c.args.lows.now c.requires.lower) (numeric-known s c.args.highs.now c.requires.upper) c.requires.some c.requires.beside t c.in_ok-low.low c.in_ok-low.ensures.made u c.in_ok-high.ensures.made.grows; table = holds-grow place_leaf s u c.args.tables.now.places grows c.requires.tables.places }

pub returns-in_err-act-clause-made : goal.returns-in_err-act-clause-made
returns-in_err-act-clause-made g c =
    let s = g.F.Forest.shows c.args.forest.now in
    let t = g.F.Forest.shows c.greatest_bound.new.forest in
    let u = g.F.Forest.shows c.greatest_bound-2.new.forest in
    let v = g.F.Forest.shows c.first_greatest.new.forest in
    subst (MakesBestOf (map (meaning s) c.args.lows.now) (map (meaning s) c.args.highs.now) s v) (sym (err_is c.from_residual-in_err-act.result c.in_err-act.field-0.0 c.from_residual-in_err-act.ensures.1))
    (act-fails s c.layout.ensures.sound c.args.lows.now c.args.highs.now (numeric-known s c.args.lows.now c.requires.lower) (numeric-known s c.args.highs.now c.requires.upper) c.requires.some c.requires.beside t c.in_ok-low.low c.in_ok-low.ensures.made u c.in_ok-high.high c.in_ok-high.ensures.made v c.in_err-act.field-0.0 c.in_err-act.ensures.made)

pub returns-in_err-act-clause-keeps : goal.returns-in_err-act-clause-keeps
returns-in_err-act-clause-keeps g c = c.first_greatest.ensures.keeps ∙ c.greatest_bound-2.ensures.keeps ∙ c.greatest_bound.ensures.keeps

pub returns-in_err-act-clause-tables : goal.returns-in_err-act-clause-tables
returns-in_err-act-clause-tables g c =
    let u = g.F.Forest.shows c.greatest_bound-2.new.forest in
    let v = g.F.Forest.shows c.first_greatest.new.forest in
    record { greatest = holds-grow greatest_leaf u v c.greatest_bound-2.new.table c.in_err-act.ensures.made.grows c.greatest_bound-2.ensures.table; places = c.first_greatest.ensures.table }

-- ---- all three

pub returns-clause-made : goal.returns-clause-made
returns-clause-made g c =
    let s = g.F.Forest.shows c.args.forest.now in
    let t = g.F.Forest.shows c.greatest_bound.new.forest in
    let u = g.F.Forest.shows c.greatest_bound-2.new.forest in
    let v = g.F.Forest.shows c.first_greatest.new.forest in
    all-made s c.layout.ensures.sound c.args.lows.now c.args.highs.now (numeric-known s c.args.lows.now c.requires.lower) (numeric-known s c.args.highs.now c.requires.upper) c.requires.some c.requires.beside t c.in_ok-low.low c.in_ok-low.ensures.made u c.in_ok-high.high c.in_ok-high.ensures.made v c.in_ok-act.act c.in_ok-act.ensures.made

pub returns-clause-keeps : goal.returns-clause-keeps
returns-clause-keeps g c = c.first_greatest.ensures.keeps ∙ c.greatest_bound-2.ensures.keeps ∙ c.greatest_bound.ensures.keeps

pub returns-clause-tables : goal.returns-clause-tables
returns-clause-tables g c =
    let u = g.F.Forest.shows c.greatest_bound-2.new.forest in
    let v = g.F.Forest.shows c.first_greatest.new.forest in
    record { greatest = holds-grow greatest_leaf u v c.greatest_bound-2.new.table c.in_ok-act.ensures.made.grows c.greatest_bound-2.ensures.table; places = c.first_greatest.ensures.table }
