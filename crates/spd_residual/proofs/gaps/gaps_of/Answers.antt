use Rattle.std.proofs.Common.{sym, subst}
use Rattle.spd_model.proofs.CallerLemmas.Results.{err_is}
use Rattle.spd_residual.specs.inner.Finding.{MakesGaps}
use Rattle.spd_residual.proofs.GapLaws.{above-fails, all-made, below-fails, greater-fails}
use Rattle.spd_residual.proofs.gaps.gaps_of.Goals as goal

pub returns-in_err-above-clause-made : goal.returns-in_err-above-clause-made
returns-in_err-above-clause-made g c = λ gaps have.
    let s = g.F.Forest.shows c.args.forest.now in
    let t = g.F.Forest.shows c.apply_once.new.forest in
    subst (MakesGaps gaps s t) (sym (err_is c.from_residual.result c.in_err-above.field-0.0 c.from_residual.ensures.1))
    (above-fails s c.layout.ensures.sound c.args.w c.args.best.now c.requires.value c.requires.low c.requires.high gaps have t c.in_err-above.field-0.0 c.in_err-above.ensures.made)

pub returns-in_err-below-clause-made : goal.returns-in_err-below-clause-made
returns-in_err-below-clause-made g c = λ gaps have.
    let s = g.F.Forest.shows c.args.forest.now in
    let t = g.F.Forest.shows c.apply_once.new.forest in
    let u = g.F.Forest.shows c.apply_once-2.new.forest in
    subst (MakesGaps gaps s u) (sym (err_is c.from_residual-in_err-below.result c.in_err-below.field-0.0 c.from_residual-in_err-below.ensures.1))
    (below-fails s c.layout.ensures.sound c.args.w c.args.best.now c.requires.value c.requires.low c.requires.high gaps have t c.in_ok-above.above c.in_ok-above.ensures.made u c.in_err-below.field-0.0 c.in_err-below.ensures.made)

pub returns-in_err-greater-clause-made : goal.returns-in_err-greater-clause-made
returns-in_err-greater-clause-made g c = λ gaps have.
    let s = g.F.Forest.shows c.args.forest.now in
    let t = g.F.Forest.shows c.apply_once.new.forest in
    let u = g.F.Forest.shows c.apply_once-2.new.forest in
    let v = g.F.Forest.shows c.apply_once-3.new.forest in
    subst (MakesGaps gaps s v) (sym (err_is c.from_residual-in_err-greater.result c.in_err-greater.field-0.0 c.from_residual-in_err-greater.ensures.1))
    (greater-fails s c.layout.ensures.sound c.args.w c.args.best.now c.requires.value c.requires.low c.requires.high gaps have t c.in_ok-above.above c.in_ok-above.ensures.made u c.in_ok-below.below c.in_ok-below.ensures.made v c.in_err-greater.field-0.0 c.in_err-greater.ensures.made)

pub returns-clause-made : goal.returns-clause-made
returns-clause-made g c = λ gaps have.
    let s = g.F.Forest.shows c.args.forest.now in
    let t = g.F.Forest.shows c.apply_once.new.forest in
    let u = g.F.Forest.shows c.apply_once-2.new.forest in
    let v = g.F.Forest.shows c.apply_once-3.new.forest in
    all-made s c.layout.ensures.sound c.args.w c.args.best.now c.requires.value c.requires.low c.requires.high gaps have t c.in_ok-above.above c.in_ok-above.ensures.made u c.in_ok-below.below c.in_ok-below.ensures.made v c.in_ok-greater.greater c.in_ok-greater.ensures.made
