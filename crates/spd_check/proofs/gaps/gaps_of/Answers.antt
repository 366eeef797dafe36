use Rattle.std.proofs.Common.{sym, subst}
use Rattle.spd_model.proofs.CallerLemmas.Results.{err_is}
use Rattle.spd_residual.proofs.CallerLemmas.{difference-fits, valued-grows}
use Rattle.spd_check.specs.inner.Judging.{MakesGaps}
use Rattle.spd_check.proofs.GapLaws.{above-fails, below-fails, gaps-made}
use Rattle.spd_check.proofs.gaps.gaps_of.Goals as goal

pub apply_once-requires : goal.apply_once-requires
apply_once-requires g c =
    let s = g.F.Forest.shows c.args.forest.now in
    record {
      left = c.requires.high.known;
      right = c.requires.value.known;
      left_whole = c.requires.high.whole;
      right_whole = c.requires.value.whole;
      fit = difference-fits s c.args.high c.args.w c.requires.high c.requires.value;
      memo_size = c.requires.memo_size;
    }

pub returns-in_err-above-clause-made : goal.returns-in_err-above-clause-made
returns-in_err-above-clause-made g c = λ m value policy at_w at_high at_own.
    let s = g.F.Forest.shows c.args.forest.now in
    let t = g.F.Forest.shows c.apply_once.new.forest in
    subst (MakesGaps m value policy s t) (sym (err_is c.from_residual.result c.in_err-above.field-0.0 c.from_residual.ensures.1))
    (above-fails m value policy s c.layout.ensures.sound c.args.w c.args.high c.args.own at_w at_high at_own t c.in_err-above.field-0.0 c.in_err-above.ensures.made)

pub apply_once-requires-2 : goal.apply_once-requires-2
apply_once-requires-2 g c =
    let s = g.F.Forest.shows c.args.forest.now in
    let t = g.F.Forest.shows c.apply_once.new.forest in
    let grows = c.in_ok-above.ensures.made.grows in
    let value = valued-grows s t grows c.args.w c.requires.value in
    let own = valued-grows s t grows c.args.own c.requires.own in
    record {
      left = value.known;
      right = own.known;
      left_whole = value.whole;
      right_whole = own.whole;
      fit = difference-fits t c.args.w c.args.own value own;
      memo_size = c.requires.memo_size;
    }

pub returns-in_err-below-clause-made : goal.returns-in_err-below-clause-made
returns-in_err-below-clause-made g c = λ m value policy at_w at_high at_own.
    let s = g.F.Forest.shows c.args.forest.now in
    let t = g.F.Forest.shows c.apply_once.new.forest in
    let u = g.F.Forest.shows c.apply_once-2.new.forest in
    subst (MakesGaps m value policy s u) (sym (err_is c.from_residual-in_err-below.result c.in_err-below.field-0.0 c.from_residual-in_err-below.ensures.1))
    (below-fails m value policy s c.layout.ensures.sound c.args.w c.args.high c.args.own at_w at_high at_own t c.in_ok-above.above c.in_ok-above.ensures.made u c.in_err-below.field-0.0 c.in_err-below.ensures.made)

pub returns-clause-made : goal.returns-clause-made
returns-clause-made g c = λ m value policy at_w at_high at_own.
    let s = g.F.Forest.shows c.args.forest.now in
    let t = g.F.Forest.shows c.apply_once.new.forest in
    let u = g.F.Forest.shows c.apply_once-2.new.forest in
    gaps-made m value policy s c.layout.ensures.sound c.args.w c.args.high c.args.own at_w at_high at_own t c.in_ok-above.above c.in_ok-above.ensures.made u c.in_ok-below.below c.in_ok-below.ensures.made
