use Rattle.std.proofs.Common.{◌<◌, ◌∙◌, length, refl, sym, subst, arith}
use Rattle.spd_model.specs.Backup.{best_high}
use Rattle.spd_model.proofs.CallerLemmas.Results.{err_is}
use Rattle.spd_nodes.specs.Shown.{MakesAmong}
use Rattle.spd_build.specs.Functions.{numbers}
use Rattle.spd_backup.specs.declared.backing.Bounds.{Bounds}
use Rattle.spd_check.specs.Functions.{highest_functions}
use Rattle.spd_check.proofs.HighestLaws.{highest-all, highest-fails, highest-first, highest-fit, highest-more, own-stands}
use Rattle.spd_check.proofs.highest.highest.Goals as goal

abbrev nothing : Bounds
nothing = record { lo = record { 0 = 0 }; hi = record { 0 = 0 } }

pub loop-i-init : goal.loop-i-init
loop-i-init g c =
    let s = g.F.Forest.shows c.args.forest.now in
    record {
      some = omega arith;
      keeps = refl;
      has = λ m w are. highest-first m w s c.args.bounds.now are c.layout.ensures.sound nothing c.requires.some;
    }

pub apply_once-requires : goal.apply_once-requires
apply_once-requires g c =
    let s = g.F.Forest.shows c.args.forest.now in
    let t = g.F.Forest.shows c.loop-i.forest in
    let ready = c.requires.ready in
    let has = c.loop-i.invariant.has ready.process ready.value ready.are in
    let near : c.loop-i.i < length c.args.bounds.now = let test = c.loop-i-test.true in omega (arith, test) in
    let own = own-stands ready.process ready.value s c.args.bounds.now ready.are t c.loop-i.i c.loop-i.high has c.loop-i.invariant.some near nothing in
    record {
      left = has.stands.knows;
      right = own.knows;
      left_whole = has.stands.whole;
      right_whole = own.whole;
      fit = highest-fit ready.process ready.value s c.args.bounds.now ready.are t c.loop-i.i c.loop-i.high has c.loop-i.invariant.some near nothing;
      memo_size = c.requires.memo_size;
    }

pub returns-in_err-high-clause-made : goal.returns-in_err-high-clause-made
returns-in_err-high-clause-made g c = λ m w are.
    let s = g.F.Forest.shows c.args.forest.now in
    let t = g.F.Forest.shows c.loop-i.forest in
    let u = g.F.Forest.shows c.apply_once.new.forest in
    let has = c.loop-i.invariant.has m w are in
    let near : c.loop-i.i < length c.args.bounds.now = let test = c.loop-i-test.true in omega (arith, test) in
    subst (MakesAmong s u (numbers (λ x y. best_high m w x)) (highest_functions m w)) (sym (err_is c.from_residual.result c.in_err-high.field-0.0 c.from_residual.ensures.1))
    (highest-fails m w s c.args.bounds.now are t c.loop-i.i c.loop-i.high has c.loop-i.invariant.some near nothing u c.in_err-high.field-0.0 c.in_err-high.ensures.made)

pub loop-i-preserved : goal.loop-i-preserved
loop-i-preserved g c =
    let s = g.F.Forest.shows c.args.forest.now in
    let t = g.F.Forest.shows c.loop-i.forest in
    let u = g.F.Forest.shows c.apply_once.new.forest in
    let near : c.loop-i.i < length c.args.bounds.now = let test = c.loop-i-test.true in omega (arith, test) in
    record {
      some = omega arith;
      keeps = c.apply_once.ensures.keeps ∙ c.loop-i.invariant.keeps;
      has = λ m w are. highest-more m w s c.args.bounds.now are t c.loop-i.i c.loop-i.high (c.loop-i.invariant.has m w are) c.loop-i.invariant.some near nothing u c.in_ok-high.high c.in_ok-high.ensures.made;
    }

pub returns-clause-made : goal.returns-clause-made
returns-clause-made g c = λ m w are.
    let s = g.F.Forest.shows c.args.forest.now in
    let t = g.F.Forest.shows c.loop-i.forest in
    highest-all m w s c.args.bounds.now are t c.loop-i.i c.loop-i.high (c.loop-i.invariant.has m w are) (let test = c.loop-i-test.false in omega (arith, test))
