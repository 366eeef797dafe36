use Rattle.std.proofs.Common.{◌<◌, ◌∙◌, length, sym, subst, arith}
use Rattle.spd_model.proofs.CallerLemmas.Results.{err_is}
use Rattle.spd_nodes.specs.Shown.{MakesAmong}
use Rattle.spd_build.specs.Functions.{numbers}
use Rattle.spd_backup.specs.declared.backing.Bounds.{Bounds}
use Rattle.spd_check.specs.Certificates.{own_low}
use Rattle.spd_check.specs.Functions.{own_functions}
use Rattle.spd_check.proofs.OwnLaws.{act-fits, keep-fit, low-stands, own-all, own-begins, own-fails, own-more, own-none, second-fits}
use Rattle.spd_check.proofs.own.own_lower.Goals as goal

abbrev nothing : Bounds
nothing = record { lo = record { 0 = 0 }; hi = record { 0 = 0 } }

pub map_leaves-requires : goal.map_leaves-requires
map_leaves-requires g c =
    let s = g.F.Forest.shows c.args.forest.now in
    let ready = c.requires.ready in
    record {
      known = ready.are.acts.knows;
      whole = ready.are.acts.whole;
      fits = act-fits ready.process ready.value ready.policy s c.args.bounds.now c.args.act ready.are;
    }

pub returns-in_err-none-clause-made : goal.returns-in_err-none-clause-made
returns-in_err-none-clause-made g c = λ m w policy are.
    let s = g.F.Forest.shows c.args.forest.now in
    let t = g.F.Forest.shows c.map_leaves.new.forest in
    subst (MakesAmong s t (numbers (λ x y. own_low m w policy x)) (own_functions m w policy)) (sym (err_is c.from_residual.result c.in_err-none.field-0.0 c.from_residual.ensures.1))
    (own-none m w policy s c.args.bounds.now c.args.act are c.layout.ensures.sound t c.in_err-none.field-0.0 c.in_err-none.ensures.made)

pub loop-i-init : goal.loop-i-init
loop-i-init g c =
    let s = g.F.Forest.shows c.args.forest.now in
    let t = g.F.Forest.shows c.map_leaves.new.forest in
    record {
      keeps = c.map_leaves.ensures.keeps;
      has = λ m w policy are. own-begins m w policy s c.args.bounds.now c.args.act are c.layout.ensures.sound t c.in_ok-none.none c.in_ok-none.ensures.made;
    }

pub apply_once-requires : goal.apply_once-requires
apply_once-requires g c =
    let s = g.F.Forest.shows c.args.forest.now in
    let t = g.F.Forest.shows c.loop-i.forest in
    let ready = c.requires.ready in
    let has = c.loop-i.invariant.has ready.process ready.value ready.policy ready.are in
    let near : c.loop-i.i < length c.args.bounds.now = let test = c.loop-i-test.true in omega (arith, test) in
    let own = low-stands ready.process ready.value ready.policy s c.args.bounds.now c.args.act ready.are t c.loop-i.i c.loop-i.kept has near nothing in
    record {
      left = has.stands.knows;
      right = own.knows;
      left_whole = has.stands.whole;
      right_whole = own.whole;
      fit = keep-fit ready.process ready.value ready.policy s c.args.bounds.now c.args.act ready.are t c.loop-i.i c.loop-i.kept has near nothing;
      memo_size = c.requires.memo_size;
    }

pub loop-i-preserved : goal.loop-i-preserved
loop-i-preserved g c =
    let s = g.F.Forest.shows c.args.forest.now in
    let t = g.F.Forest.shows c.loop-i.forest in
    let u = g.F.Forest.shows c.apply_once.new.forest in
    let near : c.loop-i.i < length c.args.bounds.now = let test = c.loop-i-test.true in omega (arith, test) in
    record {
      keeps = c.apply_once.ensures.keeps ∙ c.loop-i.invariant.keeps;
      has = λ m w policy are. own-more m w policy s c.args.bounds.now c.args.act are t c.loop-i.i c.loop-i.kept (c.loop-i.invariant.has m w policy are) near nothing u c.in_ok-kept.kept c.in_ok-kept.ensures.made;
    }

pub returns-in_err-kept-clause-made : goal.returns-in_err-kept-clause-made
returns-in_err-kept-clause-made g c = λ m w policy are.
    let s = g.F.Forest.shows c.args.forest.now in
    let t = g.F.Forest.shows c.loop-i.forest in
    let u = g.F.Forest.shows c.apply_once.new.forest in
    let near : c.loop-i.i < length c.args.bounds.now = let test = c.loop-i-test.true in omega (arith, test) in
    subst (MakesAmong s u (numbers (λ x y. own_low m w policy x)) (own_functions m w policy)) (sym (err_is c.from_residual-in_err-kept.result c.in_err-kept.field-0.0 c.from_residual-in_err-kept.ensures.1))
    (own-fails m w policy s c.args.bounds.now c.args.act are t c.loop-i.i c.loop-i.kept (c.loop-i.invariant.has m w policy are) near nothing u c.in_err-kept.field-0.0 c.in_err-kept.ensures.made)

pub map_leaves-requires-2 : goal.map_leaves-requires-2
map_leaves-requires-2 g c =
    let s = g.F.Forest.shows c.args.forest.now in
    let t = g.F.Forest.shows c.loop-i.forest in
    let ready = c.requires.ready in
    let has = c.loop-i.invariant.has ready.process ready.value ready.policy ready.are in
    record {
      known = has.stands.knows;
      whole = has.stands.whole;
      fits = second-fits ready.process ready.value ready.policy s c.args.bounds.now c.args.act ready.are t c.loop-i.i c.loop-i.kept has;
    }

pub returns-clause-made : goal.returns-clause-made
returns-clause-made g c = λ m w policy are.
    let s = g.F.Forest.shows c.args.forest.now in
    let t = g.F.Forest.shows c.loop-i.forest in
    own-all m w policy s c.args.bounds.now c.args.act are t c.loop-i.i c.loop-i.kept (c.loop-i.invariant.has m w policy are) (let test = c.loop-i-test.false in omega (arith, test))
    (g.F.Forest.shows c.map_leaves-2.new.forest) c.map_leaves-2.result c.map_leaves-2.ensures.made
