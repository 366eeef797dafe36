use Rattle.std.proofs.Common.{◌∙◌, ◌<◌, ◌≤◌, length, refl, sym, subst, arith}
use Rattle.spd_model.proofs.CallerLemmas.Results.{err_is}
use Rattle.spd_nodes.specs.Shown.{StandsFor, MakesAmong}
use Rattle.spd_nodes.proofs.CallerLemmas.{among-after, among-fails, diagram-agrees, has-made, has-none, has-then, stands-grows}
use Rattle.spd_build.specs.Functions.{start, start_functions}
use Rattle.spd_build.proofs.StartLaws.{reward-count, reward-at, more-start, max-fits, max-agrees, first-greatest, all-greatest, some-action}
use Rattle.spd_build.proofs.start.greatest_of.Goals as goal

pub loop-number-init : goal.loop-number-init
loop-number-init g c =
    let s = g.F.Forest.shows c.args.forest.now in
    let refs = c.args.rewards.now in
    record {
      made = λ m h.
          let k = c.requires.rewards in
          let some : 0 < length m.actions = let own = k.some in omega (arith, own, reward-count k.process s refs k.stand, reward-count m s refs h) in
          let d = some-action m.actions some in
          (has-none s c.layout.ensures.sound (start_functions m), subst (StandsFor s _) (first-greatest m d some) (reward-at m s refs h 0 _ d some));
      some = omega arith;
      maxima = c.requires.maxima;
      keeps = refl;
    }

pub apply-requires : goal.apply-requires
apply-requires g c =
    let s = g.F.Forest.shows c.args.forest.now in
    let refs = c.args.rewards.now in
    let k = c.requires.rewards in
    let m = k.process in
    let i = c.loop-number.number in
    let here = c.loop-number.invariant.made m k.stand in
    let made = here.0 in
    let most = here.1 in
    let near : i < length m.actions = let test = c.loop-number-test.true in omega (arith, test, reward-count m s refs k.stand) in
    let d = some-action m.actions k.some in
    let new = stands-grows made.grows (reward-at m s refs k.stand i (record { 0 = 0 }) d near) in
    record {
      left = most.knows;
      right = new.knows;
      left_whole = most.whole;
      right_whole = new.whole;
      fit = max-fits m i d c.loop-number.invariant.some near (g.F.Forest.shows c.loop-number.forest) c.loop-number.greatest _ most new;
      memo = c.loop-number.invariant.maxima;
    }

pub returns-in_err-greatest-clause-made : goal.returns-in_err-greatest-clause-made
returns-in_err-greatest-clause-made g c = λ m h.
    let s = g.F.Forest.shows c.args.forest.now in
    let refs = c.args.rewards.now in
    let i = c.loop-number.number in
    let here = c.loop-number.invariant.made m h in
    let made = here.0 in
    let near : i < length m.actions = let test = c.loop-number-test.true in omega (arith, test, reward-count m s refs h) in
    let d = some-action m.actions (omega (arith, near)) in
    let agrees = max-agrees m i d c.loop-number.invariant.some near (g.F.Forest.shows c.loop-number.forest) c.loop-number.greatest _ here.1
    (stands-grows made.grows (reward-at m s refs h i (record { 0 = 0 }) d near)) in
    subst (MakesAmong s (g.F.Forest.shows c.apply.new.forest) (start m) (start_functions m))
    (sym (err_is c.from_residual.result c.in_err-greatest.field-0.0 c.from_residual.ensures.1))
    (among-fails c.in_err-greatest.field-0.0 (among-after (more-start m i near) made (diagram-agrees made.sound agrees c.in_err-greatest.ensures.made)))

pub loop-number-preserved : goal.loop-number-preserved
loop-number-preserved g c =
    let s = g.F.Forest.shows c.args.forest.now in
    let refs = c.args.rewards.now in
    let i = c.loop-number.number in
    record {
      made = λ m h.
          let here = c.loop-number.invariant.made m h in
          let made = here.0 in
          let near : i < length m.actions = let test = c.loop-number-test.true in omega (arith, test, reward-count m s refs h) in
          let d = some-action m.actions (omega (arith, near)) in
          let agrees = max-agrees m i d c.loop-number.invariant.some near (g.F.Forest.shows c.loop-number.forest) c.loop-number.greatest _ here.1
          (stands-grows made.grows (reward-at m s refs h i (record { 0 = 0 }) d near)) in
          let more = diagram-agrees made.sound agrees c.in_ok-greatest.ensures.made in
          (has-then (more-start m i near) made (has-made more), more.ok);
      some = omega arith;
      maxima = c.apply.ensures.memo;
      keeps = c.apply.ensures.keeps ∙ c.loop-number.invariant.keeps;
    }

pub returns-clause-made : goal.returns-clause-made
returns-clause-made g c = λ m h.
    let here = c.loop-number.invariant.made m h in
    let made = here.0 in
    let past : length m.actions ≤ c.loop-number.number = omega (arith, reward-count m (g.F.Forest.shows c.args.forest.now) c.args.rewards.now h) in
    record {
      sound = made.sound;
      grows = made.grows;
      ok = subst (StandsFor (g.F.Forest.shows c.loop-number.forest) c.loop-number.greatest) (all-greatest m c.loop-number.number past) here.1;
      makes = made.makes;
      fault = tt;
    }
