use Rattle.std.proofs.Common.{rules, arith, ◌+◌, ◌≤◌, ℕ, List, Err, sym, subst, ◌∙◌}
use Rattle.spd_memo.specs.Kept.{Keeps}
use Rattle.spd_nodes.specs.Levels.{slots}
use Rattle.spd_nodes.proofs.CallerLemmas.{grows-then}
use Rattle.spd_apply.specs.Halves.{pair_rank}
use Rattle.spd_apply.specs.Rules.{IsBelow, below_rank}
use Rattle.spd_apply.proofs.BelowLaws.{yes-fails, no-goes, no-smaller, no-fails, can-test, test-made}
use Rattle.spd_apply.proofs.CostLaws.{absent-recalled, counts-below, counts-here, counts-kept, counts-known, counts-missed, counts-no, counts-recalled, counts-test, lower-grows, lower-kept, lower-missed, lower-recalled, lower-then, lower-up, still-absent, test_steps-few, unkept-err}
use Rattle.spd_apply.proofs.MemoLaws.{answers-grow}
use Rattle.spd_apply.proofs.make.+make.Goals as goal

pub make_anew-returns-in_err-yes-in-Test-clause-made : goal.make_anew-returns-in_err-yes-in-Test-clause-made
make_anew-returns-in_err-yes-in-Test-clause-made g t c =
    let made = yes-fails (g.D.Descent.making c.args.rule.now) (g.D.Descent.may c.args.rule.now (g.F.Forest.shows c.args.forest.now).sizes) (g.F.Forest.shows c.args.forest.now) c.args.f.name c.args.g.name c.in-Test.level.0 c.in-Test.yes c.in-Test.no c.in-Test.ensures.plan
    (g.F.Forest.shows c.make_below-in-Test.new.forest) c.in_err-yes-in-Test.field-0.0 c.in_err-yes-in-Test.ensures.made in
    search rules

pub make_anew-make_below-requires-in-Test-2 : goal.make_anew-make_below-requires-in-Test-2
make_anew-make_below-requires-in-Test-2 g t c κs within =
    let goes = no-goes (g.D.Descent.making c.args.rule.now) (g.D.Descent.may c.args.rule.now (g.F.Forest.shows c.args.forest.now).sizes) (g.F.Forest.shows c.args.forest.now) c.args.f.name c.args.g.name c.in-Test.level.0 c.in-Test.yes c.in-Test.no c.in-Test.ensures.plan
    (g.F.Forest.shows c.make_below-in-Test.new.forest) c.make_below-in-Test.ensures.made.grows in
    let smaller = no-smaller (g.D.Descent.making c.args.rule.now) (g.D.Descent.may c.args.rule.now (g.F.Forest.shows c.args.forest.now).sizes) (g.F.Forest.shows c.args.forest.now) c.args.f.name c.args.g.name c.in-Test.level.0 c.in-Test.yes c.in-Test.no c.in-Test.ensures.plan
    (g.F.Forest.shows c.make_below-in-Test.new.forest) c.make_below-in-Test.ensures.made.grows in
    let below : IsBelow (g.D.Descent.may c.args.rule.now (g.F.Forest.shows c.make_below-in-Test.new.forest).sizes) (g.F.Forest.shows c.make_below-in-Test.new.forest) c.in-Test.no = subst (λ (z : List ℕ). IsBelow (g.D.Descent.may c.args.rule.now z) (g.F.Forest.shows c.make_below-in-Test.new.forest) c.in-Test.no) (sym c.make_below-in-Test.ensures.made.grows.sizes) goes in
    search rules

pub make_anew-returns-in_err-no-in-Test-clause-made : goal.make_anew-returns-in_err-no-in-Test-clause-made
make_anew-returns-in_err-no-in-Test-clause-made g t c =
    let made = no-fails (g.D.Descent.making c.args.rule.now) (g.D.Descent.may c.args.rule.now (g.F.Forest.shows c.args.forest.now).sizes) (g.F.Forest.shows c.args.forest.now) c.args.f.name c.args.g.name c.in-Test.level.0 c.in-Test.yes c.in-Test.no c.in-Test.ensures.plan
    (g.F.Forest.shows c.make_below-in-Test.new.forest) c.in_ok-yes-in-Test.yes c.in_ok-yes-in-Test.ensures.made
    (g.F.Forest.shows c.make_below-in-Test-2.new.forest) c.in_err-no-in-Test.field-0.0 c.in_err-no-in-Test.ensures.made in
    search rules

pub make_anew-test-requires-clause-fits : goal.make_anew-test-requires-clause-fits
make_anew-test-requires-clause-fits g t c =
    can-test (g.D.Descent.making c.args.rule.now) (g.D.Descent.may c.args.rule.now (g.F.Forest.shows c.args.forest.now).sizes) (g.F.Forest.shows c.args.forest.now) c.args.f.name c.args.g.name c.in-Test.level.0 c.in-Test.yes c.in-Test.no c.in-Test.ensures.plan
    (g.F.Forest.shows c.make_below-in-Test.new.forest) c.in_ok-yes-in-Test.yes c.in_ok-yes-in-Test.ensures.made
    (g.F.Forest.shows c.make_below-in-Test-2.new.forest) c.in_ok-no-in-Test.no c.in_ok-no-in-Test.ensures.made

pub make_anew-returns-in_ok-no-in-Test-clause-made : goal.make_anew-returns-in_ok-no-in-Test-clause-made
make_anew-returns-in_ok-no-in-Test-clause-made g t c =
    test-made (g.D.Descent.making c.args.rule.now) (g.D.Descent.may c.args.rule.now (g.F.Forest.shows c.args.forest.now).sizes) (g.F.Forest.shows c.args.forest.now) c.args.f.name c.args.g.name c.in-Test.level.0 c.in-Test.yes c.in-Test.no c.in-Test.ensures.plan
    (g.F.Forest.shows c.make_below-in-Test.new.forest) c.in_ok-yes-in-Test.yes c.in_ok-yes-in-Test.ensures.made
    (g.F.Forest.shows c.make_below-in-Test-2.new.forest) c.in_ok-no-in-Test.no c.in_ok-no-in-Test.ensures.made
    (g.F.Forest.shows c.test.new.self) c.test.result
    (record { sound = c.test.ensures.sound; grows = c.test.ensures.grows; ok = c.test.ensures.ok; makes = c.test.ensures.makes; fault = c.test.ensures.fault })

pub make_anew-returns-in-Leaf-clause-memo : goal.make_anew-returns-in-Leaf-clause-memo
make_anew-returns-in-Leaf-clause-memo g t c = answers-grow c.requires.ready.memo c.leaf.ensures.grows

pub make_anew-returns-in_ok-no-in-Test-clause-memo : goal.make_anew-returns-in_ok-no-in-Test-clause-memo
make_anew-returns-in_ok-no-in-Test-clause-memo g t c = answers-grow c.make_below-in-Test-2.ensures.memo c.test.ensures.grows

pub make_anew-returns-in-Bottom-clause-memo : goal.make_anew-returns-in-Bottom-clause-memo
make_anew-returns-in-Bottom-clause-memo g t c = answers-grow c.requires.ready.memo c.bottom.ensures.made.grows

pub make_anew-returns-in-Leaf-clause-counts : goal.make_anew-returns-in-Leaf-clause-counts
make_anew-returns-in-Leaf-clause-counts g t c =
    counts-here (g.D.Descent.making c.args.rule.now) (g.D.Descent.may c.args.rule.now (g.F.Forest.shows c.args.forest.now).sizes) (g.F.Forest.shows c.args.forest.now) c.requires.ready.sound c.args.memo.now c.args.f.name c.args.g.name c.requires.ready.left c.requires.ready.right c.requires.absent (1 + g.D.Descent.more_steps c.args.rule.now)
    (g.F.Forest.shows c.leaf.new.self) c.leaf.ensures.sound c.args.steps.now c.leaf.new.steps c.leaf.ensures.grows (omega (arith, c.leaf.ensures.cost))

pub make_anew-returns-in-Bottom-clause-counts : goal.make_anew-returns-in-Bottom-clause-counts
make_anew-returns-in-Bottom-clause-counts g t c =
    counts-here (g.D.Descent.making c.args.rule.now) (g.D.Descent.may c.args.rule.now (g.F.Forest.shows c.args.forest.now).sizes) (g.F.Forest.shows c.args.forest.now) c.requires.ready.sound c.args.memo.now c.args.f.name c.args.g.name c.requires.ready.left c.requires.ready.right c.requires.absent (1 + g.D.Descent.more_steps c.args.rule.now)
    (g.F.Forest.shows c.bottom.new.forest) c.bottom.ensures.made.sound c.args.steps.now c.bottom.new.steps c.bottom.ensures.made.grows c.bottom.ensures.cost

pub make_anew-returns-in-Below-clause-lower : goal.make_anew-returns-in-Below-clause-lower
make_anew-returns-in-Below-clause-lower g t c =
    lower-up (g.F.Forest.shows c.make_below.new.forest) c.args.memo.now c.make_below.new.memo (below_rank (g.F.Forest.shows c.args.forest.now) c.in-Below.below) (pair_rank (slots (g.F.Forest.shows c.args.forest.now).sizes) ((g.F.Forest.shows c.args.forest.now).tree c.args.f.name) ((g.F.Forest.shows c.args.forest.now).tree c.args.g.name)) c.in-Below.ensures.plan.smaller c.make_below.ensures.lower

pub make_anew-returns-in-Below-clause-counts : goal.make_anew-returns-in-Below-clause-counts
make_anew-returns-in-Below-clause-counts g t c =
    let lower = lower-up (g.F.Forest.shows c.make_below.new.forest) c.args.memo.now c.make_below.new.memo (below_rank (g.F.Forest.shows c.args.forest.now) c.in-Below.below) (pair_rank (slots (g.F.Forest.shows c.args.forest.now).sizes) ((g.F.Forest.shows c.args.forest.now).tree c.args.f.name) ((g.F.Forest.shows c.args.forest.now).tree c.args.g.name)) c.in-Below.ensures.plan.smaller c.make_below.ensures.lower in
    counts-below (g.D.Descent.making c.args.rule.now) (g.D.Descent.may c.args.rule.now (g.F.Forest.shows c.args.forest.now).sizes) (g.F.Forest.shows c.args.forest.now) c.requires.ready.sound c.args.memo.now c.args.f.name c.args.g.name c.requires.ready.left c.requires.ready.right c.requires.absent (1 + g.D.Descent.more_steps c.args.rule.now)
    (g.F.Forest.shows c.make_below.new.forest) c.make_below.ensures.made.sound c.make_below.new.memo c.make_below.ensures.made.grows lower
    c.in-Below.below c.in-Below.ensures.plan.nodes c.in-Below.ensures.plan.goes c.args.steps.now c.make_below.new.steps c.make_below.result c.make_below.ensures.counts

pub make_anew-returns-in_err-yes-in-Test-clause-lower : goal.make_anew-returns-in_err-yes-in-Test-clause-lower
make_anew-returns-in_err-yes-in-Test-clause-lower g t c =
    lower-up (g.F.Forest.shows c.make_below-in-Test.new.forest) c.args.memo.now c.make_below-in-Test.new.memo (below_rank (g.F.Forest.shows c.args.forest.now) c.in-Test.yes) (pair_rank (slots (g.F.Forest.shows c.args.forest.now).sizes) ((g.F.Forest.shows c.args.forest.now).tree c.args.f.name) ((g.F.Forest.shows c.args.forest.now).tree c.args.g.name)) c.in-Test.ensures.plan.yes_smaller c.make_below-in-Test.ensures.lower

pub make_anew-returns-in_err-yes-in-Test-clause-counts : goal.make_anew-returns-in_err-yes-in-Test-clause-counts
make_anew-returns-in_err-yes-in-Test-clause-counts g t c =
    let lower = lower-up (g.F.Forest.shows c.make_below-in-Test.new.forest) c.args.memo.now c.make_below-in-Test.new.memo (below_rank (g.F.Forest.shows c.args.forest.now) c.in-Test.yes) (pair_rank (slots (g.F.Forest.shows c.args.forest.now).sizes) ((g.F.Forest.shows c.args.forest.now).tree c.args.f.name) ((g.F.Forest.shows c.args.forest.now).tree c.args.g.name)) c.in-Test.ensures.plan.yes_smaller c.make_below-in-Test.ensures.lower in
    counts-below (g.D.Descent.making c.args.rule.now) (g.D.Descent.may c.args.rule.now (g.F.Forest.shows c.args.forest.now).sizes) (g.F.Forest.shows c.args.forest.now) c.requires.ready.sound c.args.memo.now c.args.f.name c.args.g.name c.requires.ready.left c.requires.ready.right c.requires.absent (1 + g.D.Descent.more_steps c.args.rule.now)
    (g.F.Forest.shows c.make_below-in-Test.new.forest) c.make_below-in-Test.ensures.made.sound c.make_below-in-Test.new.memo c.make_below-in-Test.ensures.made.grows lower
    c.in-Test.yes c.in-Test.ensures.plan.yes_nodes c.in-Test.ensures.plan.yes_goes c.args.steps.now c.make_below-in-Test.new.steps (Err c.in_err-yes-in-Test.field-0.0) c.in_err-yes-in-Test.ensures.counts

pub make_anew-returns-in_err-no-in-Test-clause-lower : goal.make_anew-returns-in_err-no-in-Test-clause-lower
make_anew-returns-in_err-no-in-Test-clause-lower g t c =
    let less = no-smaller (g.D.Descent.making c.args.rule.now) (g.D.Descent.may c.args.rule.now (g.F.Forest.shows c.args.forest.now).sizes) (g.F.Forest.shows c.args.forest.now) c.args.f.name c.args.g.name c.in-Test.level.0 c.in-Test.yes c.in-Test.no c.in-Test.ensures.plan (g.F.Forest.shows c.make_below-in-Test.new.forest) c.make_below-in-Test.ensures.made.grows in
    let fewer : below_rank (g.F.Forest.shows c.make_below-in-Test.new.forest) c.in-Test.no ≤ (pair_rank (slots (g.F.Forest.shows c.args.forest.now).sizes) ((g.F.Forest.shows c.args.forest.now).tree c.args.f.name) ((g.F.Forest.shows c.args.forest.now).tree c.args.g.name)) = omega (arith, less) in
    let first = lower-up (g.F.Forest.shows c.make_below-in-Test.new.forest) c.args.memo.now c.make_below-in-Test.new.memo (below_rank (g.F.Forest.shows c.args.forest.now) c.in-Test.yes) (pair_rank (slots (g.F.Forest.shows c.args.forest.now).sizes) ((g.F.Forest.shows c.args.forest.now).tree c.args.f.name) ((g.F.Forest.shows c.args.forest.now).tree c.args.g.name)) c.in-Test.ensures.plan.yes_smaller c.make_below-in-Test.ensures.lower in
    let second = lower-up (g.F.Forest.shows c.make_below-in-Test-2.new.forest) c.make_below-in-Test.new.memo c.make_below-in-Test-2.new.memo (below_rank (g.F.Forest.shows c.make_below-in-Test.new.forest) c.in-Test.no) (pair_rank (slots (g.F.Forest.shows c.args.forest.now).sizes) ((g.F.Forest.shows c.args.forest.now).tree c.args.f.name) ((g.F.Forest.shows c.args.forest.now).tree c.args.g.name)) fewer c.make_below-in-Test-2.ensures.lower in
    let both = lower-then (g.D.Descent.making c.args.rule.now) (g.F.Forest.shows c.make_below-in-Test.new.forest) (g.F.Forest.shows c.make_below-in-Test-2.new.forest) c.args.memo.now c.make_below-in-Test.new.memo c.make_below-in-Test-2.new.memo (pair_rank (slots (g.F.Forest.shows c.args.forest.now).sizes) ((g.F.Forest.shows c.args.forest.now).tree c.args.f.name) ((g.F.Forest.shows c.args.forest.now).tree c.args.g.name)) c.make_below-in-Test-2.ensures.made.grows c.make_below-in-Test.ensures.memo first second in
    both

pub make_anew-returns-in_err-no-in-Test-clause-counts : goal.make_anew-returns-in_err-no-in-Test-clause-counts
make_anew-returns-in_err-no-in-Test-clause-counts g t c =
    counts-no (g.D.Descent.making c.args.rule.now) (g.D.Descent.may c.args.rule.now (g.F.Forest.shows c.args.forest.now).sizes) (g.F.Forest.shows c.args.forest.now) c.requires.ready.sound c.args.memo.now c.args.f.name c.args.g.name c.requires.ready.left c.requires.ready.right c.requires.absent (1 + g.D.Descent.more_steps c.args.rule.now)
    c.in-Test.yes c.in-Test.no c.in-Test.ensures.plan.yes_nodes c.in-Test.ensures.plan.no_nodes c.in-Test.ensures.plan.yes_goes c.in-Test.ensures.plan.no_goes
    (g.F.Forest.shows c.make_below-in-Test.new.forest) c.make_below-in-Test.new.memo c.make_below-in-Test-2.new.memo c.make_below-in-Test.ensures.made.grows c.make_below-in-Test.ensures.capacity
    c.args.steps.now c.make_below-in-Test.new.steps c.make_below-in-Test-2.new.steps c.in_ok-yes-in-Test.ensures.counts
    (g.F.Forest.shows c.make_below-in-Test-2.new.forest) c.in_err-no-in-Test.ensures.counts

pub make_anew-returns-in_ok-no-in-Test-clause-lower : goal.make_anew-returns-in_ok-no-in-Test-clause-lower
make_anew-returns-in_ok-no-in-Test-clause-lower g t c =
    let less = no-smaller (g.D.Descent.making c.args.rule.now) (g.D.Descent.may c.args.rule.now (g.F.Forest.shows c.args.forest.now).sizes) (g.F.Forest.shows c.args.forest.now) c.args.f.name c.args.g.name c.in-Test.level.0 c.in-Test.yes c.in-Test.no c.in-Test.ensures.plan (g.F.Forest.shows c.make_below-in-Test.new.forest) c.make_below-in-Test.ensures.made.grows in
    let fewer : below_rank (g.F.Forest.shows c.make_below-in-Test.new.forest) c.in-Test.no ≤ (pair_rank (slots (g.F.Forest.shows c.args.forest.now).sizes) ((g.F.Forest.shows c.args.forest.now).tree c.args.f.name) ((g.F.Forest.shows c.args.forest.now).tree c.args.g.name)) = omega (arith, less) in
    let first = lower-up (g.F.Forest.shows c.make_below-in-Test.new.forest) c.args.memo.now c.make_below-in-Test.new.memo (below_rank (g.F.Forest.shows c.args.forest.now) c.in-Test.yes) (pair_rank (slots (g.F.Forest.shows c.args.forest.now).sizes) ((g.F.Forest.shows c.args.forest.now).tree c.args.f.name) ((g.F.Forest.shows c.args.forest.now).tree c.args.g.name)) c.in-Test.ensures.plan.yes_smaller c.make_below-in-Test.ensures.lower in
    let second = lower-up (g.F.Forest.shows c.make_below-in-Test-2.new.forest) c.make_below-in-Test.new.memo c.make_below-in-Test-2.new.memo (below_rank (g.F.Forest.shows c.make_below-in-Test.new.forest) c.in-Test.no) (pair_rank (slots (g.F.Forest.shows c.args.forest.now).sizes) ((g.F.Forest.shows c.args.forest.now).tree c.args.f.name) ((g.F.Forest.shows c.args.forest.now).tree c.args.g.name)) fewer c.make_below-in-Test-2.ensures.lower in
    let both = lower-then (g.D.Descent.making c.args.rule.now) (g.F.Forest.shows c.make_below-in-Test.new.forest) (g.F.Forest.shows c.make_below-in-Test-2.new.forest) c.args.memo.now c.make_below-in-Test.new.memo c.make_below-in-Test-2.new.memo (pair_rank (slots (g.F.Forest.shows c.args.forest.now).sizes) ((g.F.Forest.shows c.args.forest.now).tree c.args.f.name) ((g.F.Forest.shows c.args.forest.now).tree c.args.g.name)) c.make_below-in-Test-2.ensures.made.grows c.make_below-in-Test.ensures.memo first second in
    lower-grows (g.D.Descent.making c.args.rule.now) (g.F.Forest.shows c.make_below-in-Test-2.new.forest) (g.F.Forest.shows c.test.new.self) c.args.memo.now c.make_below-in-Test-2.new.memo (pair_rank (slots (g.F.Forest.shows c.args.forest.now).sizes) ((g.F.Forest.shows c.args.forest.now).tree c.args.f.name) ((g.F.Forest.shows c.args.forest.now).tree c.args.g.name)) (pair_rank (slots (g.F.Forest.shows c.args.forest.now).sizes) ((g.F.Forest.shows c.args.forest.now).tree c.args.f.name) ((g.F.Forest.shows c.args.forest.now).tree c.args.g.name)) c.test.ensures.grows c.make_below-in-Test-2.ensures.memo (omega arith) both

pub make_anew-returns-in_ok-no-in-Test-clause-counts : goal.make_anew-returns-in_ok-no-in-Test-clause-counts
make_anew-returns-in_ok-no-in-Test-clause-counts g t c =
    let less = no-smaller (g.D.Descent.making c.args.rule.now) (g.D.Descent.may c.args.rule.now (g.F.Forest.shows c.args.forest.now).sizes) (g.F.Forest.shows c.args.forest.now) c.args.f.name c.args.g.name c.in-Test.level.0 c.in-Test.yes c.in-Test.no c.in-Test.ensures.plan (g.F.Forest.shows c.make_below-in-Test.new.forest) c.make_below-in-Test.ensures.made.grows in
    let fewer : below_rank (g.F.Forest.shows c.make_below-in-Test.new.forest) c.in-Test.no ≤ (pair_rank (slots (g.F.Forest.shows c.args.forest.now).sizes) ((g.F.Forest.shows c.args.forest.now).tree c.args.f.name) ((g.F.Forest.shows c.args.forest.now).tree c.args.g.name)) = omega (arith, less) in
    let first = lower-up (g.F.Forest.shows c.make_below-in-Test.new.forest) c.args.memo.now c.make_below-in-Test.new.memo (below_rank (g.F.Forest.shows c.args.forest.now) c.in-Test.yes) (pair_rank (slots (g.F.Forest.shows c.args.forest.now).sizes) ((g.F.Forest.shows c.args.forest.now).tree c.args.f.name) ((g.F.Forest.shows c.args.forest.now).tree c.args.g.name)) c.in-Test.ensures.plan.yes_smaller c.make_below-in-Test.ensures.lower in
    let second = lower-up (g.F.Forest.shows c.make_below-in-Test-2.new.forest) c.make_below-in-Test.new.memo c.make_below-in-Test-2.new.memo (below_rank (g.F.Forest.shows c.make_below-in-Test.new.forest) c.in-Test.no) (pair_rank (slots (g.F.Forest.shows c.args.forest.now).sizes) ((g.F.Forest.shows c.args.forest.now).tree c.args.f.name) ((g.F.Forest.shows c.args.forest.now).tree c.args.g.name)) fewer c.make_below-in-Test-2.ensures.lower in
    let both = lower-then (g.D.Descent.making c.args.rule.now) (g.F.Forest.shows c.make_below-in-Test.new.forest) (g.F.Forest.shows c.make_below-in-Test-2.new.forest) c.args.memo.now c.make_below-in-Test.new.memo c.make_below-in-Test-2.new.memo (pair_rank (slots (g.F.Forest.shows c.args.forest.now).sizes) ((g.F.Forest.shows c.args.forest.now).tree c.args.f.name) ((g.F.Forest.shows c.args.forest.now).tree c.args.g.name)) c.make_below-in-Test-2.ensures.made.grows c.make_below-in-Test.ensures.memo first second in
    counts-test (g.D.Descent.making c.args.rule.now) (g.D.Descent.may c.args.rule.now (g.F.Forest.shows c.args.forest.now).sizes) (g.F.Forest.shows c.args.forest.now) c.requires.ready.sound c.args.memo.now c.args.f.name c.args.g.name c.requires.ready.left c.requires.ready.right c.requires.absent (1 + g.D.Descent.more_steps c.args.rule.now)
    c.in-Test.yes c.in-Test.no c.in-Test.ensures.plan.yes_nodes c.in-Test.ensures.plan.no_nodes c.in-Test.ensures.plan.yes_goes c.in-Test.ensures.plan.no_goes
    (g.F.Forest.shows c.make_below-in-Test.new.forest) c.make_below-in-Test.new.memo c.make_below-in-Test-2.new.memo c.make_below-in-Test.ensures.made.grows c.make_below-in-Test.ensures.capacity
    c.args.steps.now c.make_below-in-Test.new.steps c.make_below-in-Test-2.new.steps c.in_ok-yes-in-Test.ensures.counts
    (g.F.Forest.shows c.make_below-in-Test-2.new.forest) (g.F.Forest.shows c.test.new.self) c.test.ensures.sound c.test.new.steps c.in_ok-no-in-Test.ensures.counts
    (grows-then c.make_below-in-Test.ensures.made.grows c.make_below-in-Test-2.ensures.made.grows) c.test.ensures.grows
    (omega (arith, c.test.ensures.cost, test_steps-few c.in_ok-yes-in-Test.yes c.in_ok-no-in-Test.no)) both

pub make_below-returns-in-Known-clause-counts : goal.make_below-returns-in-Known-clause-counts
make_below-returns-in-Known-clause-counts g t c =
    counts-known (g.F.Forest.shows c.args.forest.now) c.requires.sound c.args.memo.now c.args.steps.now (1 + g.D.Descent.more_steps c.args.rule.now) _

pub recall_or_make-returns-in-Some-clause-lower : goal.recall_or_make-returns-in-Some-clause-lower
recall_or_make-returns-in-Some-clause-lower g t c =
    lower-recalled (g.F.Forest.shows c.args.forest.now) c.args.memo.now c.recall.new.memo c.args.f c.args.g (1 + (pair_rank (slots (g.F.Forest.shows c.args.forest.now).sizes) ((g.F.Forest.shows c.args.forest.now).tree c.args.f) ((g.F.Forest.shows c.args.forest.now).tree c.args.g))) c.recall.ensures.pairs

pub recall_or_make-returns-in-Some-clause-counts : goal.recall_or_make-returns-in-Some-clause-counts
recall_or_make-returns-in-Some-clause-counts g t c =
    counts-recalled (g.F.Forest.shows c.args.forest.now) c.requires.sound c.args.memo.now c.recall.new.memo c.args.f c.args.g c.args.steps.now (1 + g.D.Descent.more_steps c.args.rule.now) c.recall.ensures.distinct c.recall.ensures.pairs

pub recall_or_make-returns-in_err-r-clause-lower : goal.recall_or_make-returns-in_err-r-clause-lower
recall_or_make-returns-in_err-r-clause-lower g t c =
    let lower = rw (c.nodes.ensures.same, c.nodes.ensures.left_name, c.nodes.ensures.right_name) at c.make_anew.ensures.lower in
    lower-missed (g.F.Forest.shows c.args.forest.now) (g.F.Forest.shows c.make_anew.new.forest) c.args.memo.now c.recall.new.memo c.make_anew.new.memo c.args.f c.args.g c.recall.ensures.distinct c.recall.ensures.pairs (pair_rank (slots (g.F.Forest.shows c.args.forest.now).sizes) ((g.F.Forest.shows c.args.forest.now).tree c.args.f) ((g.F.Forest.shows c.args.forest.now).tree c.args.g)) lower

pub recall_or_make-returns-in_err-r-clause-counts : goal.recall_or_make-returns-in_err-r-clause-counts
recall_or_make-returns-in_err-r-clause-counts g t c =
    let counts = rw (c.nodes.ensures.same, c.nodes.ensures.left_name, c.nodes.ensures.right_name) at c.make_anew.ensures.counts in
    rw (unkept-err c.from_residual.result c.from_residual.ensures.0)
    (counts-missed (g.F.Forest.shows c.args.forest.now) (g.F.Forest.shows c.make_anew.new.forest) c.args.memo.now c.recall.new.memo c.make_anew.new.memo c.args.f c.args.g c.recall.ensures.distinct c.recall.ensures.pairs c.args.steps.now c.make_anew.new.steps (1 + g.D.Descent.more_steps c.args.rule.now) 1 c.recall.ensures.capacity counts)

pub recall_or_make-returns-clause-lower : goal.recall_or_make-returns-clause-lower
recall_or_make-returns-clause-lower g t c =
    let lower = rw (c.nodes.ensures.same, c.nodes.ensures.left_name, c.nodes.ensures.right_name) at c.make_anew.ensures.lower in
    let grows = rw c.nodes.ensures.same at c.make_anew.ensures.made.grows in
    lower-kept (g.F.Forest.shows c.args.forest.now) (g.F.Forest.shows c.make_anew.new.forest) c.args.memo.now c.make_anew.new.memo c.keep.new.memo c.args.f c.args.g c.in_ok-r.r grows c.requires.left c.requires.right c.keep.result c.keep.ensures.kept c.keep.ensures.unkept (lower-missed (g.F.Forest.shows c.args.forest.now) (g.F.Forest.shows c.make_anew.new.forest) c.args.memo.now c.recall.new.memo c.make_anew.new.memo c.args.f c.args.g c.recall.ensures.distinct c.recall.ensures.pairs (pair_rank (slots (g.F.Forest.shows c.args.forest.now).sizes) ((g.F.Forest.shows c.args.forest.now).tree c.args.f) ((g.F.Forest.shows c.args.forest.now).tree c.args.g)) lower)

pub recall_or_make-returns-clause-counts : goal.recall_or_make-returns-clause-counts
recall_or_make-returns-clause-counts g t c =
    let lower = rw (c.nodes.ensures.same, c.nodes.ensures.left_name, c.nodes.ensures.right_name) at c.make_anew.ensures.lower in
    let counts = rw (c.nodes.ensures.same, c.nodes.ensures.left_name, c.nodes.ensures.right_name) at c.make_anew.ensures.counts in
    let grows = rw c.nodes.ensures.same at c.make_anew.ensures.made.grows in
    let absent = still-absent (g.F.Forest.shows c.args.forest.now) (g.F.Forest.shows c.make_anew.new.forest) c.recall.new.memo c.make_anew.new.memo c.args.f c.args.g grows c.requires.left c.requires.right lower
    (absent-recalled c.args.memo.now c.recall.new.memo c.args.f c.args.g (sym c.in_default.ensures.kept) c.recall.ensures.pairs) in
    counts-kept (g.F.Forest.shows c.args.forest.now) (g.F.Forest.shows c.make_anew.new.forest) c.args.memo.now c.make_anew.new.memo c.keep.new.memo c.args.f c.args.g c.in_ok-r.r grows c.requires.left c.requires.right absent c.keep.ensures.distinct (c.make_anew.ensures.capacity ∙ c.recall.ensures.capacity) c.args.steps.now c.make_anew.new.steps (1 + g.D.Descent.more_steps c.args.rule.now)
    (counts-missed (g.F.Forest.shows c.args.forest.now) (g.F.Forest.shows c.make_anew.new.forest) c.args.memo.now c.recall.new.memo c.make_anew.new.memo c.args.f c.args.g c.recall.ensures.distinct c.recall.ensures.pairs c.args.steps.now c.make_anew.new.steps (1 + g.D.Descent.more_steps c.args.rule.now) 1 c.recall.ensures.capacity counts) c.keep.result c.keep.ensures.kept c.keep.ensures.unkept

pub recall_or_make-make_anew-requires : goal.recall_or_make-make_anew-requires
recall_or_make-make_anew-requires g t c κs within =
    let absent = absent-recalled c.args.memo.now c.recall.new.memo c.args.f c.args.g (sym c.in_default.ensures.kept) c.recall.ensures.pairs in
    let unkept : Keeps c.recall.new.memo c.nodes.result.0.name c.nodes.result.1.name → ⊥ = rw (c.nodes.ensures.left_name, c.nodes.ensures.right_name) absent in
    search rules
