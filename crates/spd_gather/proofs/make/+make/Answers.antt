use Rattle.std.proofs.Common.{ap, ◌*◌, ◌+◌, ◌<◌, rules}
use Rattle.spd_gather.specs.Lists.{IsListReady, rank_of}
use Rattle.spd_gather.proofs.ListSteps.{answer-made, yes-fails, no-ready, no-smaller, no-fails, can-test, test-made}
use Rattle.spd_gather.proofs.RowLaws.{rows-grow}
use Rattle.spd_gather.proofs.make.+make.Goals as goal

pub make_anew-returns-in_err-yes_made-in-Test-clause-made : goal.make_anew-returns-in_err-yes_made-in-Test-clause-made
make_anew-returns-in_err-yes_made-in-Test-clause-made g t c =
    let plan = rw c.in-Test.is at c.in-Ok.ensures.plan in
    let first = rw (c.as_slice-in-Test.ensures.value, c.plan.ensures.same) at c.in_err-yes_made-in-Test.ensures.made in
    let made = yes-fails (g.R.ListRule.making c.args.rule.now) (g.R.ListRule.may c.args.rule.now (g.F.Forest.shows c.args.forest.now).sizes) (g.F.Forest.shows c.args.forest.now) c.args.list.now c.in-Test.level.0 c.in-Test.yes.items c.in-Test.no.items plan
    (g.F.Forest.shows c.make_in.new.forest) c.in_err-yes_made-in-Test.field-0.0 first in
    search rules

pub make_anew-make_in-requires-in-Test : goal.make_anew-make_in-requires-in-Test
make_anew-make_in-requires-in-Test g t c κs within =
    let plan = rw c.in-Test.is at c.in-Ok.ensures.plan in
    let grows = rw c.plan.ensures.same at c.make_in.ensures.made.grows in
    let sizes = ap (λ z. g.R.ListRule.may c.args.rule.now z) grows.sizes in
    let smaller = no-smaller (g.R.ListRule.making c.args.rule.now) (g.R.ListRule.may c.args.rule.now (g.F.Forest.shows c.args.forest.now).sizes) (g.F.Forest.shows c.args.forest.now) c.args.list.now c.in-Test.level.0 c.in-Test.yes.items c.in-Test.no.items plan
    (g.F.Forest.shows c.make_in.new.forest) grows in
    let ready : IsListReady (g.R.ListRule.making c.args.rule.now) (g.R.ListRule.may c.args.rule.now (g.F.Forest.shows c.make_in.new.forest).sizes) (g.F.Forest.shows c.make_in.new.forest) c.as_slice-in-Test-2.result.now c.make_in.new.table =
    rw c.as_slice-in-Test-2.ensures.value (no-ready (g.R.ListRule.making c.args.rule.now) (g.R.ListRule.may c.args.rule.now (g.F.Forest.shows c.args.forest.now).sizes) (g.F.Forest.shows c.args.forest.now) c.args.list.now c.in-Test.level.0 c.in-Test.yes.items c.in-Test.no.items plan
    (g.F.Forest.shows c.make_in.new.forest) _ c.make_in.new.table c.make_in.ensures.made.sound grows c.make_in.ensures.table sizes) in
    let less : 2 * rank_of (g.F.Forest.shows c.make_in.new.forest) c.as_slice-in-Test-2.result.now + 1 < 2 * rank_of (g.F.Forest.shows c.args.forest.now) c.args.list.now = rw c.as_slice-in-Test-2.ensures.value smaller in
    search rules

pub make_anew-returns-in_err-no_made-in-Test-clause-made : goal.make_anew-returns-in_err-no_made-in-Test-clause-made
make_anew-returns-in_err-no_made-in-Test-clause-made g t c =
    let plan = rw c.in-Test.is at c.in-Ok.ensures.plan in
    let first = rw (c.as_slice-in-Test.ensures.value, c.plan.ensures.same) at c.in_ok-yes_made-in-Test.ensures.made in
    let second = rw c.as_slice-in-Test-2.ensures.value at c.in_err-no_made-in-Test.ensures.made in
    let made = no-fails (g.R.ListRule.making c.args.rule.now) (g.R.ListRule.may c.args.rule.now (g.F.Forest.shows c.args.forest.now).sizes) (g.F.Forest.shows c.args.forest.now) c.args.list.now c.in-Test.level.0 c.in-Test.yes.items c.in-Test.no.items plan
    (g.F.Forest.shows c.make_in.new.forest) c.in_ok-yes_made-in-Test.yes_made first (g.F.Forest.shows c.make_in-in-Test.new.forest) c.in_err-no_made-in-Test.field-0.0 second in
    search rules

pub make_anew-test-requires-clause-fits : goal.make_anew-test-requires-clause-fits
make_anew-test-requires-clause-fits g t c =
    let plan = rw c.in-Test.is at c.in-Ok.ensures.plan in
    let first = rw (c.as_slice-in-Test.ensures.value, c.plan.ensures.same) at c.in_ok-yes_made-in-Test.ensures.made in
    let second = rw c.as_slice-in-Test-2.ensures.value at c.in_ok-no_made-in-Test.ensures.made in
    can-test (g.R.ListRule.making c.args.rule.now) (g.R.ListRule.may c.args.rule.now (g.F.Forest.shows c.args.forest.now).sizes) (g.F.Forest.shows c.args.forest.now) c.args.list.now c.in-Test.level.0 c.in-Test.yes.items c.in-Test.no.items plan
    (g.F.Forest.shows c.make_in.new.forest) c.in_ok-yes_made-in-Test.yes_made first (g.F.Forest.shows c.make_in-in-Test.new.forest) c.in_ok-no_made-in-Test.no_made second

pub make_anew-returns-in_ok-no_made-in-Test-clause-made : goal.make_anew-returns-in_ok-no_made-in-Test-clause-made
make_anew-returns-in_ok-no_made-in-Test-clause-made g t c =
    let plan = rw c.in-Test.is at c.in-Ok.ensures.plan in
    let first = rw (c.as_slice-in-Test.ensures.value, c.plan.ensures.same) at c.in_ok-yes_made-in-Test.ensures.made in
    let second = rw c.as_slice-in-Test-2.ensures.value at c.in_ok-no_made-in-Test.ensures.made in
    test-made (g.R.ListRule.making c.args.rule.now) (g.R.ListRule.may c.args.rule.now (g.F.Forest.shows c.args.forest.now).sizes) (g.F.Forest.shows c.args.forest.now) c.args.list.now c.in-Test.level.0 c.in-Test.yes.items c.in-Test.no.items plan
    (g.F.Forest.shows c.make_in.new.forest) c.in_ok-yes_made-in-Test.yes_made first (g.F.Forest.shows c.make_in-in-Test.new.forest) c.in_ok-no_made-in-Test.no_made second
    (g.F.Forest.shows c.test.new.self) c.test.result
    (record { sound = c.test.ensures.sound; grows = c.test.ensures.grows; ok = c.test.ensures.ok; makes = c.test.ensures.makes; fault = c.test.ensures.fault })

pub make_anew-returns-in-Bottom-clause-table : goal.make_anew-returns-in-Bottom-clause-table
make_anew-returns-in-Bottom-clause-table g t c = rows-grow c.requires.table (rw c.plan.ensures.same at c.bottom.ensures.made.grows)

pub make_anew-returns-in_ok-no_made-in-Test-clause-table : goal.make_anew-returns-in_ok-no_made-in-Test-clause-table
make_anew-returns-in_ok-no_made-in-Test-clause-table g t c = rows-grow c.make_in-in-Test.ensures.table c.test.ensures.grows

pub make_in-keep-requires-clause-answer : goal.make_in-keep-requires-clause-answer
make_in-keep-requires-clause-answer g t c =
    answer-made (g.R.ListRule.making c.args.rule.now) (g.F.Forest.shows c.args.forest.now) (g.F.Forest.shows c.make_anew.new.forest) c.args.list.now c.in_ok-r.r c.requires.met.known (rw c.known.ensures.same at c.in_ok-r.ensures.made)
