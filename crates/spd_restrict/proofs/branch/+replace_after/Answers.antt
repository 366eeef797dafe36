use Rattle.std.proofs.Common.{rules, arith, ◌≡◌, suc, ◌+◌, ◌-◌, ◌∙◌}
use Rattle.spd_nodes.specs.Shown.{IsSound, MakesTree}
use Rattle.spd_nodes.specs.Trees.{join}
use Rattle.spd_apply.specs.Rules.{IsNodeAt}
use Rattle.spd_restrict.specs.Replaced.{CanReplace}
use Rattle.spd_restrict.proofs.ChosenLaws.{at-test, rest-can, rest-fails, level-then, can-then, test-then}
use Rattle.spd_restrict.proofs.branch.+replace_after.Goals as goal

pub test-requires-clause-level : goal.test-requires-clause-level
test-requires-clause-level g t c = (at-test c.args.before c.args.level (g.F.Forest.shows c.args.forest.now) c.requires.sound c.args.f c.args.g c.requires.left c.requires.right c.requires.can).level_in

pub overflow_add-level : goal.overflow_add-level
overflow_add-level g t c = let room = (at-test c.args.before c.args.level (g.F.Forest.shows c.args.forest.now) c.requires.sound c.args.f c.args.g c.requires.left c.requires.right c.requires.can).level_room in search rules

pub replace_after-requires : goal.replace_after-requires
replace_after-requires g t c κs within =
    let same = c.no_half-g_rest.ensures.same ∙ c.no_half-f_rest.ensures.same in
    let more : c.args.before ≡ suc (c.args.before - 1) = grind arith in
    let can : CanReplace (c.args.before - 1) (c.args.level.0 + 1) (g.F.Forest.shows c.no_half-g_rest.new.forest).sizes ((g.F.Forest.shows c.no_half-g_rest.new.forest).tree c.no_half-f_rest.result.name) ((g.F.Forest.shows c.no_half-g_rest.new.forest).tree c.no_half-g_rest.result.name) =
    rw (same, c.no_half-f_rest.ensures.name, c.no_half-g_rest.ensures.name) (rest-can c.args.before c.args.level (g.F.Forest.shows c.args.forest.now) c.requires.sound c.args.f c.args.g c.requires.left c.requires.right c.requires.can (c.args.before - 1) more) in
    let sound : IsSound (g.F.Forest.shows c.no_half-g_rest.new.forest) = rw same c.requires.sound in
    let left : IsNodeAt (g.F.Forest.shows c.no_half-g_rest.new.forest) c.no_half-f_rest.result = rw same c.no_half-f_rest.ensures.root in
    let right : IsNodeAt (g.F.Forest.shows c.no_half-g_rest.new.forest) c.no_half-g_rest.result = rw c.no_half-g_rest.ensures.same c.no_half-g_rest.ensures.root in
    search rules

pub returns-in_err-rest-clause-made : goal.returns-in_err-rest-clause-made
returns-in_err-rest-clause-made g t c =
    let same = c.no_half-g_rest.ensures.same ∙ c.no_half-f_rest.ensures.same in
    let more : c.args.before ≡ suc (c.args.before - 1) = grind arith in
    let below = rw (same, c.no_half-f_rest.ensures.name, c.no_half-g_rest.ensures.name) at c.in_err-rest.ensures.made in
    let made = rest-fails c.args.before c.args.level (g.F.Forest.shows c.args.forest.now) c.requires.sound c.args.f c.args.g c.requires.left c.requires.right c.requires.can (c.args.before - 1) more (g.F.Forest.shows c.replace_after.new.forest) c.in_err-rest.field-0.0 below in
    search rules

pub test-requires-2-clause-level : goal.test-requires-2-clause-level
test-requires-2-clause-level g t c =
    let same = c.no_half-g_rest.ensures.same ∙ c.no_half-f_rest.ensures.same in
    let more : c.args.before ≡ suc (c.args.before - 1) = grind arith in
    let made = rw (same, c.no_half-f_rest.ensures.name, c.no_half-g_rest.ensures.name) at c.in_ok-rest.ensures.made in
    level-then c.args.before c.args.level (g.F.Forest.shows c.args.forest.now) c.requires.sound c.args.f c.args.g c.requires.left c.requires.right c.requires.can (c.args.before - 1) more (g.F.Forest.shows c.replace_after.new.forest) c.in_ok-rest.rest made

pub test-requires-2-clause-fits : goal.test-requires-2-clause-fits
test-requires-2-clause-fits g t c =
    let same = c.no_half-g_rest.ensures.same ∙ c.no_half-f_rest.ensures.same in
    let more : c.args.before ≡ suc (c.args.before - 1) = grind arith in
    let made = rw (same, c.no_half-f_rest.ensures.name, c.no_half-g_rest.ensures.name) at c.in_ok-rest.ensures.made in
    rw c.halves-2.ensures.yes (can-then c.args.before c.args.level (g.F.Forest.shows c.args.forest.now) c.requires.sound c.args.f c.args.g c.requires.left c.requires.right c.requires.can (c.args.before - 1) more (g.F.Forest.shows c.replace_after.new.forest) c.in_ok-rest.rest made)

pub returns-clause-made : goal.returns-clause-made
returns-clause-made g t c =
    let same = c.no_half-g_rest.ensures.same ∙ c.no_half-f_rest.ensures.same in
    let more : c.args.before ≡ suc (c.args.before - 1) = grind arith in
    let made = rw (same, c.no_half-f_rest.ensures.name, c.no_half-g_rest.ensures.name) at c.in_ok-rest.ensures.made in
    let test : MakesTree (g.F.Forest.shows c.replace_after.new.forest) (g.F.Forest.shows c.test-2.new.self) (join c.args.level.0 ((g.F.Forest.shows c.replace_after.new.forest).tree c.halves-2.result.0) ((g.F.Forest.shows c.replace_after.new.forest).tree c.in_ok-rest.rest)) c.test-2.result =
    record { sound = c.test-2.ensures.sound; grows = c.test-2.ensures.grows; ok = c.test-2.ensures.ok; makes = c.test-2.ensures.makes; fault = c.test-2.ensures.fault } in
    let last = rw c.halves-2.ensures.yes at test in
    test-then c.args.before c.args.level (g.F.Forest.shows c.args.forest.now) c.requires.sound c.args.f c.args.g c.requires.left c.requires.right c.requires.can (c.args.before - 1) more (g.F.Forest.shows c.replace_after.new.forest) c.in_ok-rest.rest made (g.F.Forest.shows c.test-2.new.self) c.test-2.result last
