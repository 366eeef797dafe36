use Rattle.std.proofs.Common.{◌+◌, ◌<◌, ◌∙◌, length, refl, sym, subst, arith}
use Rattle.spd_model.proofs.CallerLemmas.Results.{err_is}
use Rattle.spd_turn.specs.Backups.{BacksUpAll, HaveBackedUp}
use Rattle.spd_turn.proofs.BackupLaws.{all-backed, backed-more, backup-fails, can-then, chosen, count-actions, has-action, is-thawed, push-fails}
use Rattle.spd_turn.proofs.backups.backup_all.Goals as goal

pub overflow_cast-action : goal.overflow_cast-action
overflow_cast-action g c =
    let s = g.F.Forest.shows c.args.forest.now in
    let x = c.args.thawed.now in
    let i = c.loop-action.action in
    let ready = c.requires.ready in
    let near : i < length x.rewards.items = omega (arith, c.loop-action-test.true) in
    omega (arith, near, count-actions ready.process ready.value s x c.args.w ready.can, ready.can.thawed.law.few_actions)

pub backup_with-requires-clause-thawed : goal.backup_with-requires-clause-thawed
backup_with-requires-clause-thawed g c =
    let s = g.F.Forest.shows c.args.forest.now in
    let t = g.F.Forest.shows c.loop-action.forest in
    let x = c.args.thawed.now in
    let i = c.loop-action.action in
    let bs = c.loop-action.all.items in
    let ready = c.requires.ready in
    let first = c.loop-action.invariant.backed ready.process ready.value ready.can in
    let near : i < length x.rewards.items = omega (arith, c.loop-action-test.true) in
    is-thawed ready.process ready.value s x c.args.w ready.can i t bs first near

pub backup_with-requires-clause-known : goal.backup_with-requires-clause-known
backup_with-requires-clause-known g c =
    let s = g.F.Forest.shows c.args.forest.now in
    let t = g.F.Forest.shows c.loop-action.forest in
    let x = c.args.thawed.now in
    let i = c.loop-action.action in
    let bs = c.loop-action.all.items in
    let ready = c.requires.ready in
    let first = c.loop-action.invariant.backed ready.process ready.value ready.can in
    (can-then ready.process ready.value s x c.args.w ready.can i t bs first).known

pub backup_with-requires-clause-whole : goal.backup_with-requires-clause-whole
backup_with-requires-clause-whole g c =
    let s = g.F.Forest.shows c.args.forest.now in
    let t = g.F.Forest.shows c.loop-action.forest in
    let x = c.args.thawed.now in
    let i = c.loop-action.action in
    let bs = c.loop-action.all.items in
    let ready = c.requires.ready in
    let first = c.loop-action.invariant.backed ready.process ready.value ready.can in
    (can-then ready.process ready.value s x c.args.w ready.can i t bs first).whole

pub backup_with-requires-clause-plain : goal.backup_with-requires-clause-plain
backup_with-requires-clause-plain g c =
    let s = g.F.Forest.shows c.args.forest.now in
    let t = g.F.Forest.shows c.loop-action.forest in
    let x = c.args.thawed.now in
    let i = c.loop-action.action in
    let bs = c.loop-action.all.items in
    let ready = c.requires.ready in
    let first = c.loop-action.invariant.backed ready.process ready.value ready.can in
    (can-then ready.process ready.value s x c.args.w ready.can i t bs first).plain

pub backup_with-requires-clause-values : goal.backup_with-requires-clause-values
backup_with-requires-clause-values g c =
    let s = g.F.Forest.shows c.args.forest.now in
    let t = g.F.Forest.shows c.loop-action.forest in
    let x = c.args.thawed.now in
    let i = c.loop-action.action in
    let bs = c.loop-action.all.items in
    let ready = c.requires.ready in
    let first = c.loop-action.invariant.backed ready.process ready.value ready.can in
    (can-then ready.process ready.value s x c.args.w ready.can i t bs first).values

pub returns-in_err-bounds-clause-made : goal.returns-in_err-bounds-clause-made
returns-in_err-bounds-clause-made g c = λ m value can.
    let s = g.F.Forest.shows c.args.forest.now in
    let t = g.F.Forest.shows c.loop-action.forest in
    let x = c.args.thawed.now in
    let i = c.loop-action.action in
    let bs = c.loop-action.all.items in
    let v = g.F.Forest.shows c.backup_with.new.forest in
    let here = c.loop-action.invariant.backed m value can in
    let near : i < length x.rewards.items = omega (arith, c.loop-action-test.true) in
    subst (BacksUpAll m value s v) (sym (err_is c.from_residual.result c.in_err-bounds.field-0.0 c.from_residual.ensures.1))
    (backup-fails m value s x c.args.w can i t bs here near v c.in_err-bounds.field-0.0 (c.in_err-bounds.ensures.made m (chosen m value s x c.args.w can i t bs here near).0 value (has-action m value s x c.args.w can i t bs here near) (can-then m value s x c.args.w can i t bs here).numbers))

pub returns-in_err-push-clause-made : goal.returns-in_err-push-clause-made
returns-in_err-push-clause-made g c = λ m value can.
    let s = g.F.Forest.shows c.args.forest.now in
    let t = g.F.Forest.shows c.loop-action.forest in
    let x = c.args.thawed.now in
    let i = c.loop-action.action in
    let bs = c.loop-action.all.items in
    let v = g.F.Forest.shows c.backup_with.new.forest in
    let here = c.loop-action.invariant.backed m value can in
    let near : i < length x.rewards.items = omega (arith, c.loop-action-test.true) in
    subst (BacksUpAll m value s v) (sym (err_is c.from_residual-in_err-push.result c.in_err-push.field-0.0 c.from_residual-in_err-push.ensures.1))
    (push-fails m value s x c.args.w can i t bs here near v c.in_ok-bounds.bounds c.in_err-push.field-0.0 c.in_err-push.ensures.memory (c.in_ok-bounds.ensures.made m (chosen m value s x c.args.w can i t bs here near).0 value (has-action m value s x c.args.w can i t bs here near) (can-then m value s x c.args.w can i t bs here).numbers))

pub loop-action-preserved : goal.loop-action-preserved
loop-action-preserved g c =
    let s = g.F.Forest.shows c.args.forest.now in
    let t = g.F.Forest.shows c.loop-action.forest in
    let x = c.args.thawed.now in
    let i = c.loop-action.action in
    let bs = c.loop-action.all.items in
    let v = g.F.Forest.shows c.backup_with.new.forest in
    let near : i < length x.rewards.items = omega (arith, c.loop-action-test.true) in
    record {
      backed = λ m value can.
          let here = c.loop-action.invariant.backed m value can in
          subst (HaveBackedUp m value s (i + 1) v) (sym c.in_ok-push.ensures.items) (backed-more m value s x c.args.w can i t bs here near v c.in_ok-bounds.bounds (c.in_ok-bounds.ensures.made m (chosen m value s x c.args.w can i t bs here near).0 value (has-action m value s x c.args.w can i t bs here near) (can-then m value s x c.args.w can i t bs here).numbers));
      tables = c.backup_with.ensures.tables;
      keeps = c.backup_with.ensures.keeps ∙ c.loop-action.invariant.keeps;
    }

pub returns-clause-made : goal.returns-clause-made
returns-clause-made g c = λ m value can.
    let s = g.F.Forest.shows c.args.forest.now in
    let t = g.F.Forest.shows c.loop-action.forest in
    let x = c.args.thawed.now in
    let i = c.loop-action.action in
    let bs = c.loop-action.all.items in
    let here = c.loop-action.invariant.backed m value can in
    all-backed m value s x c.args.w can i t bs here (omega (arith, c.loop-action-test.false)) c.loop-action.all refl
