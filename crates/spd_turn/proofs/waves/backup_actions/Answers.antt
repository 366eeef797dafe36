use Rattle.std.proofs.Common.{◌≡◌, ℕ, ◌+◌, ◌<◌, ◌≤◌, List, length, All, Some, None, IfErr, true, refl, sym, ap, ◌∙◌, subst, arith}
use Rattle.spd_model.proofs.CallerLemmas.Results.{err_is}
use Rattle.spd_nodes.specs.declared.forest.StoreFault.TheVariants as F
use Rattle.spd_nodes.specs.Grove.{shown_of}
use Rattle.spd_nodes.proofs.CallerLemmas.{grows-none, grows-then, has-none}
use Rattle.spd_backup.specs.Keeping.{HoldAll}
use Rattle.spd_turn.specs.Waves.{HaveRun, all_backups}
use Rattle.spd_turn.proofs.SplitLaws.{grows-keeps}
use Rattle.spd_turn.proofs.WaveLaws.{have-all, have-none, have-wave, ready-keeps}
use Rattle.spd_turn.proofs.waves.backup_actions.Goals as goal

pub returns-in-Err-clause-made : goal.returns-in-Err-clause-made
returns-in-Err-clause-made g c = λ m value can. has-none (shown_of c.args.grove.now) c.layout.ensures.sound (all_backups m value)

pub returns-in-Err-make_lanes-clause-made : goal.returns-in-Err-make_lanes-clause-made
returns-in-Err-make_lanes-clause-made g c = λ m value can. has-none (shown_of c.args.grove.now) c.layout.ensures.sound (all_backups m value)

pub loop-first-init : goal.loop-first-init
loop-first-init g c =
    let s = shown_of c.args.grove.now in
    let made = c.in-Ok-make_lanes.ensures in
    record {
      grows = grows-none s;
      sizes = refl;
      table = refl;
      shares_are = refl;
      splits = omega arith;
      within = omega arith;
      some = λ b. omega (arith, b, made.count, c.min.ensures, c.requires.workers);
      hold = subst (λ (sizes : List ℕ). All (HoldAll (length sizes) c.args.thawed.now.g s) c.in-Ok-make_lanes.lanes.items) c.deref.ensures.value (made.hold c.args.thawed.now.g s);
      count = omega (arith, ap length c.in-Ok.ensures.items);
      room = c.in-Ok.ensures.capacity;
      have = λ m value can. have-none m value s c.in-Ok.bounds.items c.layout.ensures.sound c.in-Ok.ensures.items;
    }

pub back_up_wave-requires-clause-ready : goal.back_up_wave-requires-clause-ready
back_up_wave-requires-clause-ready g c κs within = ready-keeps (grows-keeps c.loop-first.invariant.grows) c.requires.ready

pub returns-in_err-lanes-clause-made : goal.returns-in_err-lanes-clause-made
returns-in_err-lanes-clause-made g c = λ m value can.
    let run = have-wave (shown_of c.args.grove.now) (shown_of c.loop-first.grove) (shown_of c.back_up_wave.new.grove) c.args.thawed.now c.args.w c.loop-first.first (length c.truncate.new.self.items) c.loop-first.bounds.items c.back_up_wave.new.bounds.items
    (Some c.in_err-lanes.field-0.0) c.loop-first.invariant.grows c.in_err-lanes.ensures.have c.loop-first.invariant.have m value can in
    run.made

pub returns-in_err-lanes-clause-full : goal.returns-in_err-lanes-clause-full
returns-in_err-lanes-clause-full g c =
    let r = c.requires.ready in
    let run = have-wave (shown_of c.args.grove.now) (shown_of c.loop-first.grove) (shown_of c.back_up_wave.new.grove) c.args.thawed.now c.args.w c.loop-first.first (length c.truncate.new.self.items) c.loop-first.bounds.items c.back_up_wave.new.bounds.items
    (Some c.in_err-lanes.field-0.0) c.loop-first.invariant.grows c.in_err-lanes.ensures.have c.loop-first.invariant.have r.process r.value r.can in
    subst (λ r. IfErr r (λ e. e ≡ F.Full → c.back_up_wave.new.grove.seat.mind.ended ≡ true)) (sym (err_is c.from_residual.result c.in_err-lanes.field-0.0 c.from_residual.ensures.1)) (λ e. run.is_full (ap Some e))

pub loop-first-preserved : goal.loop-first-preserved
loop-first-preserved g c =
    let here = c.loop-first.invariant in
    let wave = c.in_ok-lanes.ensures in
    let longs : length c.loop-first.lanes.items ≡ c.loop-first.lanes.len = sym c.loop-first.lanes.ok.0 in
    let long : length c.truncate.new.self.items ≡ c.truncate.new.self.len = sym c.truncate.new.self.ok.0 in
    let counted : c.len-count.result ≡ length c.truncate.new.self.items = c.len-count.ensures ∙ c.truncate.new.self.ok.0 in
    let within : c.loop-first.first + c.len-count.result ≤ c.len-actions.result = omega (arith, here.within, counted, long, c.truncate.ensures.len, c.loop-first-test.true) in
    let some : 0 < length c.truncate.new.self.items = omega (arith, here.some c.loop-first-test.true, long, longs, c.truncate.ensures.len, c.loop-first-test.true) in
    record {
      grows = grows-then here.grows c.back_up_wave.ensures.grows;
      sizes = c.back_up_wave.ensures.sizes ∙ here.sizes;
      table = c.back_up_wave.ensures.table ∙ here.table;
      shares_are = c.back_up_wave.ensures.shares ∙ here.shares_are;
      splits = omega (arith, here.splits, wave.splits, counted);
      within = within;
      some = λ b. omega (arith, some, wave.count);
      hold = wave.tables;
      count = omega (arith, here.count, c.back_up_wave.ensures.bounds, counted);
      room = omega (arith, here.room, c.back_up_wave.ensures.room);
      have = λ m value can. subst (λ n. HaveRun m value (shown_of c.args.grove.now) (c.loop-first.first + n) (shown_of c.back_up_wave.new.grove) c.back_up_wave.new.bounds.items None) (sym counted)
          (have-wave (shown_of c.args.grove.now) (shown_of c.loop-first.grove) (shown_of c.back_up_wave.new.grove) c.args.thawed.now c.args.w c.loop-first.first (length c.truncate.new.self.items) c.loop-first.bounds.items c.back_up_wave.new.bounds.items None here.grows wave.have here.have m value can);
    }

pub returns-clause-ok : goal.returns-clause-ok
returns-clause-ok g c = λ m value can.
    have-all m value (shown_of c.args.grove.now) (shown_of c.loop-first.grove) c.args.thawed.now c.args.w c.loop-first.first c.loop-first.bounds.items can (omega (arith, c.loop-first-test.false, c.len-actions.ensures)) (c.loop-first.invariant.have m value can)
