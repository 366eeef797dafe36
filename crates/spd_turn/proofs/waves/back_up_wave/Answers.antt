use Rattle.std.proofs.Common.{◌-◌, length, All, drop, Some, None, sym, ap, ◌∙◌, subst, refl}
use Rattle.std.proofs.lemmas.List.Elements.{All-nil}
use Rattle.spd_model.proofs.CallerLemmas.Results.{err_is}
use Rattle.spd_nodes.specs.Grove.{shown_of}
use Rattle.spd_nodes.specs.Shown.{Grows}
use Rattle.spd_nodes.proofs.CallerLemmas.{grows-none}
use Rattle.spd_turn.specs.Jobs.{HoldFor}
use Rattle.spd_turn.specs.Waves.{fault_in}
use Rattle.spd_turn.proofs.WaveLaws.{table-kept, wave-ran, wave-length, wave-jobs, wave-thawed, wave-have}
use Rattle.spd_turn.proofs.waves.back_up_wave.Goals as goal

pub returns-in-Err-deal-clause-grows : goal.returns-in-Err-deal-clause-grows
returns-in-Err-deal-clause-grows g c = subst (Grows (shown_of c.args.grove.now)) (sym c.deal.ensures.shows) (grows-none (shown_of c.args.grove.now))

pub gather-requires-clause-jobs : goal.gather-requires-clause-jobs
gather-requires-clause-jobs g c =
    let old = c.args.grove.now in
    let table = table-kept c.deal.new.grove old (old.seat.mind.splits - length c.args.lanes.items) c.in-Ok-deal.ensures.ok in
    let ran = wave-ran old.seat.table (shown_of old) c.args.thawed.now c.args.w c.args.first c.in-Ok-deal.jobs.items c.as_mut_slice.result.now c.run_jobs.new.jobs (drop (length c.run_jobs.new.jobs) c.in-Ok-deal.jobs.items) c.in-Ok-deal.jobs.len
    c.as_mut_slice.ensures.value c.in-Ok-deal.jobs.ok.0 c.run_jobs.ensures.length c.run_jobs.ensures.ran c.in-Ok-deal.ensures.dealt in
    wave-jobs old.seat.table (shown_of old) c.args.thawed.now c.args.w c.args.first _ c.deal.new.grove.seat.table c.deal.new.grove.sizes table c.deal.ensures.sizes ran

pub returns-in_err-gather-clause-have : goal.returns-in_err-gather-clause-have
returns-in_err-gather-clause-have g c =
    let old = c.args.grove.now in
    let table = table-kept c.deal.new.grove old (old.seat.mind.splits - length c.args.lanes.items) c.in-Ok-deal.ensures.ok in
    let rest = drop (length c.run_jobs.new.jobs) c.in-Ok-deal.jobs.items in
    let ran = wave-ran old.seat.table (shown_of old) c.args.thawed.now c.args.w c.args.first c.in-Ok-deal.jobs.items c.as_mut_slice.result.now c.run_jobs.new.jobs rest c.in-Ok-deal.jobs.len
    c.as_mut_slice.ensures.value c.in-Ok-deal.jobs.ok.0 c.run_jobs.ensures.length c.run_jobs.ensures.ran c.in-Ok-deal.ensures.dealt in
    let long = wave-length old.seat.table (shown_of old) c.args.thawed.now c.args.w c.args.first c.in-Ok-deal.jobs.items c.as_mut_slice.result.now c.run_jobs.new.jobs rest c.in-Ok-deal.jobs.len
    c.as_mut_slice.ensures.value c.in-Ok-deal.jobs.ok.0 c.run_jobs.ensures.length c.run_jobs.ensures.ran c.in-Ok-deal.ensures.dealt in
    let same = ap fault_in (err_is c.from_residual.result c.in_err-gather.field-0.0 c.from_residual.ensures.1) in
    wave-have old c.deal.new.grove c.gather.new.grove c.in-Ok.next.items c.gather.new.lanes.items c.args.bounds.now.items c.gather.new.bounds.items _ (fault_in c.from_residual.result) (Some c.in_err-gather.field-0.0) c.args.thawed.now c.args.w c.args.first (length c.args.lanes.items)
    c.in_err-gather.ensures.gathered table c.deal.ensures.shows (long ∙ c.in-Ok-deal.ensures.count) same c.requires.actions ran

pub returns-clause-tables : goal.returns-clause-tables
returns-clause-tables g c =
    let old = c.args.grove.now in
    let x = c.args.thawed.now in
    let ran = wave-ran old.seat.table (shown_of old) x c.args.w c.args.first c.in-Ok-deal.jobs.items c.as_mut_slice.result.now c.run_jobs.new.jobs (drop (length c.run_jobs.new.jobs) c.in-Ok-deal.jobs.items) c.in-Ok-deal.jobs.len
    c.as_mut_slice.ensures.value c.in-Ok-deal.jobs.ok.0 c.run_jobs.ensures.length c.run_jobs.ensures.ran c.in-Ok-deal.ensures.dealt in
    let none = subst (All (HoldFor x (shown_of c.deal.new.grove))) (sym c.in-Ok.ensures.items) (All-nil (HoldFor x (shown_of c.deal.new.grove))) in
    c.in_ok-gather.ensures.gathered.hold x none (wave-thawed old.seat.table (shown_of old) x c.args.w c.args.first _ ran)

pub returns-clause-have : goal.returns-clause-have
returns-clause-have g c =
    let old = c.args.grove.now in
    let table = table-kept c.deal.new.grove old (old.seat.mind.splits - length c.args.lanes.items) c.in-Ok-deal.ensures.ok in
    let rest = drop (length c.run_jobs.new.jobs) c.in-Ok-deal.jobs.items in
    let ran = wave-ran old.seat.table (shown_of old) c.args.thawed.now c.args.w c.args.first c.in-Ok-deal.jobs.items c.as_mut_slice.result.now c.run_jobs.new.jobs rest c.in-Ok-deal.jobs.len
    c.as_mut_slice.ensures.value c.in-Ok-deal.jobs.ok.0 c.run_jobs.ensures.length c.run_jobs.ensures.ran c.in-Ok-deal.ensures.dealt in
    let long = wave-length old.seat.table (shown_of old) c.args.thawed.now c.args.w c.args.first c.in-Ok-deal.jobs.items c.as_mut_slice.result.now c.run_jobs.new.jobs rest c.in-Ok-deal.jobs.len
    c.as_mut_slice.ensures.value c.in-Ok-deal.jobs.ok.0 c.run_jobs.ensures.length c.run_jobs.ensures.ran c.in-Ok-deal.ensures.dealt in
    wave-have old c.deal.new.grove c.gather.new.grove c.in-Ok.next.items c.gather.new.lanes.items c.args.bounds.now.items c.gather.new.bounds.items _ None None c.args.thawed.now c.args.w c.args.first (length c.args.lanes.items)
    c.in_ok-gather.ensures.gathered table c.deal.ensures.shows (long ∙ c.in-Ok-deal.ensures.count) refl c.requires.actions ran
