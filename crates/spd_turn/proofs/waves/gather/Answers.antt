use Rattle.std.proofs.Common.{◌≡◌, List, [], ◌∷◌, ◌++◌, Option, length, sym, ap, ◌∙◌, subst}
use Rattle.std.specs.Vec.Iter.{into_iter_len}
use Rattle.std.proofs.lemmas.Iterator.Adapters.{YieldsList-from_vec}
use Rattle.std.proofs.lemmas.Iterator.Consumers.{YieldsList-turn}
use Rattle.spd_nodes.specs.declared.forest.StoreFault.{StoreFault}
use Rattle.spd_backup.specs.declared.backing.Bounds.{Bounds}
use Rattle.spd_backup.specs.declared.tables.Tables.{Tables}
use Rattle.spd_turn.specs.Waves.{Gathered, IsJobOf, first_fault, with_bounds}
use Rattle.spd_turn.proofs.WaveLaws.{gathered-more}
use Rattle.spd_turn.proofs.waves.gather.Goals as goal

pub loop-job-preserved : goal.loop-job-preserved
loop-job-preserved c =
    let gives = c.into_iter-job-iterator.ensures.into_iter_gives in
    let long : into_iter_len c.into_iter-job-iterator.result ≡ length c.args.jobs.items = gives.1 ∙ c.args.jobs.ok.0 in
    let list = YieldsList-from_vec {s = c.into_iter-job-iterator.result} c.args.jobs.items gives.0 long in
    let turn = YieldsList-turn list c.loop-job.yielded c.loop-job.job-iterator c.loop-job.yielded_by c.next.result c.next.new.self c.in-Some.job c.in-Some.is c.next.ensures.steps in
    let g = c.args.grove.now in
    let place : IsJobOf g.seat.table g.sizes c.in-Some.job = subst (IsJobOf g.seat.table g.sizes) (sym turn.1) (c.requires.jobs (length c.loop-job.yielded) c.in-Some.job turn.0) in
    let more = gathered-more g c.args.lanes.now.items c.args.bounds.now.items c.loop-job.yielded c.loop-job.grove c.loop-job.lanes.items c.loop-job.bounds.items c.loop-job.fault c.in-Some.job c.join_job-tables.new.grove
    c.loop-job.invariant.gathered place c.join_job-tables.ensures.joins c.join_job-tables.ensures.sound c.join_job-tables.ensures.sizes c.join_job-tables.ensures.hold in
    let outcome = c.join_job-tables.ensures.outcome in
    let lanes : c.push_reserved.new.self.items ≡ c.loop-job.lanes.items ++ c.in-Some.job.tables ∷ [] = c.push_reserved.ensures.items ∙ ap (λ (t : Tables). c.loop-job.lanes.items ++ t ∷ []) c.join_job-tables.ensures.tables in
    let bounds : c.noted-fault.new.bounds.items ≡ with_bounds c.loop-job.bounds.items c.in-Some.job.outcome = c.noted-fault.ensures.bounds ∙ ap (with_bounds c.loop-job.bounds.items) outcome in
    let fault : c.noted-fault.result ≡ first_fault c.loop-job.fault c.in-Some.job.outcome = c.noted-fault.ensures.fault ∙ ap (first_fault c.loop-job.fault) outcome in
    record {
      gathered = subst (λ (p : List Tables × List Bounds × Option StoreFault). Gathered g c.args.lanes.now.items c.args.bounds.now.items (c.loop-job.yielded ++ c.in-Some.job ∷ []) c.join_job-tables.new.grove p.0 p.1 p.2) (sym (λ i. (lanes i, bounds i, fault i))) more;
      lanes_cap = c.push_reserved.ensures.capacity ∙ c.loop-job.invariant.lanes_cap;
      bounds_cap = c.noted-fault.ensures.room ∙ c.loop-job.invariant.bounds_cap;
    }
