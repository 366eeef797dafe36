use Rattle.spd_solver.specs.Run.{seen}
use Rattle.spd_solver.specs.inner.Stages.{command_for}
use Rattle.spd_solver.proofs.RunLaws.{headline, means, completes, tells, runs, wrong}
use Rattle.spd_solver.proofs.run.solve_run.Goals as goal

pub returns-in-Ok-clause-headline : goal.returns-in-Ok-clause-headline
returns-in-Ok-clause-headline g c =
    headline c.args.words.now (command_for c.in-Ok.job) c.run_job.result c.ended.result
    (seen g.P.Place.inputs g.K.Sink.taken g.K.Sink.faults c.args.place.now c.args.out.now) (seen g.P.Place.inputs g.K.Sink.taken g.K.Sink.faults c.run_job.new.place c.run_job.new.out)
    c.ended.ensures c.in-Ok.ensures.job c.run_job.ensures.answers

pub returns-in-Ok-clause-means : goal.returns-in-Ok-clause-means
returns-in-Ok-clause-means g c =
    means c.args.words.now (command_for c.in-Ok.job) c.run_job.result c.ended.result
    (seen g.P.Place.inputs g.K.Sink.taken g.K.Sink.faults c.args.place.now c.args.out.now) (seen g.P.Place.inputs g.K.Sink.taken g.K.Sink.faults c.run_job.new.place c.run_job.new.out)
    c.ended.ensures c.in-Ok.ensures.job c.run_job.ensures.answers

pub returns-in-Ok-clause-complete : goal.returns-in-Ok-clause-complete
returns-in-Ok-clause-complete g c =
    completes c.args.words.now (command_for c.in-Ok.job) c.run_job.result c.ended.result
    (seen g.P.Place.inputs g.K.Sink.taken g.K.Sink.faults c.args.place.now c.args.out.now) (seen g.P.Place.inputs g.K.Sink.taken g.K.Sink.faults c.run_job.new.place c.run_job.new.out)
    c.ended.ensures c.in-Ok.ensures.job c.run_job.ensures.answers

pub returns-in-Ok-clause-refused : goal.returns-in-Ok-clause-refused
returns-in-Ok-clause-refused g c =
    tells c.args.words.now (command_for c.in-Ok.job) c.run_job.result c.ended.result
    (seen g.P.Place.inputs g.K.Sink.taken g.K.Sink.faults c.args.place.now c.args.out.now) (seen g.P.Place.inputs g.K.Sink.taken g.K.Sink.faults c.run_job.new.place c.run_job.new.out)
    c.ended.ensures c.in-Ok.ensures.job c.run_job.ensures.answers

pub returns-in-Ok-clause-usage : goal.returns-in-Ok-clause-usage
returns-in-Ok-clause-usage g c =
    runs c.args.words.now (command_for c.in-Ok.job) c.run_job.result c.ended.result
    (seen g.P.Place.inputs g.K.Sink.taken g.K.Sink.faults c.args.place.now c.args.out.now) (seen g.P.Place.inputs g.K.Sink.taken g.K.Sink.faults c.run_job.new.place c.run_job.new.out)
    c.ended.ensures c.in-Ok.ensures.job c.run_job.ensures.answers

pub returns-in-Ok-clause-idle : goal.returns-in-Ok-clause-idle
returns-in-Ok-clause-idle g c = λ word wrong. absurd (c.in-Ok.ensures.job.right word wrong)

pub returns-in-Ok-clause-asked : goal.returns-in-Ok-clause-asked
returns-in-Ok-clause-asked g c = λ name not.
    let job = c.in-Ok.ensures.job in
    c.run_job.ensures.asked name (λ is. not (command_for c.in-Ok.job) job.asked is)

pub returns-in-Err-clause-headline : goal.returns-in-Err-clause-headline
returns-in-Err-clause-headline g c = λ command asked. absurd (c.in-Err.ensures.usage.nothing command asked)

pub returns-in-Err-clause-means : goal.returns-in-Err-clause-means
returns-in-Err-clause-means g c = λ command asked. absurd (c.in-Err.ensures.usage.nothing command asked)

pub returns-in-Err-clause-complete : goal.returns-in-Err-clause-complete
returns-in-Err-clause-complete g c = λ command asked. absurd (c.in-Err.ensures.usage.nothing command asked)

pub returns-in-Err-clause-refused : goal.returns-in-Err-clause-refused
returns-in-Err-clause-refused g c = λ command asked. absurd (c.in-Err.ensures.usage.nothing command asked)

pub returns-in-Err-clause-usage : goal.returns-in-Err-clause-usage
returns-in-Err-clause-usage g c = wrong c.args.words.now c.in-Err.word c.in-Err.ensures.usage
