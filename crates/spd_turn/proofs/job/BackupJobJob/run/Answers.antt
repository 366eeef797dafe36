use Rattle.std.proofs.Common.{refl, subst}
use Rattle.spd_turn.specs.Jobs.{JobValue, RunsBackup}
use Rattle.spd_turn.proofs.JobLaws.{job-runs, job-ready}
use Rattle.spd_turn.proofs.job.BackupJobJob.run.Goals as goal

-- the job before its run, and after it
abbrev before : goal.After-self-1 → JobValue
before c = record { grove = c.self.inside.grove; thawed = c.self.inside.thawed.now; w = c.self.inside.w; action = c.self.inside.action; tables = c.self.inside.tables; outcome = c.self.inside.outcome }

abbrev after : goal.After-self-1 → JobValue
after c = record { grove = c.back_up-self-inside.new.forest; thawed = c.self.inside.thawed.now; w = c.self.inside.w; action = c.self.inside.action; tables = c.back_up-self-inside.new.tables; outcome = c.back_up-self-inside.result }

pub invariant_of-self : goal.invariant_of-self
invariant_of-self c = job-ready (before c) (after c) c.self.invariant c.back_up-self-inside.ensures.made refl refl refl c.back_up-self-inside.ensures.tables

pub returns : goal.returns
returns c = subst (λ (j : JobValue). RunsBackup j (after c)) c.self.view_is
    (job-runs (before c) (after c) c.self.invariant c.back_up-self-inside.ensures.made c.back_up-self-inside.ensures.keeps refl refl refl)
