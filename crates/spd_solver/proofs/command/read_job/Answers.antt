use Rattle.std.proofs.Common.{sym, subst, ◌∙◌}
use Rattle.spd_words.specs.Commands.{IsCommand, IsWithinLimits}
use Rattle.spd_words.proofs.CallerLemmas.Names.{check_names, upgrade_names}
use Rattle.spd_solver.proofs.command.read_job.Goals as goal

pub returns-in-Ok-Check-clause-limits : goal.returns-in-Ok-Check-clause-limits
returns-in-Ok-Check-clause-limits c =
    let words = c.args.words.now in
    let found = c.in-Ok-Check in (
      subst IsWithinLimits found.field-0-is found.ensures.limits,
      λ same. check_names words found.file found.cert found.options (subst (IsCommand words) found.field-0-is found.ensures.command)
          (sym c.text_at-in-Ok-Check.ensures ∙ same ∙ c.text_at-in-Ok-Check-2.ensures),
    )

pub returns-in-Ok-Upgrade-clause-limits : goal.returns-in-Ok-Upgrade-clause-limits
returns-in-Ok-Upgrade-clause-limits c =
    let words = c.args.words.now in
    let found = c.in-Ok-Upgrade in (
      subst IsWithinLimits found.field-0-is found.ensures.limits,
      λ same. upgrade_names words found.file found.cert found.options (subst (IsCommand words) found.field-0-is found.ensures.command)
          (sym c.text_at-in-Ok-Upgrade.ensures ∙ same ∙ c.text_at-in-Ok-Upgrade-2.ensures),
    )
