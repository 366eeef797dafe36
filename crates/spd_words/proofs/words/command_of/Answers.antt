use Rattle.std.proofs.Common.{◌∙◌, ap, sym}
use Rattle.spd_words.specs.Verbs.{verb_named}
use Rattle.spd_words.proofs.Judged.{err_exit}
use Rattle.spd_words.proofs.CallerLemmas.Grammar.{command_is, fault_is}
use Rattle.spd_words.proofs.words.command_of.Goals as goal

pub returns-in_err-said-clause-usage : goal.returns-in_err-said-clause-usage
returns-in_err-said-clause-usage c =
    let words = c.args.words.now in
    err_exit _ c.from_residual.result c.in_err-said.field-0.0 c.from_residual.ensures.1
    (fault_is words c.first-item.result c.in-Some.verb c.in_err-said.field-0.0 c.in-len1-up.len_at_least c.first-item.is
    (ap verb_named (sym c.as_slice.ensures) ∙ sym c.verb_named.ensures ∙ c.in-Some.is) c.in_err-said.ensures)

pub returns-clause-command : goal.returns-clause-command
returns-clause-command c =
    let words = c.args.words.now in
    command_is words c.first-item.result c.in-Some.verb c.in_ok-said.said c.command_from.result c.in-len1-up.len_at_least c.first-item.is
    (ap verb_named (sym c.as_slice.ensures) ∙ sym c.verb_named.ensures ∙ c.in-Some.is) c.in_ok-said.ensures c.command_from.ensures
