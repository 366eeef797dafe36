use Rattle.std.proofs.Common.{◌∙◌, ap, sym}
use Rattle.spd_words.specs.declared.verb.Verb.{Verb}
use Rattle.spd_words.specs.Commands.{command_from}
use Rattle.spd_words.proofs.words.command_from.Goals as goal

pub returns-in-Ask : goal.returns-in-Ask
returns-in-Ask c =
    c.ask.ensures c.args.words.now ∙ ap (λ (v : Verb). command_from c.args.words.now v c.args.said.now.operands c.args.said.now.given) (sym c.in-Ask.is)

pub returns-in-Evaluate : goal.returns-in-Evaluate
returns-in-Evaluate c =
    c.evaluate.ensures c.args.words.now ∙ ap (λ (v : Verb). command_from c.args.words.now v c.args.said.now.operands c.args.said.now.given) (sym c.in-Evaluate.is)
