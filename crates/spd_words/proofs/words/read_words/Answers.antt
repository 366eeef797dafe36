use Rattle.spd_words.proofs.CallerLemmas.Grammar.{command_answered, usage_answered}
use Rattle.std.proofs.lemmas.Result.{IfOk-weaker}
use Rattle.spd_words.proofs.Sizes.{command_within}
use Rattle.spd_words.specs.Commands.{IsCommand, IsWithinLimits}
use Rattle.spd_words.proofs.words.read_words.Goals as goal

pub returns-clause-every_command : goal.returns-clause-every_command
returns-clause-every_command c = command_answered c.args.words.now c.command_of.result c.command_of.ensures.command c.command_of.ensures.usage

pub returns-clause-every_usage : goal.returns-clause-every_usage
returns-clause-every_usage c = usage_answered c.args.words.now c.command_of.result c.command_of.ensures.command c.command_of.ensures.usage

pub returns-clause-limits : goal.returns-clause-limits
returns-clause-limits c = IfOk-weaker c.command_of.result (IsCommand c.args.words.now) IsWithinLimits (command_within c.args.words.now) c.command_of.ensures.command
