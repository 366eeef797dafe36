use Rattle.std.proofs.Common.{length, subst, sym}
use Rattle.std.proofs.lemmas.Result.{IfOk-weaker}
use Rattle.spd_lex.specs.Tokens.{AreApart}
use Rattle.spd_lex.proofs.TokenLaws.{tokens_of-AreApart}
use Rattle.spd_lex.proofs.lexer.tokens.Goals as goal

pub returns-clause-apart : goal.returns-clause-apart
returns-clause-apart c =
    IfOk-weaker c.all_tokens.result _ _ (λ v found. subst (AreApart 0 (length c.args.bytes.now)) (sym found.1) (tokens_of-AreApart c.args.bytes.now)) c.all_tokens.ensures.found
