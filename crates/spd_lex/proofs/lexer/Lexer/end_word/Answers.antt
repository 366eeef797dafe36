use Rattle.spd_lex.proofs.TokenLaws.{end_word-some}
use Rattle.spd_lex.proofs.lexer.Lexer.end_word.Goals as goal

pub returns-in_ok-push-clause-told : goal.returns-in_ok-push-clause-told
returns-in_ok-push-clause-told c ts apart =
    end_word-some c.args.self.now.tokens.items c.push.new.self.items ts c.args.self.now.word _ c.args.at c.in-Some.is c.in_ok-push.ensures.items apart
