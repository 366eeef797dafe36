use Rattle.spd_lex.proofs.TokenLaws.{begin_word-none, begin_word-some}
use Rattle.spd_lex.proofs.lexer.Lexer.begin_word.Goals as goal

pub returns-then-is_none-clause-told : goal.returns-then-is_none-clause-told
returns-then-is_none-clause-told c ts = begin_word-none c.args.at ts c.args.self.now.word c.if-is_none.ensures

pub returns-else-is_none-clause-told : goal.returns-else-is_none-clause-told
returns-else-is_none-clause-told c ts = begin_word-some c.args.at ts c.args.self.now.word c.if-is_none.ensures
