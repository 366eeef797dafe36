use Rattle.std.proofs.Common.{◌≡◌, ◌+◌, ◌++◌, length}
use Rattle.spd_lex.specs.Tokens.{tokens_from, bad_from, blanked, tokens_of, bad_byte}
use Rattle.spd_lex.specs.Lexing.{opened}
use Rattle.spd_lex.proofs.lexer.all_tokens.Given as goal

-- the tokens so far and those of what is left are those of the file
abbrev pub invariant-loop-rest : goal.invariant-loop-rest
invariant-loop-rest l =
    record {
      told : l.lexer.tokens.items ++ opened l.lexer.word l.at (tokens_from l.at (blanked l.comment l.rest)) ≡ tokens_of l.bytes;
      bad : bad_from l.at (blanked l.comment l.rest) ≡ bad_byte l.bytes;
      place : l.at + length l.rest ≡ length l.bytes;
    }

abbrev pub decreases-loop-rest : goal.decreases-loop-rest
decreases-loop-rest l = length l.rest
