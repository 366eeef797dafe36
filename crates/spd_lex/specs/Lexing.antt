-- What the lexer knows on its way, and what it answers.
use Rattle.std.specs.Prelude.{ℕ, ◌≡◌, false, List, [], ◌∷◌, Option, Some, None, ◌==◌, ◌&&◌}
use Rattle.spd_lex.specs.declared.token.Token.{Token}
use Rattle.spd_lex.specs.declared.lexer.Lex.{Lex}
use Rattle.spd_lex.specs.declared.lexer.Lex.TheVariants.{BadByte, Memory}
use Rattle.spd_lex.specs.Tokens.{is_word, with_word, bad_byte}

-- the tokens from here on, where a word that began before may be open
abbrev pub opened : Option ℕ → ℕ → List Token → List Token
opened None at tokens = tokens
opened (Some from) at tokens = with_word from at tokens

-- no word begins here
abbrev pub IsApart : ℕ → List Token → Type 0
IsApart at [] = Unit {0}
IsApart at (token ∷ tokens) = (is_word token.kind && token.from == at) ≡ false

-- the fault is the first bad byte, or memory ran out
abbrev pub LexFails : List ℕ → Lex → Type 0
LexFails file (BadByte at) = bad_byte file ≡ Some at
LexFails file Memory = Unit {0}
