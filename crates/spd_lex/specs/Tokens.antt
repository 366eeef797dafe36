-- The tokens of a file: brackets, and between them, blanks and comments the words.
use Rattle.std.specs.Prelude.{ℕ, ◌+◌, ◌<◌, ◌≤◌, Bool, true, false, List, [], ◌∷◌, Option, Some, None, ◌==◌, nat_le, ◌&&◌, ◌||◌, not, if◌then◌else◌}
use Rattle.spd_lex.specs.declared.token.Token.{Token}
use Rattle.spd_lex.specs.declared.token.Kind.{Kind}
use Rattle.spd_lex.specs.declared.token.Kind.TheVariants.{Open, Close, OpenSum, CloseSum, Word}

-- ---- comments

-- a `/` stands first
abbrev pub begins_slash : List ℕ → Bool
begins_slash [] = false
begins_slash (byte ∷ bytes) = byte == 47

-- whether a byte stands in a comment, where `comment` says so of the byte before it: a comment begins at `//` and ends before LF
abbrev pub in_comment : Bool → ℕ → List ℕ → Bool
in_comment true byte bytes = not (byte == 10)
in_comment false byte bytes = byte == 47 && begins_slash bytes

-- the bytes with a space for each byte of a comment, so that all others keep their places
unfoldable pub blanked : Bool → List ℕ → List ℕ
blanked comment [] = []
blanked comment (byte ∷ bytes) =
    (if in_comment comment byte bytes then 32 else byte) ∷ blanked (in_comment comment byte bytes) bytes

-- ---- tokens

-- space, tab, CR and LF
abbrev pub is_blank : ℕ → Bool
is_blank byte = byte == 32 || (byte == 9 || (byte == 13 || byte == 10))

-- ( ) [ ]
abbrev pub bracket_of : ℕ → Option Kind
bracket_of byte =
    if byte == 40 then Some Open else (if byte == 41 then Some Close else (if byte == 91 then Some OpenSum else (if byte == 93 then Some CloseSum else None)))

abbrev pub is_word : Kind → Bool
is_word Open = false
is_word Close = false
is_word OpenSum = false
is_word CloseSum = false
is_word Word = true

-- the first token goes back to `from`, or a word of its own stands before it
abbrev pub extended : Bool → ℕ → ℕ → Token → List Token → List Token
extended true from to token tokens = record token { from = from } ∷ tokens
extended false from to token tokens = record { kind = Word; from = from; to = to } ∷ token ∷ tokens

-- the tokens where bytes of a word stand before others, whose tokens are known: a word that goes on behind them begins with them
unfoldable pub with_word : ℕ → ℕ → List Token → List Token
with_word from to [] = record { kind = Word; from = from; to = to } ∷ []
with_word from to (token ∷ tokens) = extended (is_word token.kind && token.from == to) from to token tokens

-- a token of one byte
abbrev pub single : Kind → ℕ → Token
single kind at = record { kind = kind; from = at; to = at + 1 }

abbrev pub with_bracket : Option Kind → ℕ → List Token → List Token
with_bracket None at tokens = with_word at (at + 1) tokens
with_bracket (Some kind) at tokens = single kind at ∷ tokens

-- the tokens where a byte stands before others, whose tokens are known
abbrev pub with_byte : ℕ → ℕ → List Token → List Token
with_byte at byte tokens = if is_blank byte then tokens else with_bracket (bracket_of byte) at tokens

-- the tokens of bytes without comments, the first of which stands at this place
unfoldable pub tokens_from : ℕ → List ℕ → List Token
tokens_from at [] = []
tokens_from at (byte ∷ bytes) = with_byte at byte (tokens_from (at + 1) bytes)

-- the tokens of a file
abbrev pub tokens_of : List ℕ → List Token
tokens_of file = tokens_from 0 (blanked false file)

-- ---- bytes that may not stand outside comments

-- other than tab, LF, CR and 0x20 to 0x7E
abbrev pub is_bad : ℕ → Bool
is_bad byte = not (byte == 9 || (byte == 10 || (byte == 13 || (nat_le 32 byte && nat_le byte 126))))

unfoldable pub bad_from : ℕ → List ℕ → Option ℕ
bad_from at [] = None
bad_from at (byte ∷ bytes) = if is_bad byte then Some at else bad_from (at + 1) bytes

-- the place of the first bad byte of a file
abbrev pub bad_byte : List ℕ → Option ℕ
bad_byte file = bad_from 0 (blanked false file)

-- ---- places

-- each token takes a byte or more, the first begins at `least` or behind it, none before the end of the one before, and all end by `most`
abbrev pub AreApart : ℕ → ℕ → List Token → Type 0
AreApart least most [] = Unit {0}
AreApart least most (token ∷ tokens) = (least ≤ token.from) × (token.from < token.to) × (token.to ≤ most) × AreApart token.to most tokens
