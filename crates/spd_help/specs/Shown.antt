-- What of a text can be shown at a terminal.
use Rattle.std.specs.Prelude.{ℕ, ◌+◌, ◌/◌, ◌%◌, Bool, ◌&&◌, ◌||◌, ◌==◌, nat_le, nat_lt, if◌then◌else◌, List, [], ◌∷◌}
use Rattle.std.specs.List.{flat_map}

-- a printable byte of ASCII
abbrev pub is_printable : ℕ → Bool
is_printable byte = nat_le 32 byte && nat_le byte 126

-- what a terminal is given: printable bytes and ends of lines
abbrev pub is_shown : ℕ → Bool
is_shown byte = is_printable byte || (byte == 10)

-- a digit of a number below 16
abbrev pub hex_digit : ℕ → ℕ
hex_digit n = if nat_lt n 10 then 48 + n else 87 + n

-- a byte that isn't printable: a tab as a blank, any other as \x and two digits
abbrev pub escape : ℕ → List ℕ
escape byte = if byte == 9 then 32 ∷ [] else 92 ∷ 120 ∷ hex_digit (byte / 16) ∷ hex_digit (byte % 16) ∷ []

-- a byte as a terminal is shown it
unfoldable pub shown_byte : ℕ → List ℕ
shown_byte byte = if is_printable byte then byte ∷ [] else escape byte

-- a text as a terminal is shown it
abbrev pub shown : List ℕ → List ℕ
shown text = flat_map shown_byte text
