-- The definitions computed on worked rows.
use Rattle.std.proofs.Common.{◌≡◌, ℕ, List, [], ◌∷◌, ◌++◌, refl}
use Rattle.std.specs.Prelude.{codes}
use Rattle.spd_help.specs.Shown.{shown, shown_byte}
use Rattle.spd_help.specs.Lines.{line_text, caret_text}
use Rattle.spd_help.specs.declared.place.Line.{Line}

-- a letter, a tab, and a byte that steers a terminal
shown-row : shown (104 ∷ 9 ∷ 27 ∷ []) ≡ codes "h \\x1b"
unfolding shown_byte
shown-row = refl

-- the second line of `a`, `bc`
abbrev bytes : List ℕ
bytes = 97 ∷ 10 ∷ 98 ∷ 99 ∷ []

abbrev line : Line
line = record { number = 2; start = 2; end = 4 }

line-row : line_text bytes 3 line ≡ codes "    bc" ++ 10 ∷ []
unfolding shown_byte
line-row = refl

-- a caret below its second byte
caret-row : caret_text bytes 3 line ≡ codes "     ^" ++ 10 ∷ []
unfolding shown_byte
caret-row = refl
