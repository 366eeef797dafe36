-- The line of a file on which a byte stands, and how it is shown.
use Rattle.std.specs.Prelude.{◌≡◌, ◌≢◌, ℕ, ◌+◌, ◌-◌, ◌<◌, ◌≤◌, ◌==◌, ◌⊎◌, min, max, List, [], ◌∷◌, ◌++◌, length, take, slice_range, replicate, slice_index, count_by, codes, decimal, nat_lt, if◌then◌else◌}
use Rattle.spd_help.specs.Shown.{shown}
use Rattle.spd_help.specs.declared.place.Line.{Line}

-- the line of a file on which the byte at a place stands, or the file's end
pub record IsLineAt (bytes : List ℕ) (at : ℕ) (line : Line) : Type 0 where
  pub number : line.number ≡ 1 + count_by (λ byte. byte == 10) (take at bytes)
  pub starts : (line.start ≡ 0) ⊎ ((0 < line.start) × (slice_index bytes (line.start - 1) ≡ 10))
  pub ends : (line.end ≡ length bytes) ⊎ (slice_index bytes line.end ≡ 10)
  pub around : (line.start ≤ at) × (at ≤ line.end) × (line.end ≤ length bytes)
  pub whole : (k : ℕ) → line.start ≤ k → k < line.end → slice_index bytes k ≢ 10

-- where what is shown of the line begins: at most 40 bytes before the place
abbrev pub left_of : ℕ → Line → ℕ
left_of at line = max line.start (at - 40)

-- where it ends: at most 70 bytes behind that
abbrev pub right_of : ℕ → Line → ℕ
right_of at line = min line.end (left_of at line + 70)

-- what is shown of the line before the place, and from there on
abbrev pub before : List ℕ → ℕ → Line → List ℕ
before bytes at line = slice_range bytes (left_of at line) at

abbrev pub behind : List ℕ → ℕ → Line → List ℕ
behind bytes at line = slice_range bytes at (right_of at line)

-- dots where a line goes on to the left or to the right
abbrev pub lead : ℕ → Line → List ℕ
lead at line = if nat_lt line.start (left_of at line) then codes "... " else codes "    "

abbrev pub tail : ℕ → Line → List ℕ
tail at line = if nat_lt (right_of at line) line.end then codes " ..." else []

-- the name of the file, with line and column counted from 1
abbrev pub heading_text : List ℕ → ℕ → ℕ → List ℕ
heading_text name number column = shown (codes "  " ++ (name ++ (codes ", line " ++ (decimal number ++ (codes ", column " ++ decimal column))))) ++ 10 ∷ []

-- the line itself
abbrev pub line_text : List ℕ → ℕ → Line → List ℕ
line_text bytes at line = shown (lead at line ++ (before bytes at line ++ (behind bytes at line ++ tail at line))) ++ 10 ∷ []

-- a caret below the byte: as many blanks as what stands before it takes
abbrev pub caret_text : List ℕ → ℕ → Line → List ℕ
caret_text bytes at line = replicate (4 + length (shown (before bytes at line))) 32 ++ (shown (codes "^") ++ 10 ∷ [])

-- where a byte stands: its file's name with line and column, the line, and a caret below the byte
abbrev pub place_text : List ℕ → List ℕ → ℕ → Line → List ℕ
place_text name bytes at line = heading_text name line.number (at - line.start + 1) ++ (line_text bytes at line ++ caret_text bytes at line)

-- what a screen showed, then where a byte of a file stands, and then whatever else it shows
pub record ShowsPlace (name bytes : List ℕ) (at : ℕ) (before now : List ℕ) : Type 0 where
  pub line : Line
  pub is_line : IsLineAt bytes at line
  pub more : List ℕ
  pub shows : now ≡ before ++ place_text name bytes at line ++ more
