-- What the words behind the command are: operands, options and their values, each with the number of its word.
use Rattle.std.specs.Prelude.{ℕ, ◌+◌, ◌==◌, Bool, false, if◌then◌else◌, List, [], ◌∷◌, ◌++◌, take, drop, position, Option, Some, None, codes, bytes_eq}
use Rattle.spd_words.specs.declared.verb.Key.{Key}
use Rattle.spd_words.specs.declared.expects.Expects.{Expects}
use Rattle.spd_words.specs.declared.expects.Expects.TheVariants.{Anything, Value, Operands}
use Rattle.spd_words.specs.Verbs.{key_named}

pub data Piece : Type 0 where
  operand : ℕ → Piece
  -- the name of an option, where it is one
  option : ℕ → Option Key → Piece
  -- the text of an option's value
  value : ℕ → Key → List ℕ → Piece
  -- the words end where an option's value is missing
  no_value : ℕ → Piece
  -- the words end
  end : ℕ → Piece

-- the number of the word in which a piece stands; that of the end is the number of words
abbrev pub place_of : Piece → ℕ
place_of (operand at) = at
place_of (option at key) = at
place_of (value at key text) = at
place_of (no_value at) = at
place_of (end at) = at

-- the word begins with `-` and isn't `-`
abbrev pub is_option : List ℕ → Bool
is_option [] = false
is_option (c ∷ []) = false
is_option (c ∷ d ∷ ds) = c == 45

-- what stands before and behind the first `=`
abbrev pub halves_at : List ℕ → Option ℕ → Option (List ℕ × List ℕ)
halves_at word None = None
halves_at word (Some n) = Some (take n word, drop (n + 1) word)

abbrev pub halves : List ℕ → Option (List ℕ × List ℕ)
halves word = halves_at word (position (λ c. c == 61) word)

-- an option in one word with its value
abbrev pub joined : ℕ → Option Key → List ℕ → List Piece
joined at None text = option at None ∷ []
joined at (Some key) text = option at (Some key) ∷ value at key text ∷ []

abbrev pub option_pieces : ℕ → List ℕ → Option (List ℕ × List ℕ) → List Piece
option_pieces at word None = option at (key_named word) ∷ []
option_pieces at word (Some (name, text)) = joined at (key_named name) text

-- the pieces of a word: none where it is `--`
abbrev pub word_pieces : Expects → ℕ → List ℕ → List Piece
word_pieces Anything at word =
    if is_option word then (if bytes_eq word (codes "--") then [] else option_pieces at word (halves word)) else operand at ∷ []
word_pieces (Value key) at word = value at key word ∷ []
word_pieces Operands at word = operand at ∷ []

-- behind the name of an option stands its value; what stands behind another word can't matter, since it can't stand
abbrev pub behind_name : Option Key → Expects
behind_name None = Anything
behind_name (Some key) = Value key

abbrev pub behind_option : List ℕ → Option (List ℕ × List ℕ) → Expects
behind_option word None = behind_name (key_named word)
behind_option word (Some parts) = Anything

-- what is expected behind a word: behind `--` operands alone
abbrev pub behind_word : Expects → List ℕ → Expects
behind_word Anything word =
    if is_option word then (if bytes_eq word (codes "--") then Operands else behind_option word (halves word)) else Anything
behind_word (Value key) word = Anything
behind_word Operands word = Operands

abbrev pub last_piece : Expects → ℕ → Piece
last_piece Anything at = end at
last_piece (Value key) at = no_value at
last_piece Operands at = end at

-- the pieces of words, the first of which has this number
abbrev pub pieces_from : Expects → ℕ → List (List ℕ) → List Piece
pieces_from expects at [] = last_piece expects at ∷ []
pieces_from expects at (word ∷ words) = word_pieces expects at word ++ pieces_from (behind_word expects word) (at + 1) words

-- the pieces of the words behind the command
abbrev pub pieces_of : List (List ℕ) → List Piece
pieces_of behind = pieces_from Anything 1 behind
