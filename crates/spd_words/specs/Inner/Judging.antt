-- Pieces judged one after another: what they say so far, or the first that can't stand.
use Rattle.std.specs.Prelude.{ℕ, ◌≡◌, Some, if◌then◌else◌, List, [], ◌∷◌, ◌++◌, Result, Ok, Err, drop}
use Rattle.spd_words.specs.declared.verb.Verb.{Verb}
use Rattle.spd_words.specs.declared.said.Said.{Said}
use Rattle.spd_words.specs.declared.fault.WordsFault.{WordsFault}
use Rattle.spd_words.specs.declared.fault.WordsFault.TheVariants.{Usage}
use Rattle.spd_words.specs.declared.verb.Key.{Key}
use Rattle.spd_words.specs.Verbs.{key_named}
use Rattle.spd_words.specs.Values.{with_value, nothing_given}
use Rattle.spd_words.specs.Pieces.{Piece, operand, option, value, no_value, end, place_of, pieces_of}
use Rattle.spd_words.specs.Standing.{can_stand}

abbrev pub nothing_said : Said
nothing_said = record { operands = []; given = nothing_given }

-- what is said with one more piece
abbrev pub with_piece : Piece → Said → Said
with_piece (operand at) said = record said { operands = said.operands ++ at ∷ [] }
with_piece (option at key) said = said
with_piece (value at key text) said = record said { given = with_value key text said.given }
with_piece (no_value at) said = said
with_piece (end at) said = said

infixl 10 ◌>>=◌
abbrev pub ◌>>=◌ : {A B : Type 0} → Result A ℕ → (A → Result B ℕ) → Result B ℕ
(Ok x) >>= f = f x
(Err at) >>= f = Err at

abbrev pub judged_piece : List (List ℕ) → Verb → Piece → Said → Result Said ℕ
judged_piece words verb piece said = if can_stand words verb said.operands said.given piece then Ok (with_piece piece said) else Err (place_of piece)

-- what is said behind the pieces, or the place of the first that can't stand
abbrev pub judged : List (List ℕ) → Verb → List Piece → Said → Result Said ℕ
judged words verb [] said = Ok said
judged words verb (piece ∷ pieces) said = judged_piece words verb piece said >>= judged words verb pieces

-- judging stops at the word of the fault
abbrev pub Stops : Result Said ℕ → WordsFault → Type 0
Stops judging (Usage word) = judging ≡ Err word

-- what was answered, and said then, is what judging gives
abbrev pub Judges : {X : Type 0} → Result Said ℕ → Result X WordsFault → Said → Type 0
Judges judging (Ok x) said = judging ≡ Ok said
Judges judging (Err fault) said = Stops judging fault

-- the option of this name can stand, or not
abbrev pub JudgesOption : List (List ℕ) → Verb → ℕ → List ℕ → Said → Result Key WordsFault → Type 0
JudgesOption words verb at name said (Ok key) = (key_named name ≡ Some key) × (judged_piece words verb (option at (Some key)) said ≡ Ok said)
JudgesOption words verb at name said (Err fault) = Stops (judged_piece words verb (option at (key_named name)) said) fault

-- what the words behind the command say is what judging their pieces gives
abbrev pub Reads : List (List ℕ) → Verb → Result Said WordsFault → Type 0
Reads words verb (Ok said) = judged words verb (pieces_of (drop 1 words)) nothing_said ≡ Ok said
Reads words verb (Err fault) = Stops (judged words verb (pieces_of (drop 1 words)) nothing_said) fault
