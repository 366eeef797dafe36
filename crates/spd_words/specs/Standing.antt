-- Which piece can stand behind those before it.
use Rattle.std.specs.Prelude.{ℕ, ◌%◌, ◌==◌, ◌&&◌, not, Bool, false, List, [], ◌∷◌, ◌++◌, length, slice_get, slice_index, Option, Some, None, is_some, unwrap_or, codes, bytes_eq, IsTrue, ◌≡◌}
use Rattle.std.specs.List.{list_any, enumerate_from}
use Rattle.spd_words.specs.declared.verb.Verb.{Verb}
use Rattle.spd_words.specs.declared.verb.Verb.TheVariants.{Solve, Ask, Check, Plain, Gen, Ring, Upgrade, Horizon, Evaluate, Bounded}
use Rattle.spd_words.specs.declared.verb.Role.{Role}
use Rattle.spd_words.specs.declared.verb.Role.TheVariants.{Size}
use Rattle.spd_words.specs.declared.given.Given.{Given}
use Rattle.spd_words.specs.Verbs.{takes, role_of, is_role}
use Rattle.spd_words.specs.Values.{number_in, is_value, with_value, is_given, nothing_given}
use Rattle.spd_words.specs.Pieces.{Piece, operand, option, value, no_value, end, place_of}

-- the word of this number
abbrev pub text_at : List (List ℕ) → ℕ → List ℕ
text_at words at = unwrap_or (slice_get words at) []

-- ---- what pieces say: the words of the operands in order, and the values of the options

abbrev pub operands_in : List Piece → List ℕ
operands_in [] = []
operands_in (operand at ∷ pieces) = at ∷ operands_in pieces
operands_in (option at key ∷ pieces) = operands_in pieces
operands_in (value at key text ∷ pieces) = operands_in pieces
operands_in (no_value at ∷ pieces) = operands_in pieces
operands_in (end at ∷ pieces) = operands_in pieces

-- the options that are given behind pieces, from those before
abbrev pub given_after : Given → List Piece → Given
given_after given [] = given
given_after given (operand at ∷ pieces) = given_after given pieces
given_after given (option at key ∷ pieces) = given_after given pieces
given_after given (value at key text ∷ pieces) = given_after (with_value key text given) pieces
given_after given (no_value at ∷ pieces) = given_after given pieces
given_after given (end at ∷ pieces) = given_after given pieces

abbrev pub given_in : List Piece → Given
given_in pieces = given_after nothing_given pieces

-- ---- operands

-- an operand of the same role stands before with this name
abbrev pub repeats : List (List ℕ) → Verb → List ℕ → Role → List ℕ → Bool
repeats words verb operands role text =
    list_any (λ p. is_role (role_of verb p.0) role && bytes_eq (text_at words p.1) text) (enumerate_from 0 operands)

-- a name of a file, which isn't empty and stands once
abbrev pub is_name : List (List ℕ) → Verb → List ℕ → Role → List ℕ → Bool
is_name words verb operands role text = not (length text == 0) && not (repeats words verb operands role text)

-- a text can stand in this role behind these operands
abbrev pub fits : List (List ℕ) → Verb → List ℕ → Option Role → List ℕ → Bool
fits words verb operands None text = false
fits words verb operands (Some Size) text = is_some (number_in 2 63 text)
fits words verb operands (Some role) text = is_name words verb operands role text

-- no operand is missing; `ask` with the standard input as its file and no pair would read the same input twice
abbrev pub are_all : List (List ℕ) → Verb → List ℕ → Bool
are_all words Solve operands = length operands == 1
are_all words Ask operands = length operands % 2 == 1 && not (length operands == 1 && bytes_eq (text_at words (slice_index operands 0)) (codes "-"))
are_all words Check operands = length operands == 2
are_all words Plain operands = length operands == 1
are_all words Gen operands = length operands == 1
are_all words Ring operands = length operands == 1
are_all words Upgrade operands = length operands == 2
are_all words Horizon operands = length operands == 1
are_all words Evaluate operands = length operands == 2
are_all words Bounded operands = length operands == 2

-- ---- pieces

-- a piece can stand behind pieces that have these operands and give these options
abbrev pub can_stand : List (List ℕ) → Verb → List ℕ → Given → Piece → Bool
can_stand words verb operands given (operand at) = fits words verb operands (role_of verb (length operands)) (text_at words at)
can_stand words verb operands given (option at None) = false
can_stand words verb operands given (option at (Some key)) = takes verb key && not (is_given key given)
can_stand words verb operands given (value at key text) = is_value key text
can_stand words verb operands given (no_value at) = false
can_stand words verb operands given (end at) = are_all words verb operands

-- a piece can stand behind those before it
abbrev pub stands : List (List ℕ) → Verb → List Piece → Piece → Bool
stands words verb before piece = can_stand words verb (operands_in before) (given_in before) piece

-- each of the pieces can stand, the first behind those before
abbrev pub AllStand : List (List ℕ) → Verb → List Piece → List Piece → Type 0
AllStand words verb before [] = Unit {0}
AllStand words verb before (piece ∷ pieces) = IsTrue (stands words verb before piece) × AllStand words verb (before ++ piece ∷ []) pieces

-- The first of the pieces that can't stand is in the word of this number: those in front of it can stand, whatever comes behind.
pub record FirstFault (words : List (List ℕ)) (verb : Verb) (pieces : List Piece) (word : ℕ) : Type 0 where
  pub front : List Piece
  pub faulty : Piece
  pub back : List Piece
  pub whole : pieces ≡ front ++ faulty ∷ back
  pub stand : AllStand words verb [] front
  pub fault : stands words verb front faulty ≡ false
  pub place : word ≡ place_of faulty
