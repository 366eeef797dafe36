-- How far the reading of a line has come, and what it keeps.
use Rattle.std.specs.Prelude.{ℕ, Bool, true, ◌≡◌, ◌<◌, ◌≤◌, false, List, [], ◌∷◌, ◌++◌, length, map, slice_index_or, Some, All, IsTrue}
use Rattle.spd_model.specs.declared.process.Var.{Var}
use Rattle.spd_model.specs.Lawful.{AreDistinct, HasValues}
use Rattle.spd_model.specs.Names.{is_name}
use Rattle.spd_model.specs.States.{IsState}
use Rattle.spd_query.specs.declared.line.Query.{Query}
use Rattle.spd_query.specs.declared.line.Query.TheVariants.{State, Status}
use Rattle.std.specs.List.{list_all}
use Rattle.spd_query.specs.Lines.{is_blank, may_stand, words_of, sides_of, numbers_of}

-- a line is at its end, or at the first byte of a word
abbrev pub IsAtWord : List ℕ → Type 0
IsAtWord [] = Unit {0}
IsAtWord (byte ∷ bytes) = is_blank byte ≡ false

-- a word ends where this follows it: nothing, or a blank
abbrev pub ends_word : List ℕ → Bool
ends_word [] = true
ends_word (byte ∷ bytes) = is_blank byte

-- each byte of a text may stand in a line
abbrev pub Stands : List ℕ → Type 0
Stands bytes = list_all may_stand bytes ≡ true

-- what the variables of every model keep
pub record AreVars (vars : List Var) : Type 0 where
  pub few : length vars ≤ 100
  pub named : All (λ (x : Var). IsTrue (is_name x.name)) vars
  pub distinct : AreDistinct (map (λ (x : Var). x.name) vars)
  pub values : All HasValues vars

-- a text begins with the value of this number, at which a word ends
pub record BeginsWithValue (values : List (List ℕ)) (text : List ℕ) (number : ℕ) (behind : List ℕ) : Type 0 where
  pub within : number < length values
  pub begins : text ≡ slice_index_or values number [] ++ behind
  pub ends : ends_word behind ≡ true

-- the first word of a line names these numbers of a variable and of its value, and this stands behind it
pub record BeginsWithPair (vars : List Var) (line : List ℕ) (pair : ℕ × ℕ) (behind : List ℕ) : Type 0 where
  pub word : List ℕ
  pub sides : List ℕ × List ℕ
  pub words : words_of line ≡ word ∷ words_of behind
  pub parted : sides_of word ≡ Some sides
  pub named : numbers_of vars sides ≡ Some pair
  pub stands : Stands word
  pub shorter : length behind < length line

-- what is asked for is the status, or a state of variables with these numbers of values
abbrev pub FitsQuery : List ℕ → Query → Type 0
FitsQuery sizes (State s) = IsState sizes s
FitsQuery sizes Status = Unit {0}
