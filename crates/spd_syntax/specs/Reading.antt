-- What a reader of tokens answers, in the words of the grammar and of the first fault.
use Rattle.std.specs.Prelude.{ℕ, Bool, true, false, List, [], ◌∷◌, ◌++◌, length, Option, Some, None, Result, Ok, Err, ◌≡◌, if◌then◌else◌, bytes_eq}
use Rattle.spd_lex.specs.declared.token.Token.{Token}
use Rattle.spd_lex.specs.declared.token.Kind.{Kind}
use Rattle.spd_lex.specs.declared.token.Kind.TheVariants.{Word}
use Rattle.spd_syntax.specs.declared.refusal.Refusal.{Refusal}
use Rattle.spd_syntax.specs.declared.refusal.Refusal.TheVariants.{Expected, BadByte}
use Rattle.spd_syntax.specs.declared.refusal.Want.{Want}
use Rattle.spd_syntax.specs.declared.refusal.Want.TheVariants as wants
use Rattle.spd_syntax.specs.declared.refusal.What.{What}
use Rattle.spd_syntax.specs.declared.refusal.What.TheVariants as whats
use Rattle.spd_syntax.specs.Words.{name_passes, value_passes}
use Rattle.spd_lex.specs.Tokens.{bad_byte}
use Rattle.spd_syntax.specs.declared.file.Counts.{Counts}
use Rattle.spd_syntax.specs.declared.file.Quantity.{Quantity}
use Rattle.spd_syntax.specs.declared.file.Quantity.TheVariants.{Diagram}
use Rattle.spd_syntax.specs.declared.sections.SectionWord.{SectionWord}
use Rattle.spd_syntax.specs.declared.sections.SectionWord.TheVariants.{Dd, Action, Reward, Setting, LeftOut, Other}
use Rattle.spd_syntax.specs.declared.unread.Unread.{Unread}
use Rattle.spd_syntax.specs.declared.unread.Unread.TheVariants.{Refused, Memory}
use Rattle.spd_syntax.specs.Positions.{Position, after_primed, more_branches, dd_name, dd_end, action_name, item, part, number, tree, one_action, fault_from, syntax_fault, takes, end_fault, counted, ◌then◌}

-- where these positions are next, this is the first fault, whatever comes behind them
pub record Faults (file : List ℕ) (ps : List Position) (ts : List Token) (f : Refusal) : Type 0 where
  pub is : (behind : List Position) → fault_from file (ps ++ behind) ts ≡ Some f

-- the same of what was answered, unless memory ran out
abbrev pub Fails : List ℕ → List Position → List Token → Unread → Type 0
Fails file ps ts (Refused f) = Faults file ps ts f
Fails file ps ts Memory = Unit {0}

-- the place of the first token, or the end of the file
abbrev pub here : List ℕ → List Token → ℕ
here file [] = length file
here file (t ∷ ts) = t.from

-- no token of this kind stands first
abbrev pub Lacks : Kind → List Token → Type 0
Lacks kind [] = Unit {0}
Lacks kind (t ∷ ts) = t.kind ≡ kind → ⊥

-- no token of this kind stands first, and the fault says so
pub record Misses (file : List ℕ) (kind : Kind) (want : Want) (ts : List Token) (f : Refusal) : Type 0 where
  pub lacks : Lacks kind ts
  pub fault : f ≡ Expected (here file ts) want

-- the position behind the name of a choice
abbrev pub behind_head : Quantity → ℕ → Bool → Position
behind_head q n true = after_primed q n
behind_head q n false = more_branches q n

-- the only kind of token with which a position goes on
pub record Only (p : Position) (kind : Kind) (want : Want) : Type 0 where
  pub others : (k : Kind) (at : ℕ) (text : List ℕ) → (k ≡ kind → ⊥) → takes p k at text ≡ Err (Expected at want)
  pub at_end : (end : ℕ) (ps : List Position) → end_fault end (p ∷ ps) ≡ Some (Expected end want)

-- ---- names that are declared, and words of the grammar

-- a NAME stands next at this position, of which there are `count` where at most `most` may be
pub record NamesAt (p : Position) (what : What) (most count : ℕ) (qs : List Position) : Type 0 where
  pub only : Only p Word wants.Name
  pub word : (at : ℕ) (text : List ℕ) → takes p Word at text ≡ (name_passes wants.Name at text then counted what most count at (Ok qs))

-- this word of the grammar stands next at this position
pub record KeywordAt (p : Position) (keyword : List ℕ) (want : Want) (qs : List Position) : Type 0 where
  pub only : Only p Word want
  pub word : (at : ℕ) (text : List ℕ) → takes p Word at text ≡ (if bytes_eq text keyword then Ok qs else Err (Expected at want))

-- a further value of a variable, of which so many values and tests were read
abbrev pub value_judged : ℕ → ℕ → ℕ → List ℕ → Result (Unit {0}) Refusal
value_judged count tests at text = value_passes wants.Close at text then counted whats.Values 64 count at (counted whats.Tests 256 tests at (Ok tt))

-- the positions behind the first word of a section
abbrev pub body_positions : Counts → SectionWord → List Position
body_positions c Dd = dd_name c.dds ∷ tree Diagram 0 ∷ dd_end ∷ []
body_positions c Action = action_name c.actions ∷ item (one_action c) ∷ []
body_positions c Reward = part ∷ []
body_positions c (Setting q) = number q ∷ []
body_positions c LeftOut = []
body_positions c Other = []

-- ---- the first fault of a file

abbrev pub fault_after : List ℕ → Option ℕ → Option Refusal
fault_after file (Some at) = Some (BadByte at)
fault_after file None = syntax_fault file

-- a byte that may not stand in it, wherever it stands, and then the first fault of the syntax
abbrev pub first_fault : List ℕ → Option Refusal
first_fault file = fault_after file (bad_byte file)

-- the first fault was told, or memory ran out
abbrev pub TellsFault : List ℕ → Unread → Type 0
TellsFault file (Refused f) = first_fault file ≡ Some f
TellsFault file Memory = Unit {0}
