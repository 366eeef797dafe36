-- The grammar by cases: which tokens trees and numbers are written in.
use Rattle.std.specs.Prelude.{ℕ, ◌+◌, ◌<◌, ◌≡◌, Bool, true, false, if◌then◌else◌, List, [], ◌∷◌, Ok, ℤ}
use Rattle.std.specs.Str.{bytes_eq}
use Rattle.spd_lex.specs.declared.token.Token.{Token}
use Rattle.spd_lex.specs.declared.token.Kind.{Kind}
use Rattle.spd_lex.specs.declared.token.Kind.TheVariants.{Open, Close, Word as WordKind}
use Rattle.spd_syntax.specs.declared.file.Word.{Word}
use Rattle.spd_syntax.specs.declared.file.Branch.{Branch}
use Rattle.spd_syntax.specs.declared.file.Quantity.{Quantity}
use Rattle.spd_syntax.specs.declared.file.Shape.{Shape, Number, Use, Choice', Row_of-Branch, end_of-Branch, more_of-Branch}
use Rattle.spd_syntax.specs.declared.refusal.Want.TheVariants as wants
use Rattle.spd_syntax.specs.Words.{text_of, name_passes, value_passes, is_number_word, is_primed, front_of, unmarked}
use Rattle.spd_syntax.specs.Numbers.{number_of}

-- ---- single tokens: between a and b stands ..

-- .. a bracket
pub record One (wanted : Kind) (a b : List Token) : Type 0 where
  pub token : Token
  pub kind : token.kind ≡ wanted
  pub first : a ≡ token ∷ b

-- .. a word
pub record AWord (w : Word) (a b : List Token) : Type 0 where
  pub first : a ≡ record { kind = WordKind; from = w.from; to = w.to } ∷ b

-- ---- words

-- a word of the grammar
pub record Says (file : List ℕ) (w : Word) (text : List ℕ) : Type 0 where
  pub is : bytes_eq (text_of file w) text ≡ true

pub record IsName (file : List ℕ) (w : Word) : Type 0 where
  pub is : name_passes wants.Name w.from (text_of file w) ≡ Ok tt

pub record IsValue (file : List ℕ) (w : Word) : Type 0 where
  pub is : value_passes wants.Value w.from (text_of file w) ≡ Ok tt

-- the word stands for this number
pub record IsNumber (file : List ℕ) (q : Quantity) (w : Word) (units : ℤ) : Type 0 where
  pub is : number_of q w.from (text_of file w) ≡ Ok units

-- the word in which the name of a choice is written, and the name without its mark
pub record IsHead (file : List ℕ) (primed : Bool) (head name : Word) : Type 0 where
  pub word : name ≡ unmarked primed head
  pub no_number : is_number_word (text_of file head) ≡ false
  pub mark : is_primed (text_of file head) ≡ primed
  pub passes : name_passes wants.Name head.from (if primed then front_of (text_of file head) else text_of file head) ≡ Ok tt

-- ---- trees: between a and e stands a tree, with n trees round it

-- tree = "(" NUMBER ")" | "(" NAME ")" | "(" ( NAME | PRIMED ) branch { branch } ")", branch = "(" VALUE tree ")"
abbrev mutual
  -- what stands behind the `(` of a tree, with the `)`
  pub IsInside : List ℕ → Quantity → ℕ → Shape → List Token → List Token → Type 0
  IsInside file q n (Number w units) a e =
      (b : List Token) × AWord w a b × One Close b e × (is_number_word (text_of file w) ≡ true) × IsNumber file q w units
  IsInside file q n (Use w) a e =
      (b : List Token) × AWord w a b × One Close b e × IsHead file false w w
  IsInside file q n (Choice' w primed shape row) a e =
      (b c : List Token) × (head : Word) × AWord head a b × AreBranches file q n row b c × One Close c e × IsSome row × IsHead file primed head w

  -- at least one branch
  pub IsSome : {k : _} → Row_of-Branch k → Type 0
  IsSome end_of-Branch = ⊥
  IsSome (more_of-Branch value tree row) = Unit {0}

  pub AreBranches : List ℕ → Quantity → ℕ → {k : _} → Row_of-Branch k → List Token → List Token → Type 0
  AreBranches file q n end_of-Branch a e = a ≡ e
  AreBranches file q n (more_of-Branch w kid row) a e =
      (b c d f m : List Token) × One Open a b × AWord w b c × IsValue file w × (n + 1 < 300) × One Open c d × IsInside file q (n + 1) kid d f
      × One Close f m × AreBranches file q n row m e

-- a tree, with its `(`
pub record IsTree (file : List ℕ) (q : Quantity) (n : ℕ) (shape : Shape) (a e : List Token) : Type 0 where
  pub shallow : n < 300
  pub b : List Token
  pub opens : One Open a b
  pub inside : IsInside file q n shape b e

-- ---- the same, by a list of branches

-- a branch, behind its `(`
pub record IsBranch (file : List ℕ) (q : Quantity) (n : ℕ) (branch : Branch) (a e : List Token) : Type 0 where
  pub b : List Token
  pub c : List Token
  pub word : AWord branch.value a b
  pub value : IsValue file branch.value
  pub tree : IsTree file q (n + 1) branch.tree b c
  pub close : One Close c e

abbrev pub HaveBranches : List ℕ → Quantity → ℕ → List Branch → List Token → List Token → Type 0
HaveBranches file q n [] a e = a ≡ e
HaveBranches file q n (branch ∷ branches) a e = (b m : List Token) × One Open a b × IsBranch file q n branch b m × HaveBranches file q n branches m e
