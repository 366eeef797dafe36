-- The answers to some lines, by hand.
use Rattle.std.proofs.Common.{◌≡◌, ℕ, List, [], ◌∷◌, ◌++◌, pos, codes, decimal, None, refl, if◌then◌else◌, ◌==◌, slice_index}
use Rattle.spd_model.specs.declared.process.Var.{Var}
use Rattle.spd_model.specs.declared.process.Action.{Action}
use Rattle.spd_model.specs.Process.{Process}
use Rattle.spd_model.specs.ResultText.{line, units}
use Rattle.spd_query.specs.Lines.{words_of}
use Rattle.spd_query.specs.Answers.{Turn, answer_of}

abbrev x : Var
x = record { name = codes "x"; values = codes "yes" ∷ codes "no" ∷ [] }

abbrev die : Var
die = record { name = codes "die"; values = codes "1" ∷ codes "2" ∷ codes "3" ∷ [] }

abbrev stay : Action
stay = record { name = codes "stay"; tables = []; cost = [] }

abbrev roll : Action
roll = record { name = codes "roll"; tables = []; cost = [] }

-- one variable, and two
abbrev one : Process
one = record { vars = x ∷ []; dds = []; actions = stay ∷ []; reward = []; discount = 500000; tolerance = pos 100000000; horizon = None }

abbrev two : Process
two = record { vars = x ∷ die ∷ []; dds = []; actions = stay ∷ roll ∷ []; reward = []; discount = 500000; tolerance = pos 100000000; horizon = None }

abbrev last : Turn
last = record { number = 5; value = λ s. if slice_index s 0 == 0 then pos 1968750000 else pos 0; action = λ s. 0; residual = pos 15625000; error = pos 31250000 }

-- at the third face the value is 2.5 and the action is to roll, else it is 1 and to stay
abbrev other : Turn
other = record {
  number = 10;
  value = λ s. if slice_index s 1 == 2 then pos 2500000000 else pos 1000000000;
  action = λ s. if slice_index s 1 == 2 then 1 else 0;
  residual = pos 0;
  error = pos 1;
}

abbrev says : List ℕ → List (List ℕ) → Type 0
says asked told = answer_of one last asked ≡ line told

abbrev says_two : List ℕ → List (List ℕ) → Type 0
says_two asked told = answer_of two other asked ≡ line told

words : words_of (9 ∷ codes " state  x=yes" ++ 13 ∷ []) ≡ codes "state" ∷ codes "x=yes" ∷ []
words = refl

state : says (codes "state x=yes") (codes "turn" ∷ decimal 5 ∷ codes "value" ∷ units (pos 1968750000) ∷ codes "action" ∷ codes "stay" ∷ codes "error" ∷ units (pos 31250000) ∷ [])
state = refl

status : says (codes " status ") (codes "turn" ∷ decimal 5 ∷ codes "residual" ∷ units (pos 15625000) ∷ codes "error" ∷ units (pos 31250000) ∷ [])
status = refl

nothing : says [] (codes "refused" ∷ codes "word" ∷ [])
nothing = refl

missing : says (codes "state") (codes "refused" ∷ codes "missing" ∷ [])
missing = refl

no_pair : says (codes "state x") (codes "refused" ∷ codes "pair" ∷ [])
no_pair = refl

unknown : says (codes "state y=yes") (codes "refused" ∷ codes "unknown" ∷ [])
unknown = refl

twice : says (codes "state x=yes x=no") (codes "refused" ∷ codes "twice" ∷ [])
twice = refl

word_behind : says (codes "status x") (codes "refused" ∷ codes "word" ∷ [])
word_behind = refl

bad_byte : says (128 ∷ []) (codes "refused" ∷ codes "byte" ∷ [])
bad_byte = refl

any_order : says_two (codes "state die=3 x=no") (codes "turn" ∷ decimal 10 ∷ codes "value" ∷ units (pos 2500000000) ∷ codes "action" ∷ codes "roll" ∷ codes "error" ∷ units (pos 1) ∷ [])
any_order = refl

other_face : says_two (codes "state x=yes die=1") (codes "turn" ∷ decimal 10 ∷ codes "value" ∷ units (pos 1000000000) ∷ codes "action" ∷ codes "stay" ∷ codes "error" ∷ units (pos 1) ∷ [])
other_face = refl

-- faults are told from the left: the second word is at fault before the third one
first_fault : says_two (codes "state x=yes x=no die") (codes "refused" ∷ codes "twice" ∷ [])
first_fault = refl

two_equals : says_two (codes "state x=yes=no die=7") (codes "refused" ∷ codes "pair" ∷ [])
two_equals = refl

one_missing : says_two (codes "state die=2") (codes "refused" ∷ codes "missing" ∷ [])
one_missing = refl
