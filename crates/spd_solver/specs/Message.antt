-- The number and the message of a status.
use Rattle.std.specs.Prelude.{ℕ, List, [], ◌∷◌, ◌++◌, codes, decimal}
use Rattle.std.specs.List.{concat}
use Rattle.spd_scaled.specs.Units.{units_text}
use Rattle.spd_syntax.specs.declared.refusal.Refusal.{Refusal}
use Rattle.spd_syntax.specs.declared.refusal.Want.{Want}
use Rattle.spd_syntax.specs.declared.refusal.What.{What}
use Rattle.spd_cert.specs.declared.refusal.CertRefusal.{CertRefusal}
use Rattle.spd_solver.specs.declared.status.Stage.{Stage}
use Rattle.spd_solver.specs.declared.status.Stage.TheVariants.{Building, Turn, Check}
use Rattle.spd_solver.specs.declared.status.Status.{Status}
use Rattle.spd_solver.specs.declared.status.Status.TheVariants.{Done, Usage, OpenFault, ReadFault, TooLong, Refused, OtherModel, CertRefused, TooManyStates, Sum, Range, TurnLimit, NodeLimit, No, WriteFault, Memory}

abbrev pub status_number : Status → ℕ
status_number Done = 0
status_number (Usage word) = 2
status_number (OpenFault name) = 3
status_number (ReadFault name) = 3
status_number (TooLong name) = 4
status_number (Refused refusal) = 5
status_number (Sum action var state sum) = 6
status_number (Range action state value) = 7
status_number (TurnLimit residual) = 8
status_number (NodeLimit stage limit) = 9
status_number (CertRefused refusal) = 10
status_number No = 11
status_number WriteFault = 12
status_number (TooManyStates product) = 13
status_number Memory = 14
status_number (OtherModel found wanted) = 16

-- LF
abbrev pub newline : List ℕ
newline = 10 ∷ []

-- what is wanted in a place
abbrev pub want_word : Want → List ℕ
want_word Want.Variables = codes "variables"
want_word Want.Open = codes "open"
want_word Want.Close = codes "close"
want_word Want.Name = codes "name"
want_word Want.Value = codes "value"
want_word Want.Section = codes "section"
want_word Want.Plus = codes "plus"
want_word Want.EndDd = codes "enddd"
want_word Want.Number = codes "number"

-- of what there are too many
abbrev pub what_words : What → List ℕ
what_words What.Variables = codes "variables"
what_words What.Values = codes "values"
what_words What.Tests = codes "tests"
what_words What.Actions = codes "actions"
what_words What.Dds = codes "dds"
what_words What.NameBytes = codes "name bytes"
what_words What.Nesting = codes "nesting"

-- the words of a refusal
abbrev pub words_of : Refusal → List ℕ
words_of (Refusal.BadByte at) = codes "bad byte"
words_of (Refusal.Expected at want) = codes "expected " ++ want_word want
words_of (Refusal.Number at) = codes "not a number"
words_of (Refusal.TooFine at) = codes "too fine"
words_of (Refusal.TooLarge at) = codes "too large"
words_of (Refusal.Negative at) = codes "negative"
words_of (Refusal.TooMany at what) = codes "too many " ++ what_words what
words_of (Refusal.LeftOut at) = codes "left out"
words_of (Refusal.Unknown at) = codes "unknown name"
words_of (Refusal.Twice at) = codes "twice"
words_of (Refusal.MissingBranch at) = codes "missing branch"
words_of (Refusal.MissingVariable at var) = codes "missing variable"
words_of (Refusal.Primed at) = codes "primed name"

-- the place of a refusal, a byte of the file, counted from 0
abbrev pub place_of : Refusal → ℕ
place_of (Refusal.BadByte at) = at
place_of (Refusal.Expected at want) = at
place_of (Refusal.Number at) = at
place_of (Refusal.TooFine at) = at
place_of (Refusal.TooLarge at) = at
place_of (Refusal.Negative at) = at
place_of (Refusal.TooMany at what) = at
place_of (Refusal.LeftOut at) = at
place_of (Refusal.Unknown at) = at
place_of (Refusal.Twice at) = at
place_of (Refusal.MissingBranch at) = at
place_of (Refusal.MissingVariable at var) = at
place_of (Refusal.Primed at) = at

-- the message of a file that is refused
abbrev pub refusal_message : Refusal → List ℕ
refusal_message refusal = concat (codes "refused at byte " ∷ decimal (place_of refusal) ∷ codes ": " ∷ words_of refusal ∷ newline ∷ [])

-- the words of a certificate's refusal
abbrev pub cert_words_of : CertRefusal → List ℕ
cert_words_of (CertRefusal.BadByte at) = codes "bad byte"
cert_words_of (CertRefusal.Expected at) = codes "expected"
cert_words_of (CertRefusal.Unknown at) = codes "unknown name"
cert_words_of (CertRefusal.Order at) = codes "order"
cert_words_of (CertRefusal.Number at) = codes "number"
cert_words_of (CertRefusal.End at) = codes "end"

-- the place of a certificate's refusal, a byte of it, counted from 0
abbrev pub cert_place_of : CertRefusal → ℕ
cert_place_of (CertRefusal.BadByte at) = at
cert_place_of (CertRefusal.Expected at) = at
cert_place_of (CertRefusal.Unknown at) = at
cert_place_of (CertRefusal.Order at) = at
cert_place_of (CertRefusal.Number at) = at
cert_place_of (CertRefusal.End at) = at

-- the message of a certificate that is refused
abbrev pub cert_refusal_message : CertRefusal → List ℕ
cert_refusal_message refusal =
    concat (codes "certificate refused at byte " ∷ decimal (cert_place_of refusal) ∷ codes ": " ∷ cert_words_of refusal ∷ newline ∷ [])

-- the message of a sum that isn't one, by the texts of its parts
abbrev pub sum_message : List ℕ → List ℕ → List ℕ → List ℕ → List ℕ
sum_message action var state sum =
    concat (codes "sum of action " ∷ action ∷ codes ", variable " ∷ var ∷ codes " at " ∷ state ∷ codes " is " ∷ sum ∷ newline ∷ [])

-- the message of a reward that passes its limit, by the texts of its parts
abbrev pub range_message : List ℕ → List ℕ → List ℕ → List ℕ
range_message action state value = concat (codes "reward of action " ∷ action ∷ codes " at " ∷ state ∷ codes " is " ∷ value ∷ newline ∷ [])

-- the stage that has more nodes than it may have
abbrev pub stage_words : Stage → List ℕ
stage_words Building = codes "building"
stage_words (Turn k) = codes "turn " ++ decimal k
stage_words Check = codes "check"

-- the message of a node limit that was passed
abbrev pub limit_message : Stage → ℕ → List ℕ
limit_message stage limit = concat (codes "node limit " ∷ decimal limit ∷ codes " passed in " ∷ stage_words stage ∷ newline ∷ [])

-- one line, or nothing for Done; sums have 12 digits after the point, rewards and residuals nine
abbrev pub message_of : Status → List ℕ
message_of Done = []
message_of (Usage word) = concat (codes "usage: word " ∷ decimal word ∷ newline ∷ [])
message_of (OpenFault name) = concat (codes "cannot open " ∷ name ∷ newline ∷ [])
message_of (ReadFault name) = concat (codes "cannot read " ∷ name ∷ newline ∷ [])
message_of (TooLong name) = concat (name ∷ codes " is too long" ∷ newline ∷ [])
message_of (Refused refusal) = refusal_message refusal
message_of (OtherModel found wanted) = concat (codes "certificate is of another model" ∷ newline ∷ [])
message_of (CertRefused refusal) = cert_refusal_message refusal
message_of (TooManyStates product) = concat (codes "too many states: " ∷ decimal product ∷ codes " or more" ∷ newline ∷ [])
message_of (Sum action var state sum) = sum_message action var state (units_text 12 sum)
message_of (Range action state value) = range_message action state (units_text 9 value)
message_of (TurnLimit residual) = concat (codes "turn limit reached, residual " ∷ units_text 9 residual ∷ newline ∷ [])
message_of (NodeLimit stage limit) = limit_message stage limit
message_of No = concat (codes "certificate does not hold" ∷ newline ∷ [])
message_of WriteFault = concat (codes "cannot write" ∷ newline ∷ [])
message_of Memory = concat (codes "out of memory" ∷ newline ∷ [])
