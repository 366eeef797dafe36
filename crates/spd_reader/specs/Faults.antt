-- Of several faults the one that is told: the least by its place, and at one place by its number.
use Rattle.std.specs.Prelude.{ℕ, nat_lt, ◌==◌, ◌&&◌, ◌||◌, if◌then◌else◌, Bool, true, false, List, [], ◌∷◌, Option, Some, None}
use Rattle.spd_syntax.specs.declared.refusal.Refusal.{Refusal}
use Rattle.spd_syntax.specs.declared.refusal.Refusal.TheVariants.{BadByte, Expected, Number, TooFine, TooLarge, Negative, TooMany, LeftOut, Unknown, Twice, MissingBranch, MissingVariable, Primed}

-- the place of a fault, and its number
abbrev pub rank : Refusal → ℕ × ℕ
rank (BadByte at) = (at, 1)
rank (Expected at want) = (at, 2)
rank (Number at) = (at, 3)
rank (TooFine at) = (at, 4)
rank (TooLarge at) = (at, 5)
rank (Negative at) = (at, 6)
rank (TooMany at what) = (at, 7)
rank (LeftOut at) = (at, 8)
rank (Unknown at) = (at, 9)
rank (Twice at) = (at, 10)
rank (MissingBranch at) = (at, 11)
rank (MissingVariable at var) = (at, 12)
rank (Primed at) = (at, 13)

abbrev pub is_before : ℕ × ℕ → ℕ × ℕ → Bool
is_before a b = nat_lt a.0 b.0 || (a.0 == b.0 && nat_lt a.1 b.1)

-- the lesser of the fault that was found and this one
abbrev pub lesser : Option Refusal → Refusal → Option Refusal
lesser None r = Some r
lesser (Some q) r = if is_before (rank r) (rank q) then Some r else Some q

-- the least of the fault that was found and of these
unfoldable pub least : Option Refusal → List Refusal → Option Refusal
least found [] = found
least found (r ∷ rs) = least (lesser found r) rs

-- this fault, where the rule is broken
abbrev pub when : Bool → Refusal → List Refusal
when true r = r ∷ []
when false r = []
