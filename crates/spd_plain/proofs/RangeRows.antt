-- Merging, computed: what a table's ranges become at some spans.
use Rattle.std.proofs.Common.{◌≡◌, List, [], ◌∷◌, ℤ, pos, negsuc, refl}
use Rattle.spd_model.specs.Ranges.{Range, merged}

abbrev range : ℤ → ℤ → Range
range low high = record { low = low; high = high }

-- neighbours that the span holds together get their middle
abbrev three : List Range
three = range (pos 0) (pos 0) ∷ range (pos 10) (pos 10) ∷ range (pos 20) (pos 20) ∷ []

at_ten : merged (pos 10) three ≡ pos 5 ∷ pos 5 ∷ pos 20 ∷ []
at_ten = refl

at_nothing : merged (pos 0) three ≡ pos 0 ∷ pos 10 ∷ pos 20 ∷ []
at_nothing = refl

-- values come in the order of their states, and a middle is rounded down
unordered : merged (pos 5) (range (pos 8) (pos 9) ∷ range (negsuc 2) (pos 2) ∷ range (pos 8) (pos 9) ∷ []) ≡ pos 8 ∷ negsuc 0 ∷ pos 8 ∷ []
unordered = refl

-- a first range wider than the span is a group alone
wide_first : merged (pos 1) (range (pos 0) (pos 5) ∷ range (pos 1) (pos 1) ∷ range (pos 2) (pos 2) ∷ []) ≡ pos 2 ∷ pos 1 ∷ pos 1 ∷ []
wide_first = refl

-- a later range may be wider than the group's first
wide_later : merged (pos 1) (range (pos 0) (pos 0) ∷ range (pos 0) (pos 3) ∷ range (pos 0) (pos 1) ∷ []) ≡ pos 0 ∷ pos 1 ∷ pos 0 ∷ []
wide_later = refl
