-- Merging of ranges: values whose joint range stays within the span become one.
use Rattle.std.specs.Prelude.{◌++◌, Bool, true, false, ◌&&◌, ◌||◌, if◌then◌else◌, List, [], ◌∷◌, fold, map, ℤ, pos, ◌+ℤ◌, int_le, int_lt}
use Rattle.std.specs.Int.{int_max}
use Rattle.std.specs.List.{list_any}
use Rattle.std.specs.Ordering.{int_eq}
use Rattle.spd_scaled.specs.Scaled.{floor_div}

-- the range of a value: its least and its greatest bound
pub record Range : Type 0 where
  pub low : ℤ
  pub high : ℤ

abbrev pub is_same : Range → Range → Bool
is_same p q = int_eq p.low q.low && int_eq p.high q.high

-- the order of ranges: by the lower end, then by the upper end
abbrev pub is_before : Range → Range → Bool
is_before p q = int_lt p.low q.low || (int_eq p.low q.low && int_lt p.high q.high)

-- ranges in order with one more in its place, unless it is there
abbrev pub with_range : List Range → Range → List Range
with_range [] p = p ∷ []
with_range (q ∷ qs) p = if is_same p q then q ∷ qs else (if is_before p q then p ∷ q ∷ qs else q ∷ with_range qs p)

-- the distinct ranges of a list, in order
abbrev pub in_order : List Range → List Range
in_order ps = fold with_range [] ps

-- a group of ranges that follow one another: its members, the lower end of the first and the greatest upper end of all
pub record Group : Type 0 where
  pub members : List Range
  pub low : ℤ
  pub high : ℤ

abbrev pub group_of : Range → Group
group_of p = record { members = p ∷ []; low = p.low; high = p.high }

-- the group with one more range
abbrev pub joined : Group → Range → Group
joined g p = record { members = g.members ++ p ∷ []; low = g.low; high = int_max g.high p.high }

-- The groups of ranges in order, from a group that is begun. A group takes each next range as long as the greatest upper end,
-- that range's included, stays at most its lower end plus the span. The first range that it doesn't take begins the next group.
abbrev pub groups_from : ℤ → Group → List Range → List Group
groups_from span g [] = g ∷ []
groups_from span g (p ∷ ps) =
    elim (int_le (joined g p).high (g.low +ℤ span)) [ true ↦ groups_from span (joined g p) ps | false ↦ g ∷ groups_from span (group_of p) ps ]

abbrev pub groups_of : ℤ → List Range → List Group
groups_of span [] = []
groups_of span (p ∷ ps) = groups_from span (group_of p) ps

-- the middle of the group's range, rounded down: the value of each of its members
abbrev pub middle_of : Group → ℤ
middle_of g = floor_div (g.low +ℤ g.high) (pos 2)

-- the value of a range: the middle of the group that it is in
abbrev pub value_in : List Group → Range → ℤ
value_in [] p = pos 0
value_in (g ∷ gs) p = if list_any (is_same p) g.members then middle_of g else value_in gs p

-- the merged values of the ranges of all states, in order of the states
abbrev pub merged : ℤ → List Range → List ℤ
merged span ranges = let groups = groups_of span (in_order ranges) in map (value_in groups) ranges
