-- A binary search in distinct ranges in order finds each range that is among them.
use Rattle.std.proofs.Common.{ℕ, ℤ, ◌⊎◌, inl, inr, ◌+◌, ◌<◌, ◌≤◌, ◌≡◌, Bool, true, false, cond, List, map, length, get_or, Result, Ok, Err, Less, Equal, Greater, Contains, refl, ap, ◌∙◌, arith}
use Rattle.std.specs.BTreeSet.{BTreeSet, contains, Updates}
use Rattle.std.specs.List.Sorted.{IsStrictlySortedBy, IsSortedBy, IsPartitionPoint, IsBinarySearchResult}
use Rattle.std.specs.Ordering.{int_cmp, is_eq, is_lt, ordering_reverse}
use Rattle.std.specs.Result.{IsOk}
use Rattle.std.proofs.lemmas.Bool.{cases_lt}
use Rattle.std.proofs.lemmas.Cmp.{tied_itself}
use Rattle.std.proofs.lemmas.List.{get_or-map, length-map}
use Rattle.std.proofs.lemmas.List.Sorted.{searchable_from_sorted}
use Rattle.std.proofs.lemmas.Map.Keys.{Less-from_sorted}
use Rattle.std.proofs.lemmas.Map.Lookups.{exact_pairs, exact_signed}
use Rattle.std.proofs.lemmas.Map.Views.{btree_set_contains_iff}
use Rattle.spd_model.specs.Ranges.{Range}
use Rattle.spd_plain.specs.declared.ranges.Bounds.{Bounds}
use Rattle.spd_plain.specs.inner.Bounds.{range_of, bounds_cmp}
use Rattle.spd_plain.proofs.RangeOrder.{bounds_cmp_total}

-- bounds that compare equal are the same
pub exact : (a b : Bounds) → bounds_cmp a b ≡ Equal → a ≡ b
exact a b h = let same = exact_pairs int_cmp int_cmp exact_signed exact_signed (a.low, a.high) (b.low, b.high) h in λ i. record { low = (same i).0; high = (same i).1 }

-- a set with one bound more has it, and those that it had
pub set_more : (s n : BTreeSet Bounds) (k b : Bounds) → Updates bounds_cmp s n k true → contains bounds_cmp s b ≡ true → contains bounds_cmp n b ≡ true
set_more s n k b u h = u.0 b ∙ ap (cond (is_eq (bounds_cmp k b)) true) h ∙ either (is_eq (bounds_cmp k b))
  where
    either : (c : Bool) → cond c true true ≡ true
    either true = refl
    either false = refl

pub set_contains : (s : BTreeSet Bounds) (b : Bounds) → contains bounds_cmp s b ≡ true → Contains s.keys b
set_contains s b h = (btree_set_contains_iff bounds_cmp_total exact s b).0 h

-- ---- the search

sorted_from_strict : (ks : List Bounds) → IsStrictlySortedBy bounds_cmp ks → IsSortedBy (λ a b. is_lt (bounds_cmp a b)) ks
sorted_from_strict ks s k d h l =
    ap is_lt (bounds_cmp_total.antisymm (get_or ks (k + 1) d) (get_or ks k d) ∙ ap ordering_reverse (Less-from_sorted bounds_cmp ks k (k + 1) d s (omega arith) l))

not_apart : (ks : List Bounds) (x : Bounds) (i : ℕ) → IsPartitionPoint (λ y. bounds_cmp y x ≡ Less) (λ y. bounds_cmp y x ≡ Greater) ks i → (at : Contains ks x) → (at.0 < i) ⊎ (i ≤ at.0) → ⊥
not_apart ks x i h at (inl l) =
    let less = h.0 at.0 x (omega arith) l in let itself = tied_itself bounds_cmp_total x in let is = ap (λ y. bounds_cmp y x) at.2 in cc
not_apart ks x i h at (inr l) =
    let greater = h.1 at.0 x l at.1 in let itself = tied_itself bounds_cmp_total x in let is = ap (λ y. bounds_cmp y x) at.2 in cc

pub search_finds : (ks : List Bounds) (x : Bounds) (r : Result ℕ ℕ) → Contains ks x → IsStrictlySortedBy bounds_cmp ks → IsBinarySearchResult (λ y. bounds_cmp y x) ks r → IsOk r
search_finds ks x (Ok k) at s f = refl
search_finds ks x (Err k) at s f =
    absurd (not_apart ks x k (f (searchable_from_sorted bounds_cmp_total (λ (y : Bounds). y) ks x (sorted_from_strict ks s))) at (cases_lt at.0 k))

-- the value at the place that is found
pub value_read : (f : Range → ℤ) (ks : List Bounds) (values : List ℤ) (i : ℕ) (x : Bounds) (v : ℤ) → values ≡ map f (map range_of ks) → i < length ks → get_or ks i x ≡ x → v ≡ get_or values i v → v ≡ f (range_of x)
value_read f ks values i x v e h same read =
    read ∙ ap (λ l. get_or l i v) e
    ∙ get_or-map f (map range_of ks) i (range_of x) v (rw (length-map ks range_of) h)
    ∙ ap f (get_or-map range_of ks i x (range_of x) h)
    ∙ ap (λ y. f (range_of y)) same
