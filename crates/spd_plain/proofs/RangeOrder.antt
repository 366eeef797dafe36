-- The derived order of bounds is the order of ranges.
use Rattle.std.proofs.Common.{◌++◌, fold, ℕ, ◌<◌, ◌+◌, length, take, get_or, ◌≡◌, Bool, true, false, cond, ◌&&◌, ◌||◌, List, [], ◌∷◌, map, Ordering, Less, Equal, Greater, refl, ap, sym, ◌∙◌}
use Rattle.std.specs.Prelude.{int_lt}
use Rattle.std.specs.Ordering.{int_cmp, ordering_then, is_eq, is_lt, match_ordering, ordering_reverse}
use Rattle.std.specs.Bool.{if◌then◌else◌}
use Rattle.std.specs.Cmp.{IsTotalOrder, on_total}
use Rattle.std.proofs.lemmas.Cmp.{then_total, int_cmp_total}
use Rattle.std.proofs.lemmas.List.{take_more}
use Rattle.std.specs.BTreeSet.{insert_key}
use Rattle.std.specs.Cmp.{tied_then}
use Rattle.spd_model.specs.Ranges.{Range, is_same, is_before, with_range, in_order}
use Rattle.spd_plain.specs.declared.ranges.Bounds.{Bounds}
use Rattle.spd_plain.specs.inner.Bounds.{range_of, bounds_cmp}

-- the order of ranges as one answer
abbrev pub range_cmp : Range → Range → Ordering
range_cmp p q = ordering_then (int_cmp p.low q.low) (int_cmp p.high q.high)

pub is_same_is : (p q : Range) → is_same p q ≡ is_eq (range_cmp p q)
is_same_is p q = tied_then (int_cmp p.low q.low) (int_cmp p.high q.high)

before_parts : (a b c d : Bool) → (a || (is_eq (cond a Less (cond b Greater Equal)) && c)) ≡ is_lt (ordering_then (cond a Less (cond b Greater Equal)) (cond c Less (cond d Greater Equal)))
before_parts true b c d = refl
before_parts false true c d = refl
before_parts false false true d = refl
before_parts false false false true = refl
before_parts false false false false = refl

pub is_before_is : (p q : Range) → is_before p q ≡ is_lt (range_cmp p q)
is_before_is p q = before_parts (int_lt p.low q.low) (int_lt q.low p.low) (int_lt p.high q.high) (int_lt q.high p.high)

-- one more range in its place
placed : (c : Ordering) (before same after : List Range) → match_ordering c before same after ≡ (if is_eq c then same else (if is_lt c then before else after))
placed Less before same after = refl
placed Equal before same after = refl
placed Greater before same after = refl

mapped : (c : Ordering) (before same after : List Bounds) → map range_of (match_ordering c before same after) ≡ match_ordering c (map range_of before) (map range_of same) (map range_of after)
mapped Less before same after = refl
mapped Equal before same after = refl
mapped Greater before same after = refl

pub map-insert_key : (ks : List Bounds) (k : Bounds) → map range_of (insert_key bounds_cmp ks k) ≡ with_range (map range_of ks) (range_of k)
map-insert_key [] k = refl
map-insert_key (q ∷ ks) k =
    mapped (bounds_cmp k q) (k ∷ q ∷ ks) (q ∷ ks) (q ∷ insert_key bounds_cmp ks k)
    ∙ placed (bounds_cmp k q) (map range_of (k ∷ q ∷ ks)) (map range_of (q ∷ ks)) (range_of q ∷ map range_of (insert_key bounds_cmp ks k))
    ∙ rw (is_same_is (range_of k) (range_of q), is_before_is (range_of k) (range_of q), map-insert_key ks k) refl

-- the distinct ranges of one bound more
in_order_push : (rs : List Range) (xs : List Bounds) (x : Bounds) → fold with_range rs (map range_of (xs ++ x ∷ [])) ≡ with_range (fold with_range rs (map range_of xs)) (range_of x)
in_order_push rs [] x = refl
in_order_push rs (y ∷ xs) x = in_order_push (with_range rs (range_of y)) xs x

pub in_order_more : (ks : List Bounds) (all : List Bounds) (i : ℕ) (d : Bounds) → map range_of ks ≡ in_order (map range_of (take i all)) → i < length all
    → with_range (map range_of ks) (range_of (get_or all i d)) ≡ in_order (map range_of (take (i + 1) all))
in_order_more ks all i d e h =
    ap (λ rs. with_range rs (range_of (get_or all i d))) e
    ∙ sym (rw (take_more all i d h) (in_order_push [] (take i all) (get_or all i d)))

-- ---- the order is total, and tells all ranges apart

pub bounds_cmp_total : IsTotalOrder bounds_cmp
bounds_cmp_total = then_total (on_total (λ (b : Bounds). b.low) int_cmp_total) (on_total (λ (b : Bounds). b.high) int_cmp_total)

not_same : (c d : Ordering) → c ≡ Less → c ≡ ordering_reverse d → is_eq d ≡ false
not_same c Less e h = refl
not_same c Equal e h = cc
not_same c Greater e h = refl

-- a bound that comes later is another
pub other_if_below : (a b : Bounds) → bounds_cmp a b ≡ Less → is_same (range_of b) (range_of a) ≡ false
other_if_below a b h =
    is_same_is (range_of b) (range_of a) ∙ not_same (bounds_cmp a b) (bounds_cmp b a) h (bounds_cmp_total.antisymm a b)
