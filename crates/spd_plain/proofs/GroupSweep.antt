-- One sweep over ranges in order gives the middle of its group for each.
use Rattle.std.proofs.Common.{ℕ, ◌<◌, ◌≤◌, ◌-◌, get_or, take, drop, arith, Less, ◌+◌, ◌≡◌, Bool, true, false, ◌||◌, ℤ, pos, ◌+ℤ◌, List, [], ◌∷◌, ◌++◌, map, length, replicate, refl, ap, sym, ◌∙◌, subst}
use Rattle.std.specs.Prelude.{int_le}
use Rattle.std.specs.Int.{int_max}
use Rattle.std.specs.Bool.{⊤, if◌then◌else◌}
use Rattle.std.specs.List.{flat_map, list_any, AllByRecursion}
use Rattle.std.proofs.lemmas.Bool.{or_parts, or_right}
use Rattle.std.proofs.lemmas.List.Folds.{list_any-append}
use Rattle.std.proofs.lemmas.List.{append-nil, append_assoc, length_push, map-append, length-map, length-append, length-replicate, drop_more, drop_all, take_all}
use Rattle.std.proofs.Math.ListN.{get_or-map}
use Rattle.std.proofs.lemmas.Map.Keys.{sorted_head, sorted_tail}
use Rattle.std.specs.List.Sorted.{IsStrictlySortedBy}
use Rattle.spd_scaled.specs.Scaled.{floor_div}
use Rattle.spd_model.specs.Ranges.{Range, Group, group_of, groups_from, groups_of, joined, is_same, middle_of, value_in}
use Rattle.spd_plain.specs.declared.ranges.Bounds.{Bounds}
use Rattle.spd_plain.specs.inner.Bounds.{range_of, bounds_cmp}
use Rattle.spd_plain.proofs.RangeOrder.{other_if_below}
use Rattle.spd_model.proofs.CallerLemmas.Ranges.{is_same_itself}
use Rattle.spd_model.proofs.CallerLemmas.Greatest.{max_itself}

-- the middle of its group for each member
abbrev pub middles : Group → List ℤ
middles g = replicate (length g.members) (middle_of g)

-- the middles of the groups of the ranges ps, after a group from low to high of n members is begun
abbrev pub sweep : ℤ → ℤ → ℤ → ℕ → List Range → List ℤ
sweep span low high n [] = replicate n (floor_div (low +ℤ high) (pos 2))
sweep span low high n (p ∷ ps) = if int_le (int_max high p.high) (low +ℤ span)
    then sweep span low (int_max high p.high) (n + 1) ps
    else replicate n (floor_div (low +ℤ high) (pos 2)) ++ sweep span p.low p.high 1 ps

by_test : (P : List Group → List ℤ → Type 0) (b : Bool) (gs hs : List Group) (xs ys : List ℤ) → P gs xs → P hs ys → P (elim b [ true ↦ gs | false ↦ hs ]) (if b then xs else ys)
by_test P true gs hs xs ys p q = p
by_test P false gs hs xs ys p q = q

pub sweep_is : (span : ℤ) (g : Group) (ps : List Range) → flat_map middles (groups_from span g ps) ≡ sweep span g.low g.high (length g.members) ps
sweep_is span g [] = append-nil (middles g)
sweep_is span g (p ∷ ps) =
    by_test (λ gs xs. flat_map middles gs ≡ xs) (int_le (joined g p).high (g.low +ℤ span))
    _ _ _ _
    (sweep_is span (joined g p) ps ∙ ap (λ n. sweep span g.low (int_max g.high p.high) n ps) (length_push g.members p))
    (ap (λ xs. middles g ++ xs) (sweep_is span (group_of p) ps))

-- no range of ps is in ms, nor equal to an earlier one of ps
abbrev pub Fresh : List Range → List Range → Type 0
Fresh ms [] = ⊤
Fresh ms (p ∷ ps) = (list_any (is_same p) ms ≡ false) × Fresh (ms ++ p ∷ []) ps

none_before : (f : Range → Bool) (xs ys : List Range) → list_any f (xs ++ ys) ≡ false → list_any f xs ≡ false
none_before f xs ys h = (or_parts (list_any f xs) (list_any f ys) (sym (list_any-append f xs ys) ∙ h)).0

none_after : (f : Range → Bool) (xs ys : List Range) → list_any f (xs ++ ys) ≡ false → list_any f ys ≡ false
none_after f xs ys h = (or_parts (list_any f xs) (list_any f ys) (sym (list_any-append f xs ys) ∙ h)).1

narrow : (ms ns ps : List Range) → AllByRecursion (λ q. list_any (is_same q) (ms ++ ns) ≡ false) ps → AllByRecursion (λ q. list_any (is_same q) ms ≡ false) ps
narrow ms ns [] h = tt
narrow ms ns (p ∷ ps) h = (none_before (is_same p) ms ns h.0, narrow ms ns ps h.1)

fresh_apart : (ms ps : List Range) → Fresh ms ps → AllByRecursion (λ q. list_any (is_same q) ms ≡ false) ps
fresh_apart ms [] h = tt
fresh_apart ms (p ∷ ps) h = (h.0, narrow ms (p ∷ []) ps (fresh_apart (ms ++ p ∷ []) ps h.1))

fresh_later : (ms ns ps : List Range) → Fresh (ms ++ ns) ps → Fresh ns ps
fresh_later ms ns [] h = tt
fresh_later ms ns (p ∷ ps) h =
    (none_after (is_same p) ms ns h.0, fresh_later ms (ns ++ p ∷ []) ps (subst (λ l. Fresh l ps) (append_assoc ms ns (p ∷ [])) h.1))

-- each member of a group takes its middle
each_member : (before qs : List Range) → AllByRecursion (λ q. list_any (is_same q) (before ++ qs) ≡ true) qs
each_member before [] = tt
each_member before (q ∷ qs) = (
  list_any-append (is_same q) before (q ∷ qs) ∙ or_right (list_any (is_same q) before) _ (ap (λ b. b || list_any (is_same q) qs) (is_same_itself q)),
  subst (λ l. AllByRecursion (λ r. list_any (is_same r) l ≡ true) qs) (append_assoc before (q ∷ []) qs) (each_member (before ++ q ∷ []) qs),
)

at_members : (g : Group) (gs : List Group) (qs : List Range) → AllByRecursion (λ q. list_any (is_same q) g.members ≡ true) qs → map (value_in (g ∷ gs)) qs ≡ replicate (length qs) (middle_of g)
at_members g gs [] h = refl
at_members g gs (q ∷ qs) h = rw h.0 (ap (λ xs. middle_of g ∷ xs) (at_members g gs qs h.1))

past_group : (g : Group) (gs : List Group) (qs : List Range) → AllByRecursion (λ q. list_any (is_same q) g.members ≡ false) qs → map (value_in (g ∷ gs)) qs ≡ map (value_in gs) qs
past_group g gs [] h = refl
past_group g gs (q ∷ qs) h = rw h.0 (ap (λ xs. value_in gs q ∷ xs) (past_group g gs qs h.1))

by_groups : (P : List Group → Type 0) (b : Bool) (gs hs : List Group) → P gs → P hs → P (elim b [ true ↦ gs | false ↦ hs ])
by_groups P true gs hs p q = p
by_groups P false gs hs p q = q

-- the value of each range, of a group that is begun and of those after it
pub values_are : (span : ℤ) (g : Group) (ps : List Range) → Fresh g.members ps → map (value_in (groups_from span g ps)) (g.members ++ ps) ≡ flat_map middles (groups_from span g ps)
values_are span g [] h =
    ap (map (value_in (g ∷ []))) (append-nil g.members)
    ∙ at_members g [] g.members (each_member [] g.members)
    ∙ sym (append-nil (middles g))
values_are span g (p ∷ ps) h =
    by_groups (λ gs. map (value_in gs) (g.members ++ p ∷ ps) ≡ flat_map middles gs) (int_le (joined g p).high (g.low +ℤ span))
    _ _
    (ap (map (value_in (groups_from span (joined g p) ps))) (sym (append_assoc g.members (p ∷ []) ps)) ∙ values_are span (joined g p) ps h.1)
    (map-append (value_in (g ∷ groups_from span (group_of p) ps)) g.members (p ∷ ps)
    ∙ rw (at_members g (groups_from span (group_of p) ps) g.members (each_member [] g.members), past_group g (groups_from span (group_of p) ps) (p ∷ ps) (fresh_apart g.members (p ∷ ps) h))
    (ap (λ xs. middles g ++ xs) (values_are span (group_of p) ps (fresh_later g.members (p ∷ []) ps h.1))))

-- the values of distinct ranges are what the sweep gives
pub sweep_values : (span : ℤ) (p : Range) (ps : List Range) → Fresh [] (p ∷ ps) → sweep span p.low p.high 1 ps ≡ map (value_in (groups_of span (p ∷ ps))) (p ∷ ps)
sweep_values span p ps h = sym (sweep_is span (group_of p) ps) ∙ sym (values_are span (group_of p) ps h.1)

-- ---- the steps of the loop

drop_mapped : (rs : List Bounds) (i : ℕ) (d : Bounds) → i < length rs → drop i (map range_of rs) ≡ range_of (get_or rs i d) ∷ drop (i + 1) (map range_of rs)
drop_mapped rs i d h =
    drop_more (map range_of rs) i (range_of d) (rw (length-map rs range_of) h)
    ∙ ap (λ p. p ∷ drop (i + 1) (map range_of rs)) (get_or-map range_of rs i d)

joins : (span low high : ℤ) (n : ℕ) (p : Range) (ps : List Range) → int_le (int_max high p.high) (low +ℤ span) ≡ true
    → sweep span low (int_max high p.high) (n + 1) ps ≡ sweep span low high n (p ∷ ps)
joins span low high n p ps t = rw t refl

begins : (span low high : ℤ) (n : ℕ) (p : Range) (ps : List Range) → int_le (int_max high p.high) (low +ℤ span) ≡ false
    → replicate n (floor_div (low +ℤ high) (pos 2)) ++ sweep span p.low p.high 1 ps ≡ sweep span low high n (p ∷ ps)
begins span low high n p ps t = rw t refl

-- the group takes the next range
pub swept_joins : (span low high : ℤ) (i : ℕ) (d : Bounds) (values target : List ℤ) (rs : List Bounds) → i < length rs → length values ≤ i
    → int_le (int_max high (get_or rs i d).high) (low +ℤ span) ≡ true
    → values ++ sweep span low high (i - length values) (drop i (map range_of rs)) ≡ target
    → values ++ sweep span low (int_max high (get_or rs i d).high) (i + 1 - length values) (drop (i + 1) (map range_of rs)) ≡ target
swept_joins span low high i d values target rs h k t e =
    let count : i + 1 - length values ≡ i - length values + 1 = omega arith in
    rw count
    (ap (λ xs. values ++ xs) (joins span low high (i - length values) (range_of (get_or rs i d)) (drop (i + 1) (map range_of rs)) t
    ∙ ap (sweep span low high (i - length values)) (sym (drop_mapped rs i d h))) ∙ e)

-- the group ends before the next range
pub swept_begins : (span low high : ℤ) (i n : ℕ) (d : Bounds) (values target : List ℤ) (rs : List Bounds) → i < length rs → length values ≤ i → n ≡ length values
    → int_le (int_max high (get_or rs i d).high) (low +ℤ span) ≡ false
    → values ++ sweep span low high (i - length values) (drop i (map range_of rs)) ≡ target
    → let more = take i values ++ replicate (i - n) (floor_div (low +ℤ high) (pos 2)) in
    more ++ sweep span (get_or rs i d).low (get_or rs i d).high (i + 1 - length more) (drop (i + 1) (map range_of rs)) ≡ target
swept_begins span low high i n d values target rs h k l t e =
    let all : take i values ≡ values = take_all i values k in
    let count : i + 1 - length (values ++ replicate (i - length values) (floor_div (low +ℤ high) (pos 2))) ≡ 1 = simp (length-append, length-replicate) (omega arith) in
    rw (l, all, count, append_assoc values (replicate (i - length values) (floor_div (low +ℤ high) (pos 2))) (sweep span (get_or rs i d).low (get_or rs i d).high 1 (drop (i + 1) (map range_of rs))))
    (ap (λ xs. values ++ xs) (begins span low high (i - length values) (range_of (get_or rs i d)) (drop (i + 1) (map range_of rs)) t
    ∙ ap (sweep span low high (i - length values)) (sym (drop_mapped rs i d h))) ∙ e)

pub begun_below : (i n : ℕ) (x : ℤ) (values : List ℤ) → length values ≤ i → n ≡ length values → length (take i values ++ replicate (i - n) x) ≤ i + 1
begun_below i n x values k l = rw (take_all i values k) (simp (length-append, length-replicate) (omega arith))

-- the last group ends
pub swept_ends : (span low high : ℤ) (i n : ℕ) (values target : List ℤ) (rs : List Bounds) → i ≡ length rs → length values ≤ i → n ≡ length values
    → values ++ sweep span low high (i - length values) (drop i (map range_of rs)) ≡ target
    → take (length rs) values ++ replicate (length rs - n) (floor_div (low +ℤ high) (pos 2)) ≡ target
swept_ends span low high i n values target rs h k l e =
    let none : drop i (map range_of rs) ≡ [] = drop_all i (map range_of rs) (rw (length-map rs range_of) (omega arith)) in
    rw (← h, l, take_all i values k) (rw none at e)

same_lists : (b : Bool) (xs : List ℤ) → (if b then xs else xs) ≡ xs
same_lists true xs = refl
same_lists false xs = refl

first_step : (span : ℤ) (p : Range) (ps : List Range) → sweep span p.low p.high 0 (p ∷ ps) ≡ sweep span p.low p.high 1 ps
first_step span p ps = rw (max_itself p.high) (same_lists (int_le p.high (p.low +ℤ span)) (sweep span p.low p.high 1 ps))

-- the first range begins the first group
pub swept_first : (span : ℤ) (p : Range) (ps : List Range) → Fresh [] (p ∷ ps)
    → sweep span p.low p.high 0 (p ∷ ps) ≡ map (value_in (groups_of span (p ∷ ps))) (p ∷ ps)
swept_first span p ps h = first_step span p ps ∙ sweep_values span p ps h

-- ranges in order are distinct
apart_more : (ms : List Range) (k : Bounds) (ks : List Bounds) → AllByRecursion (λ q. list_any (is_same q) ms ≡ false) (map range_of ks) → AllByRecursion (λ y. bounds_cmp k y ≡ Less) ks
    → AllByRecursion (λ q. list_any (is_same q) (ms ++ range_of k ∷ []) ≡ false) (map range_of ks)
apart_more ms k [] h s = tt
apart_more ms k (q ∷ ks) h s = (
  list_any-append (is_same (range_of q)) ms (range_of k ∷ []) ∙ rw (h.0, other_if_below k q s.0) refl,
  apart_more ms k ks h.1 s.1,
)

pub fresh_sorted : (ms : List Range) (ks : List Bounds) → AllByRecursion (λ q. list_any (is_same q) ms ≡ false) (map range_of ks) → IsStrictlySortedBy bounds_cmp ks → Fresh ms (map range_of ks)
fresh_sorted ms [] h s = tt
fresh_sorted ms (k ∷ ks) h s = (h.0, fresh_sorted (ms ++ range_of k ∷ []) ks (apart_more ms k ks h.1 (sorted_head bounds_cmp k ks s)) (sorted_tail bounds_cmp k ks s))

apart_none : (ps : List Range) → AllByRecursion (λ q. list_any (is_same q) [] ≡ false) ps
apart_none [] = tt
apart_none (p ∷ ps) = (refl, apart_none ps)

pub swept_init : (span : ℤ) (first : Bounds) (values : List ℤ) (rs : List Bounds) → values ≡ [] → 0 < length rs → first ≡ get_or rs 0 first → IsStrictlySortedBy bounds_cmp rs
    → values ++ sweep span first.low first.high (0 - length values) (map range_of rs) ≡ map (value_in (groups_of span (map range_of rs))) (map range_of rs)
swept_init span first values [] v h e s = absurd (omega arith)
swept_init span first values (r ∷ rs) v h e s =
    rw (v, e) (swept_first span (range_of r) (map range_of rs) (fresh_sorted [] (r ∷ rs) (apart_none (map range_of (r ∷ rs))) s))
