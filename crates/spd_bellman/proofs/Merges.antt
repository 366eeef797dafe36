-- What a merge does to a range: its value is the middle of a group that encloses the range and is no wider than the span or than the
-- widest range.
use Rattle.std.proofs.Common.{◌≡◌, ◌⊎◌, inl, inr, ℕ, zero, suc, ◌<◌, Bool, true, false, ◌||◌, if◌then◌else◌, List, [], ◌∷◌, ◌++◌, length, fold, get_or, All, ℤ, pos, ◌+ℤ◌, ◌≤ℤ◌, ◌<ℤ◌, int_le, int_lt, refl, sym, ◌∙◌, true≢false, arith}
use Rattle.std.specs.List.{list_any}
use Rattle.std.proofs.lemmas.Bool.{and_parts, or_cases, or_parts, or_left, or_right}
use Rattle.std.proofs.lemmas.Int.{ints, int_max_is}
use Rattle.std.proofs.lemmas.List.Elements.{All-nil, All-cons, All-head, All-tail, All-append, All-weaker}
use Rattle.std.proofs.lemmas.List.Folds.{list_any-append}
use Rattle.spd_scaled.proofs.CallerLemmas.Ring.{int_lt-true, int_lt-false, int_eq-true}
use Rattle.spd_scaled.proofs.CallerLemmas.DivisionLaws.{floor_div_at_most, floor_div_next_above}
use Rattle.spd_model.specs.Ranges.{Range, is_same, is_before, with_range, in_order, Group, group_of, joined, groups_from, groups_of, middle_of, value_in}
use Rattle.spd_model.proofs.CallerLemmas.Ranges.{is_same_itself}

-- ---- the ranges in order

by_test : {X : Type 0} (P : List X → Type 0) (b : Bool) (xs ys : List X) → (b ≡ true → P xs) → (b ≡ false → P ys) → P (if b then xs else ys)
by_test P true xs ys p q = p refl
by_test P false xs ys p q = q refl

-- each range has a lower end that none after it goes below
abbrev Ascends : List Range → Type 0
Ascends [] = Unit {0}
Ascends (p ∷ ps) = All (λ (q : Range). p.low ≤ℤ q.low) ps × Ascends ps

with_range_all : (P : Range → Type 0) (ps : List Range) (p : Range) → All P ps → P p → All P (with_range ps p)
with_range_all P [] p h k = All-cons P p [] k h
with_range_all P (q ∷ qs) p h k =
    by_test (All P) (is_same p q) (q ∷ qs) _ (λ e. h)
    (λ e. by_test (All P) (is_before p q) (p ∷ q ∷ qs) (q ∷ with_range qs p) (λ f. All-cons P p (q ∷ qs) k h)
    (λ f. All-cons P q (with_range qs p) (All-head P q qs h) (with_range_all P qs p (All-tail P q qs h) k)))

in_order_all : (P : Range → Type 0) (before ps : List Range) → All P before → All P ps → All P (fold with_range before ps)
in_order_all P before [] h k = h
in_order_all P before (p ∷ ps) h k = in_order_all P (with_range before p) ps (with_range_all P before p h (All-head P p ps k)) (All-tail P p ps k)

-- a test of the order says how the lower ends lie
before_low : (p q : Range) → is_before p q ≡ true → p.low ≤ℤ q.low
before_low p q h = elim (or_cases (int_lt p.low q.low) _ h) [
  | inl less ↦ let l = int_lt-true p.low q.low less in omega (arith, ints)
  | inr tied ↦ let e = int_eq-true p.low q.low (and_parts _ _ tied).0 in omega (arith, ints)
]

not_before_low : (p q : Range) → is_before p q ≡ false → q.low ≤ℤ p.low
not_before_low p q h = int_lt-false p.low q.low (or_parts (int_lt p.low q.low) _ h).0

low_trans : (x : ℤ) (p q : Range) → x ≤ℤ p.low → p.low ≤ℤ q.low → x ≤ℤ q.low
low_trans x p q h k = omega (arith, ints)

with_range_ascends : (ps : List Range) (p : Range) → Ascends ps → Ascends (with_range ps p)
with_range_ascends [] p h = (All-nil _, tt)
with_range_ascends (q ∷ qs) p h =
    by_test Ascends (is_same p q) (q ∷ qs) _ (λ e. h)
    (λ e. by_test Ascends (is_before p q) (p ∷ q ∷ qs) (q ∷ with_range qs p)
    (λ f. (
      All-cons (λ (r : Range). p.low ≤ℤ r.low) q qs (before_low p q f)
          (All-weaker (λ (r : Range). q.low ≤ℤ r.low) (λ (r : Range). p.low ≤ℤ r.low) (λ r k. low_trans p.low q r (before_low p q f) k) qs h.0),
      h,
    ))
    (λ f. (with_range_all (λ (r : Range). q.low ≤ℤ r.low) qs p h.0 (not_before_low p q f), with_range_ascends qs p h.1)))

in_order_ascends : (before ps : List Range) → Ascends before → Ascends (fold with_range before ps)
in_order_ascends before [] h = h
in_order_ascends before (p ∷ ps) h = in_order_ascends (with_range before p) ps (with_range_ascends before p h)

-- ---- each range is among them

abbrev IsAmong : Range → List Range → Type 0
IsAmong p qs = list_any (is_same p) qs ≡ true

has_placed : (qs : List Range) (p : Range) → IsAmong p (with_range qs p)
has_placed [] p = or_left (is_same p p) false (is_same_itself p)
has_placed (q ∷ qs) p =
    by_test (IsAmong p) (is_same p q) (q ∷ qs) _ (λ e. or_left (is_same p q) _ e)
    (λ e. by_test (IsAmong p) (is_before p q) (p ∷ q ∷ qs) (q ∷ with_range qs p) (λ f. or_left (is_same p p) _ (is_same_itself p))
    (λ f. or_right (is_same p q) _ (has_placed qs p)))

has_kept : (q : Range) (rs : List Range) (p : Range) → IsAmong q rs → IsAmong q (with_range rs p)
has_kept q [] p h = absurd (true≢false (sym h))
has_kept q (r ∷ rs) p h =
    by_test (IsAmong q) (is_same p r) (r ∷ rs) _ (λ e. h)
    (λ e. by_test (IsAmong q) (is_before p r) (p ∷ r ∷ rs) (r ∷ with_range rs p) (λ f. or_right (is_same q p) _ h)
    (λ f. elim (or_cases (is_same q r) _ h) [
      | inl here ↦ or_left (is_same q r) _ here
      | inr later ↦ or_right (is_same q r) _ (has_kept q rs p later)
    ]))

has_all : (q : Range) (rs xs : List Range) → IsAmong q rs → IsAmong q (fold with_range rs xs)
has_all q rs [] h = h
has_all q rs (x ∷ xs) h = has_all q (with_range rs x) xs (has_kept q rs x h)

has_each : (rs xs : List Range) (i : ℕ) (d : Range) → i < length xs → IsAmong (get_or xs i d) (fold with_range rs xs)
has_each rs [] i d h = absurd (omega arith)
has_each rs (x ∷ xs) zero d h = has_all x (with_range rs x) xs (has_placed rs x)
has_each rs (x ∷ xs) (suc i) d h = has_each (with_range rs x) xs i d (omega arith)

-- ---- the groups

record IsIn (g : Group) (q : Range) : Type 0 where
  low : g.low ≤ℤ q.low
  high : q.high ≤ℤ g.high

by_choice : (P : List Group → Type 0) (b : Bool) (gs hs : List Group) → (b ≡ true → P gs) → P hs → P (elim b [ true ↦ gs | false ↦ hs ])
by_choice P true gs hs p q = p refl
by_choice P false gs hs p q = q

-- the value x is the middle of what is at most c wide and encloses p, up to the rounding
pub record IsMiddle (c : ℤ) (p : Range) (x : ℤ) : Type 0 where
  pub below : (x +ℤ x) ≤ℤ (p.low +ℤ p.low +ℤ c)
  pub above : (p.high +ℤ p.high) ≤ℤ (x +ℤ x +ℤ c +ℤ pos 1)

-- a range at most c wide
abbrev pub IsNarrow : ℤ → Range → Type 0
IsNarrow c p = p.high ≤ℤ (p.low +ℤ c)

module _ (span c : ℤ) (room : span ≤ℤ c) where
  record IsTight (g : Group) : Type 0 where
    members : All (IsIn g) g.members
    narrow : g.high ≤ℤ (g.low +ℤ c)

  tight_alone : (p : Range) → IsNarrow c p → IsTight (group_of p)
  tight_alone p h = record {
    members = All-cons (IsIn (group_of p)) p [] (record { low = omega (arith, ints); high = omega (arith, ints) }) (All-nil (IsIn (group_of p)));
    narrow = h;
  }

  still_in : (g : Group) (p q : Range) → IsIn g q → IsIn (joined g p) q
  still_in g p q h = record { low = h.low; high = omega (arith, ints, h.high, int_max_is g.high p.high) }

  le_true : (x y z : ℤ) → int_le x y ≡ true → y ≤ℤ z → x ≤ℤ z
  le_true x y z h k = grind (arith, ints)

  tight_joined : (g : Group) (p : Range) → IsTight g → g.low ≤ℤ p.low → int_le (joined g p).high (g.low +ℤ span) ≡ true → IsTight (joined g p)
  tight_joined g p h k fits = record {
    members = All-append (IsIn (joined g p)) g.members (p ∷ []) (All-weaker (IsIn g) (IsIn (joined g p)) (λ q is. still_in g p q is) g.members h.members)
        (All-cons (IsIn (joined g p)) p [] (record { low = k; high = omega (arith, ints, int_max_is g.high p.high) }) (All-nil (IsIn (joined g p))));
    narrow = le_true (joined g p).high (g.low +ℤ span) (g.low +ℤ c) fits (omega (arith, ints));
  }

  groups_from_tight : (g : Group) (ps : List Range) → IsTight g → All (λ (q : Range). g.low ≤ℤ q.low) ps → Ascends ps → All (IsNarrow c) ps
      → All IsTight (groups_from span g ps)
  groups_from_tight g [] h lows ascends narrow = All-cons IsTight g [] h (All-nil IsTight)
  groups_from_tight g (p ∷ ps) h lows ascends narrow =
      let low = All-head (λ (q : Range). g.low ≤ℤ q.low) p ps lows in
      let later = All-tail (IsNarrow c) p ps narrow in
      by_choice (All IsTight) (int_le (joined g p).high (g.low +ℤ span)) (groups_from span (joined g p) ps) (g ∷ groups_from span (group_of p) ps)
      (λ fits. groups_from_tight (joined g p) ps (tight_joined g p h low fits) (All-tail (λ (q : Range). g.low ≤ℤ q.low) p ps lows) ascends.1 later)
      (All-cons IsTight g _ h (groups_from_tight (group_of p) ps (tight_alone p (All-head (IsNarrow c) p ps narrow)) ascends.0 ascends.1 later))

  groups_of_tight : (ps : List Range) → Ascends ps → All (IsNarrow c) ps → All IsTight (groups_of span ps)
  groups_of_tight [] ascends narrow = All-nil IsTight
  groups_of_tight (p ∷ ps) ascends narrow =
      groups_from_tight (group_of p) ps (tight_alone p (All-head (IsNarrow c) p ps narrow)) ascends.0 ascends.1 (All-tail (IsNarrow c) p ps narrow)

  -- p is a member of one of these groups
  abbrev IsMember : Range → List Group → Type 0
  IsMember p gs = list_any (λ (g : Group). list_any (is_same p) g.members) gs ≡ true

  among_push : (p q : Range) (ms : List Range) → IsAmong p ms ⊎ (is_same p q ≡ true) → IsAmong p (ms ++ q ∷ [])
  among_push p q ms (inl h) = list_any-append (is_same p) ms (q ∷ []) ∙ or_left (list_any (is_same p) ms) _ h
  among_push p q ms (inr h) = list_any-append (is_same p) ms (q ∷ []) ∙ or_right (list_any (is_same p) ms) _ (or_left (is_same p q) false h)

  groups_from_member : (p : Range) (g : Group) (ps : List Range) → IsAmong p g.members ⊎ IsAmong p ps → IsMember p (groups_from span g ps)
  groups_from_member p g [] (inl h) = or_left (list_any (is_same p) g.members) false h
  groups_from_member p g [] (inr h) = absurd (true≢false (sym h))
  groups_from_member p g (q ∷ qs) (inl h) =
      by_choice (IsMember p) (int_le (joined g q).high (g.low +ℤ span)) (groups_from span (joined g q) qs) (g ∷ groups_from span (group_of q) qs)
      (λ fits. groups_from_member p (joined g q) qs (inl (among_push p q g.members (inl h))))
      (or_left (list_any (is_same p) g.members) _ h)
  groups_from_member p g (q ∷ qs) (inr h) =
      by_choice (IsMember p) (int_le (joined g q).high (g.low +ℤ span)) (groups_from span (joined g q) qs) (g ∷ groups_from span (group_of q) qs)
      (λ fits. elim (or_cases (is_same p q) _ h) [
        | inl here ↦ groups_from_member p (joined g q) qs (inl (among_push p q g.members (inr here)))
        | inr later ↦ groups_from_member p (joined g q) qs (inr later)
      ])
      (or_right (list_any (is_same p) g.members) _ (elim (or_cases (is_same p q) _ h) [
        | inl here ↦ groups_from_member p (group_of q) qs (inl (or_left (is_same p q) false here))
        | inr later ↦ groups_from_member p (group_of q) qs (inr later)
      ]))

  groups_of_member : (p : Range) (ps : List Range) → IsAmong p ps → IsMember p (groups_of span ps)
  groups_of_member p [] h = absurd (true≢false (sym h))
  groups_of_member p (q ∷ qs) h = elim (or_cases (is_same p q) _ h) [
    | inl here ↦ groups_from_member p (group_of q) qs (inl (or_left (is_same p q) false here))
    | inr later ↦ groups_from_member p (group_of q) qs (inr later)
  ]

  -- ---- the value of a member

  same_in : (g : Group) (p q : Range) → is_same p q ≡ true → IsIn g q → IsIn g p
  same_in g p q h is =
      let parts = and_parts _ _ h in
      let low = int_eq-true p.low q.low parts.0 in
      let high = int_eq-true p.high q.high parts.1 in
      record { low = omega (arith, ints, is.low); high = omega (arith, ints, is.high) }

  member_in : (g : Group) (p : Range) (qs : List Range) → All (IsIn g) qs → IsAmong p qs → IsIn g p
  member_in g p [] h k = absurd (true≢false (sym k))
  member_in g p (q ∷ qs) h k = elim (or_cases (is_same p q) _ k) [
    | inl here ↦ same_in g p q here (All-head (IsIn g) q qs h)
    | inr later ↦ member_in g p qs (All-tail (IsIn g) q qs h) later
  ]

  two_above : pos 0 <ℤ pos 2
  two_above = record { lt = tt }

  middle_is : (g : Group) (p : Range) → IsTight g → IsIn g p → IsMiddle c p (middle_of g)
  middle_is g p h is =
      let below = floor_div_at_most (g.low +ℤ g.high) (pos 2) two_above in
      let above = floor_div_next_above (g.low +ℤ g.high) (pos 2) two_above in
      record {
        below = omega (arith, ints, h.narrow, is.low, below);
        above = omega (arith, ints, h.narrow, is.high, above);
      }

  value_is : (gs : List Group) (p : Range) → All IsTight gs → IsMember p gs → IsMiddle c p (value_in gs p)
  value_is [] p h k = absurd (true≢false (sym k))
  value_is (g ∷ gs) p h k = of_test (list_any (is_same p) g.members) refl (value_is gs p (All-tail IsTight g gs h)) k
    where
      of_test : (b : Bool) → list_any (is_same p) g.members ≡ b → (IsMember p gs → IsMiddle c p (value_in gs p))
          → (b || list_any (λ (f : Group). list_any (is_same p) f.members) gs) ≡ true → IsMiddle c p (if b then middle_of g else value_in gs p)
      of_test true e later among = middle_is g p (All-head IsTight g gs h) (member_in g p g.members (All-head IsTight g gs h).members e)
      of_test false e later among = later among

  -- the merged value of each range of a list whose ranges are narrow
  pub merged_middle : (ps : List Range) (i : ℕ) (d : Range) → i < length ps → All (IsNarrow c) ps
      → IsMiddle c (get_or ps i d) (value_in (groups_of span (in_order ps)) (get_or ps i d))
  merged_middle ps i d near narrow =
      value_is (groups_of span (in_order ps)) (get_or ps i d)
      (groups_of_tight (in_order ps) (in_order_ascends [] ps tt) (in_order_all (IsNarrow c) [] ps (All-nil (IsNarrow c)) narrow))
      (groups_of_member (get_or ps i d) (in_order ps) (has_each [] ps i d near))
