-- Groups of ranges in order: a sweep makes them, and a search among their first ranges finds the group of a range.
use Rattle.std.proofs.Common.{◌≡◌, ◌⊎◌, inl, inr, ℕ, zero, suc, ◌-◌, ◌<◌, ◌≤◌, Bool, true, false, ◌&&◌, ◌||◌, ℤ, pos, ◌+ℤ◌, List, [], ◌∷◌, ◌++◌, map, take, get_or, length, refl, sym, ap, ◌∙◌, subst, arith, true≢false}
use Rattle.std.specs.Prelude.{int_lt, int_le, Contains, AllPairs, All}
use Rattle.std.specs.Bool.{if◌then◌else◌}
use Rattle.std.specs.Int.{int_max}
use Rattle.std.specs.List.{list_any, AllWithin}
use Rattle.std.specs.List.Sorted.{IsPartitionedBy, IsPartitionPoint}
use Rattle.std.specs.Ordering.{int_eq}
use Rattle.std.proofs.lemmas.Bool.Decides.{nat_tests}
use Rattle.std.proofs.lemmas.Bool.{or_right, cases_lt}
use Rattle.std.proofs.lemmas.Int.{ints}
use Rattle.std.proofs.lemmas.List.Elements.{All-nil, All-cons, All-weaker, Contains-append_left, Contains-push, Contains-push_cases}
use Rattle.std.proofs.lemmas.List.Kept.{AllPairs-cons}
use Rattle.spd_scaled.specs.Scaled.{floor_div}
use Rattle.spd_model.specs.Ranges.{Range, Group as Merged, is_same, is_before, group_of, groups_from, groups_of, value_in}
use Rattle.spd_nodes.specs.declared.leaf.Leaf.{Leaf}
use Rattle.spd_nodes.specs.declared.leaf.Leaf.TheVariants.{Pair}
use Rattle.spd_ranges.specs.declared.groups.Group.{Group}
use Rattle.spd_ranges.specs.Merging.{pair_at, range_in}
use Rattle.spd_ranges.specs.inner.Groups.{begins_by, begun_by, first_of, last_begun, stands_before, told_by}
use Rattle.spd_ranges.proofs.OrderLaws.{Ascends, Contains-cases, Contains-here, Contains-later, Contains-none, before-apart}
use Rattle.spd_model.proofs.CallerLemmas.Ranges.{is_same_itself}

-- the groups that a sweep over ranges makes, after a group is begun
abbrev pub swept : ℤ → Group → List Range → List Group
swept span g [] = g ∷ []
swept span g (p ∷ ps) = if int_le (int_max g.high p.high) (g.low +ℤ span)
    then swept span (record { low = g.low; first_high = g.first_high; high = int_max g.high p.high }) ps
    else g ∷ swept span (begun_by p) ps

-- a group of the merge rule from its first range on
abbrev pub merged_from : Range → List Range → ℤ → Merged
merged_from m ms high = record { members = m ∷ ms; low = m.low; high = high }

-- the same as the sweep tells it
abbrev pub swept_from : Range → ℤ → Group
swept_from m high = record { low = m.low; first_high = m.high; high = high }

by_both : (P : List Merged → List Group → Type 0) (b : Bool) (xs ys : List Merged) (gs hs : List Group) → P xs gs → P ys hs → P (elim b [ true ↦ xs | false ↦ ys ]) (if b then gs else hs)
by_both P true xs ys gs hs p q = p
by_both P false xs ys gs hs p q = q

pub swept-is : (span : ℤ) (m : Range) (ms : List Range) (high : ℤ) (ps : List Range) → map told_by (groups_from span (merged_from m ms high) ps) ≡ swept span (swept_from m high) ps
swept-is span m ms high [] = refl
swept-is span m ms high (p ∷ ps) =
    by_both (λ xs gs. map told_by xs ≡ gs) (int_le (int_max high p.high) (m.low +ℤ span)) _ _ _ _
    (swept-is span m (ms ++ p ∷ []) (int_max high p.high) ps)
    (ap (λ gs. swept_from m high ∷ gs) (swept-is span p [] p.high ps))

pub swept-all : (span : ℤ) (p : Range) (ps : List Range) → map told_by (groups_of span (p ∷ ps)) ≡ swept span (begun_by p) ps
swept-all span p ps = swept-is span p [] p.high ps

-- the group takes the next range, or ends before it
pub swept-takes : (span : ℤ) (g : Group) (p : Range) (ps : List Range) → int_le (int_max g.high p.high) (g.low +ℤ span) ≡ true
    → swept span (record { low = g.low; first_high = g.first_high; high = int_max g.high p.high }) ps ≡ swept span g (p ∷ ps)
swept-takes span g p ps h = rw h refl

pub swept-ends : (span : ℤ) (g : Group) (p : Range) (ps : List Range) → int_le (int_max g.high p.high) (g.low +ℤ span) ≡ false → g ∷ swept span (begun_by p) ps ≡ swept span g (p ∷ ps)
swept-ends span g p ps h = rw h refl

-- ---- the order of first ranges

starts : (a x b y : ℤ) → (int_lt a b || (int_eq a b && int_lt x y)) ≡ true → (int_lt a b || (int_eq a b && int_le x y)) ≡ true
starts a x b y h = grind (arith, ints, nat_tests)

starts-not : (a x b y : ℤ) → (int_lt a b || (int_eq a b && int_lt x y)) ≡ true → (int_lt b a || (int_eq b a && int_le y x)) ≡ false
starts-not a x b y h = grind (arith, ints, nat_tests)

starts-self : (a x : ℤ) → (int_lt a a || (int_eq a a && int_le x x)) ≡ true
starts-self a x = grind (arith, ints, nat_tests)

starts-earlier : (a x b y c z : ℤ) → (int_lt a b || (int_eq a b && int_lt x y)) ≡ true → (int_lt b c || (int_eq b c && int_le y z)) ≡ true → (int_lt a c || (int_eq a c && int_le x z)) ≡ true
starts-earlier a x b y c z h k = grind (arith, ints, nat_tests)

begun-before : (p q : Range) (high : ℤ) → is_before p q ≡ true → begins_by q (swept_from p high) ≡ true
begun-before p q high = starts p.low p.high q.low q.high

begun-after : (p q : Range) (high : ℤ) → is_before p q ≡ true → begins_by p (swept_from q high) ≡ false
begun-after p q high = starts-not p.low p.high q.low q.high

begun-itself : (p : Range) (high : ℤ) → begins_by p (swept_from p high) ≡ true
begun-itself p high = starts-self p.low p.high

-- groups in order that begin by a range are the first ones
pub begun-parted : (p : Range) (groups : List Group) → AllPairs (λ g h. stands_before g h ≡ true) groups → IsPartitionedBy (begins_by p) groups
begun-parted p groups a i j d h k e = elim (cases_lt i j) [
  | inl l ↦ starts-earlier (get_or groups i d).low (get_or groups i d).first_high (get_or groups j d).low (get_or groups j d).first_high p.low p.high (a i j d l k) e
  | inr l ↦ let is : i ≡ j = omega arith in rw is e
]

-- ---- the groups stand in order

by_list : (P : List Group → Type 0) (b : Bool) (gs hs : List Group) → P gs → P hs → P (if b then gs else hs)
by_list P true gs hs p q = p
by_list P false gs hs p q = q

-- a group begins with a range or with a later one
abbrev Begins : Range → List Range → Group → Type 0
Begins m ps g = (first_of g ≡ m) ⊎ Contains ps (first_of g)

begins-more : (m p : Range) (ps : List Range) (gs : List Group) → All (Begins m ps) gs → All (Begins m (p ∷ ps)) gs
begins-more m p ps gs = All-weaker (Begins m ps) (Begins m (p ∷ ps)) (λ g h. elim h [ inl e ↦ inl e | inr n ↦ inr (Contains-later (first_of g) p ps n) ]) gs

begins-later : (m p : Range) (ps : List Range) (gs : List Group) → All (Begins p ps) gs → All (Begins m (p ∷ ps)) gs
begins-later m p ps gs = All-weaker (Begins p ps) (Begins m (p ∷ ps)) (λ g h. elim h [
  | inl e ↦ inr (subst (λ (x : Range). Contains (p ∷ ps) x) (sym e) (Contains-here p ps))
  | inr n ↦ inr (Contains-later (first_of g) p ps n)
]) gs

-- so does each group that the sweep makes
swept-begins : (span : ℤ) (m : Range) (high : ℤ) (ps : List Range) → All (Begins m ps) (swept span (swept_from m high) ps)
swept-begins span m high [] = All-cons (Begins m []) (swept_from m high) [] (inl refl) (All-nil (Begins m []))
swept-begins span m high (p ∷ ps) =
    by_list (All (Begins m (p ∷ ps))) (int_le (int_max high p.high) (m.low +ℤ span)) (swept span (swept_from m (int_max high p.high)) ps) (swept_from m high ∷ swept span (begun_by p) ps)
    (begins-more m p ps (swept span (swept_from m (int_max high p.high)) ps) (swept-begins span m (int_max high p.high) ps))
    (All-cons (Begins m (p ∷ ps)) (swept_from m high) (swept span (begun_by p) ps) (inl refl)
    (begins-later m p ps (swept span (begun_by p) ps) (swept-begins span p p.high ps)))

abbrev pub InOrder : List Group → Type 0
InOrder gs = AllPairs (λ g h. stands_before g h ≡ true) gs

pub swept-ordered : (span : ℤ) (m : Range) (high : ℤ) (ps : List Range) → Ascends (m ∷ ps) → InOrder (swept span (swept_from m high) ps)
swept-ordered span m high [] a = λ i j d h k. absurd (omega arith)
swept-ordered span m high (p ∷ ps) a =
    by_list InOrder (int_le (int_max high p.high) (m.low +ℤ span)) (swept span (swept_from m (int_max high p.high)) ps) (swept_from m high ∷ swept span (begun_by p) ps)
    (swept-ordered span m (int_max high p.high) ps ((λ q n. a.0 q (Contains-later q p ps n)), a.1.1))
    (AllPairs-cons (λ g h. stands_before g h ≡ true) (swept_from m high) (swept span (begun_by p) ps)
    (All-weaker (Begins p ps) (λ h. stands_before (swept_from m high) h ≡ true) (λ g h. elim h [
      | inl e ↦ subst (λ (x : Range). is_before m x ≡ true) (sym e) (a.0 p (Contains-here p ps))
      | inr n ↦ a.0 (first_of g) (Contains-later (first_of g) p ps n)
    ]) (swept span (begun_by p) ps) (swept-begins span p p.high ps))
    (swept-ordered span p p.high ps a.1))

-- ---- the group that is found

-- no group after a range begins by it
stops : (span : ℤ) (m : Range) (high : ℤ) (ps : List Range) (p : Range) (a : Leaf) → begins_by p (begun_by m) ≡ false → last_begun (swept span (swept_from m high) ps) p a ≡ a
stops span m high [] p a h = rw h refl
stops span m high (q ∷ ps) p a h =
    by_list (λ gs. last_begun gs p a ≡ a) (int_le (int_max high q.high) (m.low +ℤ span)) _ _
    (stops span m (int_max high q.high) ps p a h)
    (rw h refl)

any-has : (p : Range) (ps : List Range) → Contains ps p → list_any (is_same p) ps ≡ true
any-has p [] m = Contains-none p m
any-has p (q ∷ ps) m = elim (Contains-cases p q ps m) [
  | inl e ↦ subst (λ (x : Range). (is_same p x || list_any (is_same p) ps) ≡ true) (sym e) (rw (is_same_itself p) refl)
  | inr n ↦ or_right (is_same p q) (list_any (is_same p) ps) (any-has p ps n)
]

any-lacks : (p : Range) (ps : List Range) → ((q : Range) → Contains ps q → is_before q p ≡ true) → list_any (is_same p) ps ≡ false
any-lacks p [] f = refl
any-lacks p (q ∷ ps) f = rw (differs (is_same p q) refl, any-lacks p ps (λ r m. f r (Contains-later r q ps m))) refl
  where
    differs : (b : Bool) → is_same p q ≡ b → b ≡ false
    differs true e = absurd (before-apart q p (f q (Contains-here q ps)) e)
    differs false e = refl

-- a group is begun, whose members stand before all ranges that are left
record Begun (m : Range) (ms ps : List Range) : Type 0 where
  members : (p : Range) → Contains (m ∷ ms) p → begins_by p (begun_by m) ≡ true
  before : (p q : Range) → Contains (m ∷ ms) p → Contains ps q → is_before p q ≡ true
  rest : Ascends ps

begun-first : (m : Range) (ps : List Range) → Ascends (m ∷ ps) → Begun m [] ps
begun-first m ps a = record {
  members = λ p n. elim (Contains-cases p m [] n) [ inl e ↦ subst (λ (x : Range). begins_by x (begun_by m) ≡ true) e (begun-itself m m.high) | inr k ↦ Contains-none p k ];
  before = λ p q n k. elim (Contains-cases p m [] n) [ inl e ↦ subst (λ (x : Range). is_before x q ≡ true) e (a.0 q k) | inr o ↦ Contains-none p o ];
  rest = a.1;
}

begun-more : (m q : Range) (ms ps : List Range) → Begun m ms (q ∷ ps) → Begun m (ms ++ q ∷ []) ps
begun-more m q ms ps b = record {
  members = λ p n. elim (Contains-push_cases (m ∷ ms) q p n) [
    | inl k ↦ b.members p k
    | inr e ↦ subst (λ (x : Range). begins_by x (begun_by m) ≡ true) e (begun-before m q m.high (b.before m q (Contains-here m ms) (Contains-here q ps)))
  ];
  before = λ p r n k. elim (Contains-push_cases (m ∷ ms) q p n) [
    | inl o ↦ b.before p r o (Contains-later r q ps k)
    | inr e ↦ subst (λ (x : Range). is_before x r ≡ true) e (b.rest.0 r k)
  ];
  rest = b.rest.1;
}

found-from : (span : ℤ) (m : Range) (ms : List Range) (high : ℤ) (ps : List Range) (p : Range) (a : Leaf) → Begun m ms ps → Contains (m ∷ ms) p ⊎ Contains ps p
    → last_begun (swept span (swept_from m high) ps) p a ≡ pair_at (range_in (groups_from span (merged_from m ms high) ps) p)
found-from span m ms high [] p a b (inl n) = rw (b.members p n, any-has p (m ∷ ms) n) refl
found-from span m ms high [] p a b (inr n) = Contains-none p n
found-from span m ms high (q ∷ ps) p a b n =
    by_both (λ xs gs. last_begun gs p a ≡ pair_at (range_in xs p)) (int_le (int_max high q.high) (m.low +ℤ span)) _ _ _ _
    (found-from span m (ms ++ q ∷ []) (int_max high q.high) ps p a (begun-more m q ms ps b) (elim n [
      | inl k ↦ inl (Contains-append_left (m ∷ ms) (q ∷ []) p k)
      | inr k ↦ elim (Contains-cases p q ps k) [ inl e ↦ inl (subst (λ (x : Range). Contains (m ∷ ms ++ q ∷ []) x) e (Contains-push (m ∷ ms) q)) | inr o ↦ inr o ]
    ]))
    (elim n [
      | inl k ↦
          rw (b.members p k, any-has p (m ∷ ms) k)
          (stops span q q.high ps p (Pair m.low high) (begun-after p q q.high (b.before p q k (Contains-here q ps))))
      | inr k ↦
          rw (begun-before m p m.high (b.before m p (Contains-here m ms) k), any-lacks p (m ∷ ms) (λ r o. b.before r p o k))
          (found-from span q [] q.high ps p (Pair m.low high) (begun-first q ps b.rest) (elim (Contains-cases p q ps k) [
            | inl e ↦ inl (subst (λ (x : Range). Contains (q ∷ []) x) e (Contains-here q []))
            | inr o ↦ inr o
          ]))
    ])

-- the range of the last group that begins by a range in order is that of its group
pub found : (span : ℤ) (ps : List Range) (p : Range) (a : Leaf) → Ascends ps → Contains ps p → last_begun (map told_by (groups_of span ps)) p a ≡ pair_at (range_in (groups_of span ps) p)
found span [] p a o n = Contains-none p n
found span (q ∷ ps) p a o n =
    ap (λ gs. last_begun gs p a) (swept-all span q ps)
    ∙ found-from span q [] q.high ps p a (begun-first q ps o) (elim (Contains-cases p q ps n) [
      | inl e ↦ inl (subst (λ (x : Range). Contains (q ∷ []) x) e (Contains-here q []))
      | inr k ↦ inr k
    ])

-- ---- the search

-- the range of the last group
abbrev pub last_range : List Group → Leaf → Leaf
last_range [] a = a
last_range (g ∷ gs) a = last_range gs (Pair g.low g.high)

point : (p : Range) (groups : List Group) (a : Leaf) (k : ℕ) → AllWithin (λ g. begins_by p g ≡ true) groups 0 k → AllWithin (λ g. begins_by p g ≡ false) groups k (length groups) → k ≤ length groups
    → last_begun groups p a ≡ last_range (take k groups) a
point p [] a zero t f h = refl
point p [] a (suc k) t f h = absurd (omega arith)
point p (g ∷ gs) a zero t f h = rw (f 0 g (omega arith) (omega arith)) refl
point p (g ∷ gs) a (suc k) t f h =
    rw (t 0 g (omega arith) (omega arith))
    (point p gs (Pair g.low g.high) k (λ i d l u. t (suc i) d (omega arith) (omega arith)) (λ i d l u. f (suc i) d (omega arith) (omega arith)) (omega arith))

last-none : (groups : List Group) (a : Leaf) → length groups ≡ 0 → last_range groups a ≡ a
last-none [] a h = refl
last-none (g ∷ gs) a h = absurd (omega arith)

last-some : (groups : List Group) (a : Leaf) (g : Group) → 0 < length groups → g ≡ get_or groups (length groups - 1) g → last_range groups a ≡ Pair g.low g.high
last-some [] a g h e = absurd (omega arith)
last-some (x ∷ []) a g h e = ap (λ (v : Group). Pair v.low v.high) (sym e)
last-some (x ∷ y ∷ gs) a g h e =
    let next : length (x ∷ y ∷ gs) - 1 ≡ suc (length (y ∷ gs) - 1) = omega arith in
    last-some (y ∷ gs) (Pair x.low x.high) g (omega arith) (e ∙ ap (λ k. get_or (x ∷ y ∷ gs) k g) next)

-- the first groups, up to a place, begin by a range, and the others don't
abbrev pub IsSplitAt : Range → List Group → ℕ → Type 0
IsSplitAt p groups k = (k ≤ length groups) × IsPartitionPoint (λ g. begins_by p g ≡ true) (λ g. begins_by p g ≡ false) groups k

pub point-none : (p : Range) (groups : List Group) (a : Leaf) (k : ℕ) → IsSplitAt p groups k → length (take k groups) ≤ 0 → a ≡ last_begun groups p a
point-none p groups a k s n = sym (point p groups a k s.1.0 s.1.1 s.0 ∙ last-none (take k groups) a (omega arith))

pub point-some : (p : Range) (groups : List Group) (a : Leaf) (k : ℕ) (g : Group) → IsSplitAt p groups k → 0 < length (take k groups)
    → g ≡ get_or (take k groups) (length (take k groups) - 1) g → Pair g.low g.high ≡ last_begun groups p a
point-some p groups a k g s n e = sym (point p groups a k s.1.0 s.1.1 s.0 ∙ last-some (take k groups) a g n e)

-- ---- ranges and values of groups

by_merged : (P : List Merged → Type 0) (b : Bool) (gs hs : List Merged) → P gs → P hs → P (elim b [ true ↦ gs | false ↦ hs ])
by_merged P true gs hs p q = p
by_merged P false gs hs p q = q

by_range : (P : Range → Type 0) (b : Bool) (p q : Range) → P p → P q → P (if b then p else q)
by_range P true p q h k = h
by_range P false p q h k = k

-- the lower end is at most the upper end
abbrev pub Rises : Range → Type 0
Rises p = int_le p.low p.high ≡ true

rises-max : (low high x : ℤ) → int_le low high ≡ true → int_le low (int_max high x) ≡ true
rises-max low high x h = grind (arith, ints, nat_tests)

rises-from : (span : ℤ) (m : Range) (ms : List Range) (high : ℤ) (ps : List Range) (p : Range) → int_le m.low high ≡ true → ((q : Range) → Contains ps q → Rises q)
    → Rises (range_in (groups_from span (merged_from m ms high) ps) p)
rises-from span m ms high [] p h f = by_range Rises (list_any (is_same p) (m ∷ ms)) _ _ h refl
rises-from span m ms high (q ∷ ps) p h f =
    by_merged (λ gs. Rises (range_in gs p)) (int_le (int_max high q.high) (m.low +ℤ span)) _ _
    (rises-from span m (ms ++ q ∷ []) (int_max high q.high) ps p (rises-max m.low high q.high h) (λ r n. f r (Contains-later r q ps n)))
    (by_range Rises (list_any (is_same p) (m ∷ ms)) _ _ h
    (rises-from span q [] q.high ps p (f q (Contains-here q ps)) (λ r n. f r (Contains-later r q ps n))))

pub groups-rise : (span : ℤ) (ps : List Range) (p : Range) → ((q : Range) → Contains ps q → Rises q) → Rises (range_in (groups_of span ps) p)
groups-rise span [] p f = refl
groups-rise span (q ∷ ps) p f = rises-from span q [] q.high ps p (f q (Contains-here q ps)) (λ r n. f r (Contains-later r q ps n))

by_value : (P : ℤ → Range → Type 0) (b : Bool) (x y : ℤ) (p q : Range) → P x p → P y q → P (if b then x else y) (if b then p else q)
by_value P true x y p q h k = h
by_value P false x y p q h k = k

-- a range's value is the middle of its group's range
pub value-middle : (gs : List Merged) (p : Range) → value_in gs p ≡ floor_div ((range_in gs p).low +ℤ (range_in gs p).high) (pos 2)
value-middle [] p = refl
value-middle (g ∷ gs) p =
    by_value (λ x r. x ≡ floor_div (r.low +ℤ r.high) (pos 2)) (list_any (is_same p) g.members) _ _ _ _ refl (value-middle gs p)

-- ---- without a span

-- a range doesn't take the next one
alone : (a x b y : ℤ) → int_le a x ≡ true → int_le b y ≡ true → (int_lt a b || (int_eq a b && int_lt x y)) ≡ true → int_le (int_max x y) (a +ℤ pos 0) ≡ false
alone a x b y h k e = grind (arith, ints, nat_tests)

by_false : (P : List Merged → Type 0) (b : Bool) (gs hs : List Merged) → b ≡ false → P hs → P (elim b [ true ↦ gs | false ↦ hs ])
by_false P true gs hs e p = absurd (true≢false e)
by_false P false gs hs e p = p

own-first : (m p : Range) (gs : List Merged) → m ≡ p → range_in (group_of m ∷ gs) p ≡ p
own-first m p gs e = rw (any-has p (m ∷ []) (subst (λ (x : Range). Contains (m ∷ []) x) e (Contains-here m []))) e

own-from : (m : Range) (ps : List Range) (p : Range) → Ascends (m ∷ ps) → ((q : Range) → Contains (m ∷ ps) q → Rises q) → Contains (m ∷ ps) p → range_in (groups_from (pos 0) (group_of m) ps) p ≡ p
own-from m [] p a f n = elim (Contains-cases p m [] n) [ inl e ↦ own-first m p [] e | inr k ↦ Contains-none p k ]
own-from m (q ∷ ps) p a f n =
    by_false (λ gs. range_in gs p ≡ p) (int_le (int_max m.high q.high) (m.low +ℤ pos 0)) _ _
    (alone m.low m.high q.low q.high (f m (Contains-here m (q ∷ ps))) (f q (Contains-later q m (q ∷ ps) (Contains-here q ps))) (a.0 q (Contains-here q ps)))
    (elim (Contains-cases p m (q ∷ ps) n) [
      | inl e ↦ own-first m p (groups_from (pos 0) (group_of q) ps) e
      | inr k ↦
          rw (any-lacks p (m ∷ []) (λ r o. elim (Contains-cases r m [] o) [ inl e ↦ subst (λ (x : Range). is_before x p ≡ true) e (a.0 p k) | inr i ↦ Contains-none r i ]))
          (own-from q ps p a.1 (λ r o. f r (Contains-later r m (q ∷ ps) o)) k)
    ])

-- each range is a group of its own
pub own-group : (ps : List Range) (p : Range) → Ascends ps → ((q : Range) → Contains ps q → Rises q) → Contains ps p → range_in (groups_of (pos 0) ps) p ≡ p
own-group [] p a f n = Contains-none p n
own-group (q ∷ ps) p a f n = own-from q ps p a f n
