-- The ranges of a function of pairs, and of the list of its leaves.
use Rattle.std.proofs.Common.{◌≡◌, inl, inr, ℕ, suc, ◌<◌, true, ℤ, pos, List, [], ◌∷◌, map, get_or, length, refl, sym, ap, ◌∙◌, subst, arith, true≢false, All}
use Rattle.std.specs.Prelude.{Contains, AllPairs}
use Rattle.std.specs.List.{flat_map}
use Rattle.std.proofs.lemmas.List.Elements.{All-contains, All-head, All-tail, Contains-append_left, Contains-append_right, Contains-get_or}
use Rattle.std.proofs.lemmas.List.{get_or_default}
use Rattle.spd_model.specs.States.{IsState, states, table_of, rank}
use Rattle.spd_model.specs.Ranges.{Range, is_before, in_order, groups_of}
use Rattle.spd_model.proofs.CallerLemmas.Lists.{All-flat_map, Contains-map}
use Rattle.spd_model.proofs.CallerLemmas.StateOrder.{All-states, All-table_of, length-states, rank_below, get_or-states}
use Rattle.spd_nodes.specs.declared.leaf.Leaf.{Leaf}
use Rattle.spd_nodes.specs.declared.leaf.Leaf.TheVariants.{Num, Pair, Act}
use Rattle.spd_nodes.specs.States.{Function, Agree}
use Rattle.spd_apply.specs.Leaves.{AreLeavesOf, IsTaken, leaf_before}
use Rattle.spd_ranges.specs.declared.groups.Group.{Group}
use Rattle.spd_ranges.specs.Merging.{range_at, pair_at, ranges_over, groups_over, range_leaf}
use Rattle.spd_ranges.specs.inner.Groups.{Finds, found_in, is_range, last_begun, told_by}
use Rattle.spd_ranges.proofs.OrderLaws.{Ascends, Contains-cases, Contains-here, Contains-later, Contains-none, in_order-ascends, in_order-has, in_order-is, in_order-only, in_order-same}
use Rattle.spd_ranges.proofs.GroupLaws.{Rises, found, groups-rise, own-group}

Contains-flat : {X Y : Type 0} (f : X → List Y) (xs : List X) (x : X) (y : Y) → Contains xs x → Contains (f x) y → Contains (flat_map f xs) y
Contains-flat f [] x y m n = Contains-none x m
Contains-flat f (z ∷ xs) x y m n = elim (Contains-cases x z xs m) [
  | inl e ↦ Contains-append_left (f z) (flat_map f xs) y (subst (λ v. Contains (f v) y) (sym e) n)
  | inr k ↦ Contains-append_right (f z) (flat_map f xs) y (Contains-flat f xs x y k n)
]

pub Contains-state : (sizes s : List ℕ) → IsState sizes s → Contains (states sizes) s
Contains-state sizes s i =
    let near : rank sizes s < length (states sizes) = omega (arith, rank_below sizes s i, length-states sizes) in
    (rank sizes s, near, get_or-default s near ∙ get_or-states sizes s i)
  where
    get_or-default : (d : List ℕ) → rank sizes s < length (states sizes) → get_or (states sizes) (rank sizes s) d ≡ get_or (states sizes) (rank sizes s) []
    get_or-default d l = get_or_default (states sizes) (rank sizes s) d [] l

-- ---- the ranges of a function

pub over-has : (sizes : List ℕ) (f : Function) (s t : List ℕ) → IsState sizes s → IsState sizes t → Contains (ranges_over sizes f) (range_at (f s t))
over-has sizes f s t i j =
    Contains-flat (λ x. table_of sizes (λ y. range_at (f x y))) (states sizes) s (range_at (f s t)) (Contains-state sizes s i)
    (Contains-map (λ y. range_at (f s y)) (states sizes) t (Contains-state sizes t j))

-- what holds of the range at all states holds of each of them
pub over-each : (P : Range → Type 0) (sizes : List ℕ) (f : Function) → ((s t : List ℕ) → IsState sizes s → IsState sizes t → P (range_at (f s t))) → (p : Range) → Contains (ranges_over sizes f) p → P p
over-each P sizes f h p n =
    All-contains P (ranges_over sizes f) p
    (All-flat_map P (λ s. table_of sizes (λ t. range_at (f s t))) (states sizes)
    (All-states (λ s. All P (table_of sizes (λ t. range_at (f s t)))) sizes (λ s i. All-table_of P sizes (λ t. range_at (f s t)) (λ t j. h s t i j)))) n

-- functions that agree have the same groups
pub groups-agree : (sizes : List ℕ) (span : ℤ) (f g : Function) → Agree sizes f g → groups_over sizes span f ≡ groups_over sizes span g
groups-agree sizes span f g a =
    ap (groups_of span) (in_order-same (ranges_over sizes f) (ranges_over sizes g)
    (over-each (λ p. Contains (ranges_over sizes g) p) sizes f (λ s t i j. subst (λ b. Contains (ranges_over sizes g) (range_at b)) (sym (a.at s t i j)) (over-has sizes g s t i j)))
    (over-each (λ p. Contains (ranges_over sizes f) p) sizes g (λ s t i j. subst (λ b. Contains (ranges_over sizes f) (range_at b)) (a.at s t i j) (over-has sizes f s t i j))))

-- a function's pairs are ranges
abbrev pub AreRanges : List ℕ → Function → Type 0
AreRanges sizes f = (s t : List ℕ) → IsState sizes s → IsState sizes t → is_range (f s t) ≡ true

range-rises : (a : Leaf) → is_range a ≡ true → Rises (range_at a)
range-rises (Num a) h = absurd (true≢false (sym h))
range-rises (Pair a x) h = h
range-rises (Act a) h = absurd (true≢false (sym h))

pair-again : (a : Leaf) → is_range a ≡ true → pair_at (range_at a) ≡ a
pair-again (Num a) h = absurd (true≢false (sym h))
pair-again (Pair a x) h = refl
pair-again (Act a) h = absurd (true≢false (sym h))

ordered-rise : (sizes : List ℕ) (f : Function) → AreRanges sizes f → (p : Range) → Contains (in_order (ranges_over sizes f)) p → Rises p
ordered-rise sizes f h p n = over-each Rises sizes f (λ s t i j. range-rises (f s t) (h s t i j)) p (in_order-only (ranges_over sizes f) p n)

-- so are the ranges of their groups
pub group-is_range : (sizes : List ℕ) (span : ℤ) (f : Function) → AreRanges sizes f → (a : Leaf) → is_range (range_leaf (groups_over sizes span f) a) ≡ true
group-is_range sizes span f h a = groups-rise span (in_order (ranges_over sizes f)) (range_at a) (ordered-rise sizes f h)

-- without a span a pair is the range of its own group
pub own-range : (sizes : List ℕ) (f : Function) → AreRanges sizes f → (s t : List ℕ) → IsState sizes s → IsState sizes t → range_leaf (groups_over sizes (pos 0) f) (f s t) ≡ f s t
own-range sizes f h s t i j =
    ap pair_at (own-group (in_order (ranges_over sizes f)) (range_at (f s t)) (in_order-ascends (ranges_over sizes f)) (ordered-rise sizes f h)
    (in_order-has (ranges_over sizes f) (range_at (f s t)) (over-has sizes f s t i j)))
    ∙ pair-again (f s t) (h s t i j)

-- ---- the list of leaves

before-ranges : (a b : Leaf) → is_range a ≡ true → is_range b ≡ true → leaf_before a b ≡ true → is_before (range_at a) (range_at b) ≡ true
before-ranges (Num a) b h k e = absurd (true≢false (sym h))
before-ranges (Act a) b h k e = absurd (true≢false (sym h))
before-ranges (Pair a x) (Num b) h k e = absurd (true≢false (sym k))
before-ranges (Pair a x) (Act b) h k e = absurd (true≢false (sym k))
before-ranges (Pair a x) (Pair b y) h k e = e

all-before : (a : Leaf) (leaves : List Leaf) → is_range a ≡ true → All (λ b. is_range b ≡ true) leaves → ((i : ℕ) (d : Leaf) → i < length leaves → leaf_before a (get_or leaves i d) ≡ true)
    → (q : Range) → Contains (map range_at leaves) q → is_before (range_at a) q ≡ true
all-before a [] h all e q n = Contains-none q n
all-before a (b ∷ leaves) h all e q n = elim (Contains-cases q (range_at b) (map range_at leaves) n) [
  | inl same ↦ subst (λ (x : Range). is_before (range_at a) x ≡ true) same (before-ranges a b h (All-head (λ c. is_range c ≡ true) b leaves all) (e 0 b (omega arith)))
  | inr k ↦ all-before a leaves h (All-tail (λ c. is_range c ≡ true) b leaves all) (λ i d l. e (suc i) d (omega arith)) q k
]

pub leaves-ascend : (leaves : List Leaf) → All (λ a. is_range a ≡ true) leaves → AllPairs (λ a b. leaf_before a b ≡ true) leaves → Ascends (map range_at leaves)
leaves-ascend [] all o = tt
leaves-ascend (a ∷ leaves) all o = (
  all-before a leaves (All-head (λ c. is_range c ≡ true) a leaves all) (All-tail (λ c. is_range c ≡ true) a leaves all) (λ i d l. o 0 (suc i) d (omega arith) (omega arith)),
  leaves-ascend leaves (All-tail (λ c. is_range c ≡ true) a leaves all) (λ i j d l k. o (suc i) (suc j) d (omega arith) (omega arith)),
)

pub leaves-ranges : (sizes : List ℕ) (f : Function) (leaves : List Leaf) → AreRanges sizes f → AreLeavesOf sizes f leaves → All (λ a. is_range a ≡ true) leaves
leaves-ranges sizes f leaves h are i d l =
    let t : IsTaken sizes f (get_or leaves i d) = are.only (get_or leaves i d) (Contains-get_or leaves i d l) in
    subst (λ a. is_range a ≡ true) t.value (h t.present t.next t.present_in t.next_in)

Contains-range : (leaves : List Leaf) (q : Range) (Q : Range → Type 0) → ((a : Leaf) → Contains leaves a → Q (range_at a)) → Contains (map range_at leaves) q → Q q
Contains-range [] q Q f n = Contains-none q n
Contains-range (a ∷ leaves) q Q f n = elim (Contains-cases q (range_at a) (map range_at leaves) n) [
  | inl e ↦ subst Q e (f a (Contains-here a leaves))
  | inr k ↦ Contains-range leaves q Q (λ b m. f b (Contains-later b a leaves m)) k
]

-- the distinct ranges in order are those of the leaves
pub leaves-are : (sizes : List ℕ) (f : Function) (leaves : List Leaf) → AreRanges sizes f → AreLeavesOf sizes f leaves → in_order (ranges_over sizes f) ≡ map range_at leaves
leaves-are sizes f leaves h are =
    in_order-is (ranges_over sizes f) (map range_at leaves) (leaves-ascend leaves (leaves-ranges sizes f leaves h are) are.ascending)
    (over-each (λ p. Contains (map range_at leaves) p) sizes f (λ s t i j. Contains-map range_at leaves (f s t) (are.all s t i j)))
    (λ q n. Contains-range leaves q (λ p. Contains (ranges_over sizes f) p) (λ a m. from (are.only a m)) n)
  where
    from : {a : Leaf} → IsTaken sizes f a → Contains (ranges_over sizes f) (range_at a)
    from t = subst (λ b. Contains (ranges_over sizes f) (range_at b)) t.value (over-has sizes f t.present t.next t.present_in t.next_in)

found-pair : (groups : List Group) (a : Leaf) → is_range a ≡ true → found_in groups a ≡ last_begun groups (range_at a) a
found-pair groups (Num a) h = absurd (true≢false (sym h))
found-pair groups (Pair a x) h = refl
found-pair groups (Act a) h = absurd (true≢false (sym h))

-- the groups of the leaves find each pair's range
pub finds : (sizes : List ℕ) (span : ℤ) (f : Function) (leaves : List Leaf) (groups : List Group) → AreRanges sizes f → AreLeavesOf sizes f leaves
    → groups ≡ map told_by (groups_of span (map range_at leaves)) → Finds sizes span f groups
finds sizes span f leaves groups h are e = record {
  at = λ s t i j.
      let ranges = leaves-are sizes f leaves h are in
      found-pair groups (f s t) (h s t i j)
      ∙ ap (λ gs. last_begun gs (range_at (f s t)) (f s t)) (e ∙ ap (λ ps. map told_by (groups_of span ps)) (sym ranges))
      ∙ found span (in_order (ranges_over sizes f)) (range_at (f s t)) (f s t) (in_order-ascends (ranges_over sizes f))
      (in_order-has (ranges_over sizes f) (range_at (f s t)) (over-has sizes f s t i j));
}
