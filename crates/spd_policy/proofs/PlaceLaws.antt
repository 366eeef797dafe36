-- The place of a list's head among the rest: which lists may stand for it, where it is known, and what is made of whole entries.
use Rattle.std.proofs.Common.{◌≡◌, ◌≢◌, ℕ, zero, suc, ◌+◌, ◌-◌, ◌<◌, ◌≤◌, Bool, true, cond, not, List, [], ◌∷◌, map, length, get_or, refl, sym, ◌∙◌, ap, subst, arith, inl, inr, ℤ, All}
use Rattle.std.specs.Prelude.{Contains}
use Rattle.std.specs.List.{position_or_len}
use Rattle.std.specs.Ordering.{int_eq}
use Rattle.std.proofs.lemmas.Bool.{cases_lt, false≢true, false_from_ne_true}
use Rattle.std.proofs.lemmas.Grind.{common_steps}
use Rattle.std.proofs.lemmas.List.{length-map}
use Rattle.std.proofs.lemmas.List.Elements.{All-cons, All-contains, All-head, All-tail, All-weaker, Contains-get_or}
use Rattle.std.proofs.lemmas.List.Sums.{fails_before_first, position_or_len_is}
use Rattle.spd_scaled.proofs.CallerLemmas.Ring.{int_eq-holds}
use Rattle.spd_cons_core.specs.declared.key.Entry.{Entry}
use Rattle.spd_model.specs.Numbers.{greatest, first_place}
use Rattle.spd_model.proofs.CallerLemmas.Greatest.{greatest_reached}
use Rattle.spd_nodes.specs.declared.leaf.Leaf.{Leaf}
use Rattle.spd_nodes.specs.declared.leaf.Leaf.TheVariants.{Num, Pair, Act}
use Rattle.spd_nodes.specs.Levels.{levels_of, slots}
use Rattle.spd_nodes.specs.Shown.{Shown, IsSound, StandsFor, meaning}
use Rattle.spd_nodes.specs.Trees.{Tree, Ends, Tests, IsFrom, IsAtOrPast, leaf_eq, tree_rank}
use Rattle.spd_nodes.proofs.CallerLemmas.{IsTreeFor, leaf_eq-refl, leaf_eq-true}
use Rattle.spd_apply.specs.Halves.{yes_at, no_at, IsLeaf}
use Rattle.spd_gather.specs.Down.{Each, at_leaves, at_each_leaf, last_leaf}
use Rattle.spd_gather.specs.Lists.{trees_of, rank_of, AreKnown, GoesToTest, HoldsRows, IsListReady}
use Rattle.spd_gather.specs.Meeting.{Meet, list_rank}
use Rattle.spd_gather.specs.Rows.{Row}
use Rattle.spd_gather.proofs.CallerLemmas.{all-of, down-is, down-same, each-of, each-weaker}
use Rattle.spd_policy.specs.Best.{numbers_at, greatest_of, policy_by, IsNum, IsNumeric}
use Rattle.spd_policy.specs.Choosing.{place_leaf, StartsAlike, MayCompare, IsDecided, IsLike}
use Rattle.spd_policy.proofs.LeafLaws.{leaf_at, leaf_numbers, leaves-are}
use Rattle.spd_policy.proofs.ListLaws.{all-levels, all-nums, leaves_at, list-ready, list-tree, numbers-at}
use Rattle.spd_policy.proofs.SplitLaws.{made-of-leaves}
use Rattle.spd_model.proofs.CallerLemmas.Lists.{map-map}

-- ---- lists that may stand for others

rank-each : (ds : List ℕ) (ts : List Tree) → Each (λ t. tree_rank ds t ≤ list_rank ds ts) ts
rank-each ds [] = tt
rank-each ds (t ∷ ts) = (
  omega arith,
  each-weaker (λ u. tree_rank ds u ≤ list_rank ds ts) (λ u. tree_rank ds u ≤ list_rank ds (t ∷ ts)) (λ u e. omega (arith, e)) ts (rank-each ds ts),
)

rank-bound : (ds : List ℕ) (k : ℕ) (ts : List Tree) → Each (λ t. tree_rank ds t ≤ k) ts → list_rank ds ts ≤ k
rank-bound ds k [] h = omega arith
rank-bound ds k (t ∷ ts) h = let i : list_rank ds ts ≤ k = rank-bound ds k ts h.1 in omega (arith, h.0)

module _ (op : List Leaf → Leaf) (s : Shown) (old new : List Entry) (h : IsLike op old new) where
  like-each : (P : Tree → Type 0) → Each P (trees_of s old) → Each P (trees_of s new)
  like-each P e =
      each-of P s new
      (All-weaker (λ k. Contains old k) (λ k. P (s.tree k)) (λ k c. All-contains (λ q. P (s.tree q)) old k (all-of P s old e) c) new h.among)

  like-known : AreKnown s old → AreKnown s new
  like-known e = All-weaker (λ k. Contains old k) (λ k. s.knows k ≡ true) (λ k c. All-contains (λ q. s.knows q ≡ true) old k e c) new h.among

  like-trees : (f : Tree → Leaf) → op (map f (trees_of s new)) ≡ op (map f (trees_of s old))
  like-trees f = ap op (map-map f s.tree new) ∙ h.same (λ r. f (s.tree r)) ∙ ap op (sym (map-map f s.tree old))

  like-made : (levels : ℕ) → at_each_leaf levels op (trees_of s new) ≡ at_each_leaf levels op (trees_of s old)
  like-made levels =
      down-same (at_leaves op) (at_leaves op) (λ ts us. (f : Tree → Leaf) → op (map f ts) ≡ op (map f us))
      (λ l ts us e. (
        λ f. ap op (map-map f (yes_at l) ts) ∙ e (λ t. f (yes_at l t)) ∙ ap op (sym (map-map f (yes_at l) us)),
        λ f. ap op (map-map f (no_at l) ts) ∙ e (λ t. f (no_at l t)) ∙ ap op (sym (map-map f (no_at l) us)),
      ))
      (λ ts us e. ap Ends (e last_leaf))
      levels 0 (trees_of s new) (trees_of s old) like-trees

  like-length : length (trees_of s new) ≡ length (trees_of s old)
  like-length = length-map new s.tree ∙ h.long ∙ sym (length-map old s.tree)

  like-meet : (ds : List ℕ) → Meet ds 0 0 (trees_of s old) → Meet ds 0 0 (trees_of s new)
  like-meet ds (inl m) = inl (record { from = m.from; each = like-each (IsFrom ds 0 m.from) m.each })
  like-meet ds (inr m) = inr (record { level = m.level; within = m.within; outside = m.outside; each = like-each (IsAtOrPast ds m.level) m.each })

  like-may : (levels : ℕ) (sizes : List ℕ) → MayCompare levels sizes (trees_of s old) → MayCompare levels sizes (trees_of s new)
  like-may levels sizes m = record { same = m.same; some = omega (arith, m.some, like-length); few = omega (arith, m.few, like-length); meet = like-meet (slots sizes) m.meet }

  like-rank : rank_of s new ≤ rank_of s old
  like-rank = rank-bound (slots s.sizes) (rank_of s old) (trees_of s new) (like-each (λ t. tree_rank (slots s.sizes) t ≤ rank_of s old) (rank-each (slots s.sizes) (trees_of s old)))

-- a test of two lists is a test of those that stand for them
module _ (op : List Leaf → Leaf) (levels : ℕ) (s : Shown) (ks : List Entry) (l : ℕ) (ys ns : List Entry) (g : GoesToTest (at_each_leaf levels op) (MayCompare levels s.sizes) s ks l ys ns) where
  pub goes-like : (vs ms : List Entry) → IsLike op ys vs → IsLike op ns ms → GoesToTest (at_each_leaf levels op) (MayCompare levels s.sizes) s ks l vs ms
  goes-like vs ms a b =
      let yes : at_each_leaf levels op (trees_of s vs) ≡ at_each_leaf levels op (trees_of s ys) = like-made op s ys vs a levels in
      let no : at_each_leaf levels op (trees_of s ms) ≡ at_each_leaf levels op (trees_of s ns) = like-made op s ns ms b levels in
      record {
        level_in = g.level_in;
        is = rw (yes, no) g.is;
        can_test = rw (yes, no) g.can_test;
        yes_goes = record { known = like-known op s ys vs a g.yes_goes.known; trees = like-may op s ys vs a levels s.sizes g.yes_goes.trees };
        no_goes = record { known = like-known op s ns ms b g.no_goes.known; trees = like-may op s ns ms b levels s.sizes g.no_goes.trees };
        yes_smaller = omega (arith, like-rank op s ys vs a, g.yes_smaller);
        no_smaller = omega (arith, like-rank op s ns ms b, g.no_smaller);
      }

-- ---- what stands behind the first entry that is the head

position-map : (p : Leaf → Bool) (f : Entry → Leaf) (ks : List Entry) → position_or_len p (map f ks) ≡ position_or_len (λ k. p (f k)) ks
position-map p f [] = refl
position-map p f (k ∷ ks) = ap (λ n. cond (not (p (f k))) (1 + n) 0) (position-map p f ks)

-- two lists that are the same up to a place where both pass
place-same : (q : Entry → Bool) (n : ℕ) (ns ks : List Entry) → length ns ≡ length ks → ((k : ℕ) (d : Entry) → k < n → get_or ns k d ≡ get_or ks k d)
    → ((d : Entry) → n < length ns → q (get_or ns n d) ≡ true) → ((d : Entry) → n < length ks → q (get_or ks n d) ≡ true) → position_or_len q ns ≡ position_or_len q ks
place-same q n [] [] long same a b = refl
place-same q n [] (k ∷ ks) long same a b = absurd (omega (arith, long))
place-same q n (x ∷ ns) [] long same a b = absurd (omega (arith, long))
place-same q zero (x ∷ ns) (k ∷ ks) long same a b =
    ap (λ v. cond (not v) (1 + position_or_len q ns) 0) (a x (omega arith)) ∙ sym (ap (λ v. cond (not v) (1 + position_or_len q ks) 0) (b k (omega arith)))
place-same q (suc n) (x ∷ ns) (k ∷ ks) long same a b =
    let e : x ≡ k = same 0 x (omega arith) in
    let rest : position_or_len q ns ≡ position_or_len q ks = place-same q n ns ks (omega (arith, long)) (λ j d c. same (suc j) d (omega arith)) (λ d c. a d (omega arith)) (λ d c. b d (omega arith)) in
    ap (λ z. cond (not (q z)) (1 + position_or_len q ns) 0) e ∙ ap (λ v. cond (not (q k)) (1 + v) 0) rest

pub cut-like : (old new : List Entry) (at : ℕ) → 0 < length old → 0 < at → length new ≡ length old → ((k : ℕ) (d : Entry) → k < at → get_or new k d ≡ get_or old k d)
    → ((k : ℕ) (d : Entry) → at ≤ k → k < length new → get_or new k d ≡ get_or old 0 d) → ((d : Entry) → at < length old → get_or old at d ≡ get_or old 0 d) → IsLike place_leaf old new
cut-like [] new at some above long same rest here = absurd (omega arith)
cut-like (m ∷ ks) [] at some above long same rest here = absurd (omega (arith, long))
cut-like (m ∷ ks) (x ∷ ns) zero some above long same rest here = absurd (omega arith)
cut-like (m ∷ ks) (x ∷ ns) (suc n) some above long same rest here = record {
  same = λ f. ap (λ z. place_leaf (f z ∷ map f ns)) head ∙ ap Act (places f);
  among = λ k d b. elim (cases_lt k (suc n)) [
    | inl near ↦ subst (Contains (m ∷ ks)) (sym (same k d near)) (Contains-get_or (m ∷ ks) k d (omega (arith, b, long)))
    | inr far ↦ subst (Contains (m ∷ ks)) (sym (rest k d far b)) (Contains-get_or (m ∷ ks) 0 d (omega arith))
  ];
  long = long;
}
  where
    head : x ≡ m
    head = same 0 x (omega arith)

    places : (f : Entry → Leaf) → position_or_len (leaf_eq (f m)) (map f ns) ≡ position_or_len (leaf_eq (f m)) (map f ks)
    places f =
        position-map (leaf_eq (f m)) f ns
        ∙ place-same (λ k. leaf_eq (f m) (f k)) n ns ks (omega (arith, long)) (λ k d b. same (suc k) d (omega arith))
        (λ d b. ap (λ k. leaf_eq (f m) (f k)) (rest (suc n) d (omega arith) (omega arith)) ∙ leaf_eq-refl (f m))
        (λ d b. ap (λ k. leaf_eq (f m) (f k)) (here d (omega arith)) ∙ leaf_eq-refl (f m))
        ∙ sym (position-map (leaf_eq (f m)) f ks)

-- ---- where the place is known

-- a list whose second tree is its first one
record StartsOne (ts : List Tree) (u : Tree) : Type 0 where
  starts : StartsAlike ts
  first : u ≡ Ends (Act 0)

starts-map : (f : Tree → Tree) (ts : List Tree) → StartsAlike ts → StartsAlike (map f ts)
starts-map f [] h = h
starts-map f (t ∷ []) h = h
starts-map f (t ∷ u ∷ ts) h = ap f h

starts-end : (ts : List Tree) (u : Tree) → StartsOne ts u → at_leaves place_leaf ts ≡ u
starts-end [] u h = absurd h.starts
starts-end (t ∷ []) u h = absurd h.starts
starts-end (t ∷ v ∷ ts) u h =
    let e : leaf_eq (last_leaf t) (last_leaf v) ≡ true = ap (λ w. leaf_eq (last_leaf t) (last_leaf w)) h.starts ∙ leaf_eq-refl (last_leaf t) in
    ap (λ b. Ends (Act (cond (not b) (1 + position_or_len (leaf_eq (last_leaf t)) (map last_leaf ts)) 0))) e ∙ sym h.first

place-starts : (levels : ℕ) (sizes : List ℕ) (ts : List Tree) → levels ≡ levels_of (slots sizes) → StartsAlike ts → at_each_leaf levels place_leaf ts ≡ Ends (Act 0)
place-starts levels sizes ts same h =
    let ds : List ℕ = slots sizes in
    let e : at_each_leaf (levels_of ds) place_leaf ts ≡ Ends (Act 0) =
    down-is ds (levels_of ds) (at_leaves place_leaf) (λ l us v. StartsOne us v)
    (λ n l us v q a. (record { starts = starts-map (yes_at l) us a.starts; first = ap (yes_at l) a.first }, record { starts = starts-map (no_at l) us a.starts; first = ap (no_at l) a.first }))
    (λ us v st a. starts-end us v a)
    (levels_of ds) 0 ts (Ends (Act 0)) (omega arith) (tt, tt) (record { starts = h; first = refl }) in
    ap (λ v. at_each_leaf v place_leaf ts) same ∙ e

leaf-tree : (t : Tree) → IsLeaf t → t ≡ Ends (last_leaf t)
leaf-tree (Ends a) h = refl
leaf-tree (Tests l y n) h = absurd h

-- the first entry after the head that is the head, where all are leaves
module _ (s : Shown) (o : IsSound s) (m : Entry) (ks : List Entry) (known : AreKnown s (m ∷ ks)) (leaves : Each IsLeaf (trees_of s (m ∷ ks))) where
  all : All (λ k. IsLeaf (s.tree k)) (m ∷ ks)
  all = all-of IsLeaf s (m ∷ ks) leaves

  one : (k : Entry) → s.knows k ≡ true → IsLeaf (s.tree k) → leaf_at s m ≡ leaf_at s k → k ≡ m
  one k kn i e =
      o.once k m kn (All-head (λ q. s.knows q ≡ true) m ks known)
      (leaf-tree (s.tree k) i ∙ ap Ends (sym e) ∙ sym (leaf-tree (s.tree m) (All-head (λ q. IsLeaf (s.tree q)) m ks all)))

  leaf-found : (n : ℕ) → n ≤ length ks → ((k : ℕ) (d : Entry) → 0 < k → k < suc n → get_or (m ∷ ks) k d ≢ get_or (m ∷ ks) 0 d) → ((d : Entry) → suc n < length (m ∷ ks) → get_or (m ∷ ks) (suc n) d ≡ get_or (m ∷ ks) 0 d)
      → position_or_len (λ k. leaf_eq (leaf_at s m) (leaf_at s k)) ks ≡ n
  leaf-found n within before here =
      position_or_len_is (λ k. leaf_eq (leaf_at s m) (leaf_at s k)) ks n m within
      (λ k b. false_from_ne_true (leaf_eq (leaf_at s m) (leaf_at s (get_or ks k m))) (λ e.
      before (suc k) m (omega arith) (omega arith)
      (one (get_or ks k m) (known (suc k) m (omega (arith, b, within))) (all (suc k) m (omega (arith, b, within))) (leaf_eq-true (leaf_at s m) (leaf_at s (get_or ks k m)) e))))
      (λ b. ap (λ k. leaf_eq (leaf_at s m) (leaf_at s k)) (here m (omega arith)) ∙ leaf_eq-refl (leaf_at s m))

-- where the second tree is the first one, that is the second entry
start-found : (s : Shown) (o : IsSound s) (m : Entry) (ks : List Entry) → AreKnown s (m ∷ ks) → (n : ℕ) → ((k : ℕ) (d : Entry) → 0 < k → k < suc n → get_or (m ∷ ks) k d ≢ get_or (m ∷ ks) 0 d) → StartsAlike (trees_of s (m ∷ ks)) → n ≡ 0
start-found s o m [] known n before h = absurd h
start-found s o m (k ∷ ks) known n before h = elim (cases_lt 0 n) [
  | inl more ↦
      absurd (before 1 m (omega arith) (omega arith)
      (o.once k m (All-head (λ q. s.knows q ≡ true) k ks (All-tail (λ q. s.knows q ≡ true) m (k ∷ ks) known)) (All-head (λ q. s.knows q ≡ true) m (k ∷ ks) known) h))
  | inr first ↦ omega arith
]

-- the place is that of the first entry that is the head
pub decided-place : (levels : ℕ) (s : Shown) (o : IsSound s) (ks : List Entry) → AreKnown s ks → MayCompare levels s.sizes (trees_of s ks) → IsDecided (trees_of s ks) → (at : ℕ) → 0 < at → at ≤ length ks
    → ((k : ℕ) (d : Entry) → 0 < k → k < at → get_or ks k d ≢ get_or ks 0 d) → ((d : Entry) → at < length ks → get_or ks at d ≡ get_or ks 0 d) → at_each_leaf levels place_leaf (trees_of s ks) ≡ Ends (Act (at - 1))
decided-place levels s o [] known may decided at some within before here = absurd (omega arith)
decided-place levels s o (m ∷ ks) known may decided zero some within before here = absurd (omega arith)
decided-place levels s o (m ∷ ks) known may (inl leaves) (suc n) some within before here =
    let last : n ≡ suc n - 1 = omega arith in
    made-of-leaves place_leaf levels s o (m ∷ ks) known may leaves
    ∙ ap (λ ls. Ends (Act (position_or_len (leaf_eq (leaf_at s m)) ls))) (leaves-are s ks)
    ∙ ap (λ p. Ends (Act p)) (position-map (leaf_eq (leaf_at s m)) (leaf_at s) ks ∙ leaf-found s o m ks known leaves n (omega (arith, within)) before here ∙ last)
decided-place levels s o (m ∷ ks) known may (inr starts) (suc n) some within before here =
    let last : n ≡ suc n - 1 = omega arith in
    place-starts levels s.sizes (trees_of s (m ∷ ks)) may.same starts ∙ ap (λ p. Ends (Act p)) (sym (start-found s o m ks known n before starts) ∙ last)

-- ---- the greatest and all bounds

-- the first place of a number that is there
pub place-found : (x : ℤ) (xs : List ℤ) → Contains xs x → position_or_len (int_eq x) xs ≡ first_place x xs
place-found x xs there =
    let k = position_or_len (int_eq x) xs in
    let near : k < length xs = elim (cases_lt there.0 k) [
      | inl before ↦
          let fails = fails_before_first (int_eq x) xs there.0 x before in
          absurd (false≢true (sym fails ∙ int_eq-holds x (get_or xs there.0 x) (sym there.2)))
      | inr after ↦ omega (arith, there.1)
    ] in
    grind (arith, common_steps)

number-places : (g : ℤ) (ls : List Leaf) → All IsNum ls → position_or_len (leaf_eq (Num g)) ls ≡ position_or_len (int_eq g) (leaf_numbers ls)
number-places g [] h = refl
number-places g (Num x ∷ ls) h = ap (λ n. cond (not (int_eq g x)) (1 + n) 0) (number-places g ls (All-tail IsNum (Num x) ls h))
number-places g (Pair x y ∷ ls) h = absurd (All-head IsNum (Pair x y) ls h)
number-places g (Act x ∷ ls) h = absurd (All-head IsNum (Act x) ls h)

module _ (levels : ℕ) (s : Shown) (o : IsSound s) (same : levels ≡ levels_of (slots s.sizes)) (ks : List Entry) (h : All (IsNumeric s) ks) (some : 0 < length ks) (g : Entry) (stands : StandsFor s g (greatest_of (map (meaning s) ks))) where
  -- the greatest has numbers too
  with-greatest : All (IsNumeric s) (g ∷ ks)
  with-greatest = All-cons (IsNumeric s) g ks (record { known = stands.knows; whole = stands.whole; numbers = λ x y p q. subst IsNum (sym (stands.value.at x y p q)) tt }) h

  -- the tree of the place of the first that is the greatest, at each state
  place-tree : IsTreeFor s (at_each_leaf levels place_leaf (trees_of s (g ∷ ks))) (policy_by (map (meaning s) ks))
  place-tree =
      let w = list-tree levels s o same (g ∷ ks) with-greatest (omega arith) place_leaf in
      all-levels levels s o same (g ∷ ks) with-greatest (omega arith) place_leaf (policy_by (map (meaning s) ks)) (record {
        reduced = w.reduced;
        whole = w.whole;
        value = record {
          at = λ x y p q. (
              let xs : List ℤ = numbers_at (map (meaning s) ks) x y in
              let long : length xs ≡ length ks = length-map (map (meaning s) ks) _ ∙ length-map ks (meaning s) in
              w.value.at x y p q
              ∙ ap (λ a. Act (position_or_len (leaf_eq a) (leaves_at s ks x y))) (stands.value.at x y p q)
              ∙ ap Act (number-places (greatest xs) (leaves_at s ks x y) (all-nums s ks h x y p q) ∙ ap (position_or_len (int_eq (greatest xs))) (numbers-at s ks x y) ∙ place-found (greatest xs) xs (greatest_reached xs (omega (arith, some, long)))));
        };
      })

  module _ (new : List Entry) (like : IsLike place_leaf (g ∷ ks) new) where
    pub place-made : IsTreeFor s (at_each_leaf levels place_leaf (trees_of s new)) (policy_by (map (meaning s) ks))
    place-made = subst (λ u. IsTreeFor s u (policy_by (map (meaning s) ks))) (sym (like-made place_leaf s (g ∷ ks) new like levels)) place-tree

    pub place-ready : length ks ≤ 64 → (rows : List Row) → HoldsRows (at_each_leaf (levels_of (slots s.sizes)) place_leaf) s rows → IsListReady (at_each_leaf levels place_leaf) (MayCompare levels s.sizes) s new rows
    place-ready few rows holds =
        let r = list-ready levels s o same (g ∷ ks) with-greatest (omega arith) (omega (arith, few)) place_leaf rows holds in
        record {
          sound = o;
          met = record { known = like-known place_leaf s (g ∷ ks) new like r.met.known; trees = like-may place_leaf s (g ∷ ks) new like levels s.sizes r.met.trees };
          table = r.table;
        }
