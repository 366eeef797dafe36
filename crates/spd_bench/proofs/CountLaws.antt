-- Diagrams of Num from 0 to a bound, over plain tests of two-valued variables.
use Rattle.std.proofs.Common.{◌≡◌, ℕ, ◌+◌, ◌-◌, ◌*◌, ◌^◌, ◌<◌, ◌≤◌, inl, Bool, true, false, cond, List, refl, sym, ◌∙◌, ap, arith, true≢false, pos, negsuc, ◌+ℤ◌, lit<, Result, Ok, Err, IfOk}
use Rattle.std.specs.Prelude.{nat_lt, nat_le}
use Rattle.std.proofs.lemmas.Bool.Decides.{nat_tests}
use Rattle.spd_cons_core.specs.declared.key.Entry.{Entry}
use Rattle.spd_nodes.specs.declared.leaf.Leaf.{Leaf}
use Rattle.spd_nodes.specs.declared.leaf.Leaf.TheVariants.{Num, Pair, Act}
use Rattle.spd_nodes.specs.Levels.{passes, after, slots, level_at}
use Rattle.spd_nodes.specs.Trees.{Tree, Ends, Tests, tree_eq, value_at, IsFrom, CanTest, join}
use Rattle.spd_nodes.specs.States.{point}
use Rattle.spd_nodes.specs.Shown.{Shown, IsSound, Grows, KnowsAs, IsWhole, StandsFor, meaning}
use Rattle.spd_apply.specs.Applied.{applied, mapped, against}
use Rattle.spd_apply.specs.Operations.{num_of, num_fits, are_nums}
use Rattle.spd_apply.specs.Outcome.{FitEverywhere, at_each}
use Rattle.spd_nodes.proofs.CallerLemmas.{tree-for, IsFrom-lower}
use Rattle.spd_apply.proofs.CallerLemmas.{apply-tree}
use Rattle.spd_restrict.specs.Primed.{is_plain_level, TestsNoPrimed}
use Rattle.spd_bench.specs.Built.{twos, is_num_to, CountsTo, IsCount, FitsTo, IsApplied}
use Rattle.spd_bench.proofs.TwoLaws.{level-twos, after-twos, first-twos, plain-twos}

-- Num from 0 to a bound
le-more : (m a b : ℕ) → a ≤ b → nat_le m a ≡ true → nat_le m b ≡ true
le-more m a b g h = grind (arith, nat_tests)

le-both : (m n a b : ℕ) → nat_le m a ≡ true → nat_le n b ≡ true → nat_le (m + n) (a + b) ≡ true
le-both m n a b g h = grind (arith, nat_tests)

lt-both : (m n a c : ℕ) → a + a < c → nat_le m a ≡ true → nat_le n a ≡ true → nat_lt (m + n) c ≡ true
lt-both m n a c z g h = grind (arith, nat_tests)

num-more : (a b : ℕ) → a ≤ b → (x : Leaf) → is_num_to a x ≡ true → is_num_to b x ≡ true
num-more a b g (Num (pos n)) h = le-more n a b g h
num-more a b g (Num (negsuc n)) h = h
num-more a b g (Pair y z) h = h
num-more a b g (Act y) h = h

add-nums : (a b : ℕ) (x y : Leaf) → is_num_to a x ≡ true → is_num_to b y ≡ true → is_num_to (a + b) (num_of (λ x y. x +ℤ y) x y) ≡ true
add-nums a b (Num (pos m)) (Num (pos n)) g h = le-both m n a b g h
add-nums a b (Num (pos m)) (Num (negsuc n)) g h = absurd (true≢false (sym h))
add-nums a b (Num (pos m)) (Pair n z) g h = absurd (true≢false (sym h))
add-nums a b (Num (pos m)) (Act n) g h = absurd (true≢false (sym h))
add-nums a b (Num (negsuc m)) y g h = absurd (true≢false (sym g))
add-nums a b (Pair m z) y g h = absurd (true≢false (sym g))
add-nums a b (Act m) y g h = absurd (true≢false (sym g))

pub add-fits : FitsTo (λ a b. num_fits (λ x y. x +ℤ y) a b) (2 ^ 20)
add-fits = record { at = go }
  where
    go : (x y : Leaf) → is_num_to (2 ^ 20) x ≡ true → is_num_to (2 ^ 20) y ≡ true → num_fits (λ x y. x +ℤ y) x y ≡ true
    go (Num (pos m)) (Num (pos n)) g h = lt-both m n (2 ^ 20) (2 ^ 127) (lit< tt) g h
    go (Num (pos m)) (Num (negsuc n)) g h = absurd (true≢false (sym h))
    go (Num (pos m)) (Pair n z) g h = absurd (true≢false (sym h))
    go (Num (pos m)) (Act n) g h = absurd (true≢false (sym h))
    go (Num (negsuc m)) y g h = absurd (true≢false (sym g))
    go (Pair m z) y g h = absurd (true≢false (sym g))
    go (Act m) y g h = absurd (true≢false (sym g))

pub nums-fit : (bound : ℕ) → FitsTo (λ a b. are_nums a b) bound
nums-fit bound = record { at = go }
  where
    go : (x y : Leaf) → is_num_to bound x ≡ true → is_num_to bound y ≡ true → are_nums x y ≡ true
    go (Num m) (Num n) g h = refl
    go (Num m) (Pair n z) g h = absurd (true≢false (sym h))
    go (Num m) (Act n) g h = absurd (true≢false (sym h))
    go (Pair m z) y g h = absurd (true≢false (sym g))
    go (Act m) y g h = absurd (true≢false (sym g))

-- trees of such leaves
module _ (sizes : List ℕ) where
  counts-more : (a b : ℕ) → a ≤ b → (t : Tree) → CountsTo sizes a t → CountsTo sizes b t
  counts-more a b g (Ends x) h = num-more a b g x h
  counts-more a b g (Tests l y n) h = (h.0, counts-more a b g y h.1, counts-more a b g n h.2)

  counts-join : (bound l : ℕ) (y n : Tree) → is_plain_level sizes l ≡ true → CountsTo sizes bound y → CountsTo sizes bound n → CountsTo sizes bound (join l y n)
  counts-join bound l y n p g h = go (tree_eq y n)
    where
      go : (t : Bool) → CountsTo sizes bound (cond t n (Tests l y n))
      go true = h
      go false = (p, g, h)

  counts-mapped : (a b : ℕ) (f : Leaf → Leaf) → ((x : Leaf) → is_num_to a x ≡ true → is_num_to b (f x) ≡ true) → (t : Tree) → CountsTo sizes a t → CountsTo sizes b (mapped f t)
  counts-mapped a b f g (Ends x) h = g x h
  counts-mapped a b f g (Tests l y n) h = counts-join b l (mapped f y) (mapped f n) h.0 (counts-mapped a b f g y h.1) (counts-mapped a b f g n h.2)

  counts-against : (a b k : ℕ) (fy fn : Tree → Tree) → is_plain_level sizes k ≡ true → ((u : Tree) → CountsTo sizes a u → CountsTo sizes b (fy u)) → ((u : Tree) → CountsTo sizes a u → CountsTo sizes b (fn u))
      → (u : Tree) → CountsTo sizes a u → CountsTo sizes b (against k fy fn u)
  counts-against a b k fy fn p g i (Ends x) h = counts-join b k (fy (Ends x)) (fn (Ends x)) p (g (Ends x) h) (i (Ends x) h)
  counts-against a b k fy fn p g i (Tests l v m) h = go (nat_lt k l) (nat_lt l k) (counts-against a b k fy fn p g i v h.1) (counts-against a b k fy fn p g i m h.2)
    where
      go : (c d : Bool) → CountsTo sizes b (against k fy fn v) → CountsTo sizes b (against k fy fn m)
          → CountsTo sizes b (cond c (join k (fy (Tests l v m)) (fn (Tests l v m))) (cond d (join l (against k fy fn v) (against k fy fn m)) (join k (fy v) (fn m))))
      go true d r s = counts-join b k (fy (Tests l v m)) (fn (Tests l v m)) p (g (Tests l v m) h) (i (Tests l v m) h)
      go false true r s = counts-join b l (against k fy fn v) (against k fy fn m) h.0 r s
      go false false r s = counts-join b k (fy v) (fn m) p (g v h.1) (i m h.2)

  counts-applied : (a b e : ℕ) (op : Leaf → Leaf → Leaf) → ((x y : Leaf) → is_num_to a x ≡ true → is_num_to b y ≡ true → is_num_to e (op x y) ≡ true)
      → (t u : Tree) → CountsTo sizes a t → CountsTo sizes b u → CountsTo sizes e (applied op t u)
  counts-applied a b e op f (Ends x) u g h = counts-mapped b e (op x) (λ y k. f x y g k) u h
  counts-applied a b e op f (Tests k y n) u g h =
      counts-against b e k (applied op y) (applied op n) g.0 (λ v i. counts-applied a b e op f y v g.1 i) (λ v i. counts-applied a b e op f n v g.2 i) u h

  counts-value : (ds : List ℕ) (b bound : ℕ) (p : List ℕ) (t : Tree) → CountsTo sizes bound t → is_num_to bound (value_at ds b t p) ≡ true
  counts-value ds b bound p (Ends x) h = h
  counts-value ds b bound p (Tests l y n) h = go (passes ds (l - b) p) (counts-value ds b bound p y h.1) (counts-value ds b bound p n h.2)
    where
      go : (c : Bool) → is_num_to bound (value_at ds b y p) ≡ true → is_num_to bound (value_at ds b n p) ≡ true → is_num_to bound (cond c (value_at ds b y p) (value_at ds b n p)) ≡ true
      go true r s = r
      go false r s = s

  counts-plain : (bound : ℕ) (t : Tree) → CountsTo sizes bound t → TestsNoPrimed sizes t
  counts-plain bound (Ends x) h = tt
  counts-plain bound (Tests l y n) h = (h.0, counts-plain bound y h.1, counts-plain bound n h.2)

-- entries of such trees
pub count-grows : {s t : Shown} {bound var : ℕ} {r : Entry} → Grows s t → IsCount s bound var r → IsCount t bound var r
count-grows {r = r} g h = record {
  knows = g.knows r h.knows;
  from = rw (g.sizes, g.trees r h.knows) h.from;
  counts = rw (g.sizes, g.trees r h.knows) h.counts;
}

pub count-more : {s : Shown} {a : ℕ} (b : ℕ) {var : ℕ} {r : Entry} → a ≤ b → IsCount s a var r → IsCount s b var r
count-more {s = s} {a = a} b {r = r} g h = record { knows = h.knows; from = h.from; counts = counts-more s.sizes a b g (s.tree r) h.counts }

pub count-leaf : {s : Shown} (bound var : ℕ) {r : Entry} {a : Leaf} → KnowsAs s r (Ends a) → is_num_to bound a ≡ true → IsCount s bound var r
count-leaf bound var h k = record { knows = h.knows; from = rw h.tree tt; counts = rw h.tree k }

pub count-whole : {s : Shown} {bound var : ℕ} {r : Entry} → IsCount s bound var r → IsWhole s r
count-whole {s = s} {var = var} {r = r} h = IsFrom-lower (slots s.sizes) 0 (2 * var) (s.tree r) (omega arith) h.from

pub count-plain : {s : Shown} {bound var : ℕ} {r : Entry} → IsCount s bound var r → TestsNoPrimed s.sizes (s.tree r)
count-plain {s = s} {bound = bound} {r = r} h = counts-plain s.sizes bound (s.tree r) h.counts

pub fit-counts : (fits : Leaf → Leaf → Bool) (bound : ℕ) {s : Shown} {f g : Entry} → FitsTo fits bound → IsCount s bound 0 f → IsCount s bound 0 g → FitEverywhere fits s f g
fit-counts fits bound {s = s} {f = f} {g = g} h i j = record {
  at = λ x y p q. h.at _ _ (counts-value s.sizes (slots s.sizes) 0 bound (point x y) (s.tree f) i.counts) (counts-value s.sizes (slots s.sizes) 0 bound (point x y) (s.tree g) j.counts);
}

-- a test of a variable's first plain value
module _ (s t : Shown) (bound var level : ℕ) (y n : Entry) (z : s.sizes ≡ twos 20) (v : var < 20) (e : level ≡ level_at s.sizes var false 0) (h : IsCount s bound (var + 1) y) (i : IsCount s bound (var + 1) n) where
  level-is : level ≡ 2 * var + 1
  level-is = e ∙ ap (λ (w : List ℕ). level_at w var false 0) z ∙ level-twos 20 var v

  after-is : after (slots s.sizes) level ≡ 2 * (var + 1)
  after-is = rw z (after-twos 20 level (omega (arith, level-is)) ∙ omega (arith, level-is))

  pub count-can : CanTest (slots s.sizes) level (s.tree y) (s.tree n)
  count-can = record { yes_fits = rw after-is h.from; no_fits = inl (rw after-is i.from) }

  from-test : IsFrom (slots s.sizes) 0 (2 * var) (join level (s.tree y) (s.tree n))
  from-test = go (tree_eq (s.tree y) (s.tree n))
    where
      go : (c : Bool) → IsFrom (slots s.sizes) 0 (2 * var) (cond c (s.tree n) (Tests level (s.tree y) (s.tree n)))
      go true = IsFrom-lower (slots s.sizes) (2 * var) (2 * (var + 1)) (s.tree n) (omega arith) i.from
      go false = (omega (arith, level-is), rw z (first-twos 20 (level - 0)))

  plain-is : is_plain_level s.sizes level ≡ true
  plain-is = rw (z, level-is) (plain-twos 20 var v)

  pub count-test : {r : Entry} → Grows s t → KnowsAs t r (join level (s.tree y) (s.tree n)) → IsCount t bound var r
  count-test g k = record {
    knows = k.knows;
    from = rw (g.sizes, k.tree) from-test;
    counts = rw (g.sizes, k.tree) (counts-join s.sizes bound level (s.tree y) (s.tree n) plain-is h.counts i.counts);
  }

-- what an operation makes of two entries
pub applied-made : (op : Leaf → Leaf → Leaf) (s t : Shown) (f g : Entry) {r : Entry} → IsSound s → s.knows f ≡ true → s.knows g ≡ true → IsWhole s f → IsWhole s g → Grows s t → StandsFor t r (at_each op (meaning s f) (meaning s g)) → IsApplied op s t f g r
applied-made op s t f g {r = r} o kf kg wf wg w h = record {
  knows = h.knows;
  whole = h.whole;
  tree = h.tree ∙ rw (w.sizes) (sym (tree-for o (apply-tree (λ a b. true) op s o f g kf kg wf wg)));
}

pub count-sum : {s t : Shown} (a b : ℕ) {f g r : Entry} → Grows s t → IsCount s a 0 f → IsCount s b 0 g → IsApplied (λ x y. num_of (λ x y. x +ℤ y) x y) s t f g r → IsCount t (a + b) 0 r
count-sum {s = s} {t = t} a b {f = f} {g = g} w i j h = record {
  knows = h.knows;
  from = h.whole;
  counts = rw (w.sizes, h.tree) (counts-applied s.sizes a b (a + b) (λ x y. num_of (λ x y. x +ℤ y) x y) (add-nums a b) (s.tree f) (s.tree g) i.counts j.counts);
}

-- what follows from an answer
pub if-ok : {E X : Type 0} {P Q : X → Type 0} → ((x : X) → P x → Q x) → (r : Result X E) → IfOk r P → IfOk r Q
if-ok f (Ok x) h = f x h
if-ok f (Err e) h = tt

pub ruleset count_laws = (count-grows, count-leaf, count-whole, count-plain)
