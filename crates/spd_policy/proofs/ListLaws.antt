-- What is made of a list of whole entries.
use Rattle.std.proofs.Common.{◌≡◌, ℕ, ◌+◌, ◌-◌, ◌*◌, ◌<◌, ◌≤◌, List, [], ◌∷◌, map, length, refl, sym, ◌∙◌, ap, subst, arith, true, inl, All}
use Rattle.std.specs.Prelude.{Contains}
use Rattle.std.proofs.lemmas.List.{length-map}
use Rattle.std.proofs.lemmas.List.Elements.{All-nil, All-cons, All-head, All-tail, All-weaker}
use Rattle.spd_cons_core.specs.declared.key.Entry.{Entry}
use Rattle.spd_model.specs.Numbers.{greatest}
use Rattle.spd_model.specs.States.{IsState}
use Rattle.spd_nodes.specs.declared.leaf.Leaf.{Leaf}
use Rattle.spd_nodes.specs.declared.leaf.Leaf.TheVariants.{Num}
use Rattle.spd_nodes.specs.Levels.{levels_of, slots}
use Rattle.spd_nodes.specs.Trees.{Tree, IsFrom, IsReduced}
use Rattle.spd_nodes.specs.States.{Function, point}
use Rattle.spd_nodes.specs.Shown.{Shown, IsSound, IsWhole, Grows, meaning}
use Rattle.spd_nodes.proofs.CallerLemmas.{IsTreeFor, meaning-grows}
use Rattle.spd_apply.proofs.CallerLemmas.{not-before-from}
use Rattle.spd_gather.specs.Down.{Each, Stands, at_leaves, at_each_leaf}
use Rattle.spd_gather.specs.Lists.{trees_of, AreKnown, HoldsRows, IsListReady}
use Rattle.spd_gather.specs.Rows.{Row}
use Rattle.spd_gather.proofs.CallerLemmas.{down-whole, each-both, each-of, each-weaker, leaves-end, reduced-all, rows-grow, value_at-each, values_at}
use Rattle.spd_weigh.specs.Leaves.{number_of}
use Rattle.spd_policy.specs.Best.{numbers_at, greatest_of, IsNum, IsNumeric}
use Rattle.spd_policy.specs.Choosing.{greatest_leaf, MayCompare}
use Rattle.spd_policy.proofs.LeafLaws.{greatest-number, leaf_numbers}

-- ---- entries with numbers

pub numeric-known : (s : Shown) (ks : List Entry) → All (IsNumeric s) ks → AreKnown s ks
numeric-known s ks h = All-weaker (IsNumeric s) (λ k. s.knows k ≡ true) (λ k n. n.known) ks h

numeric-whole : (s : Shown) (ks : List Entry) → All (IsNumeric s) ks → Each (IsFrom (slots s.sizes) 0 0) (trees_of s ks)
numeric-whole s ks h = each-of (IsFrom (slots s.sizes) 0 0) s ks (All-weaker (IsNumeric s) (λ k. IsWhole s k) (λ k n. n.whole) ks h)

numeric-stays : (s t : Shown) (k : Entry) → Grows s t → IsNumeric s k → IsNumeric t k
numeric-stays s t k g h = record {
  known = g.knows k h.known;
  whole = rw (g.sizes, g.trees k h.known) h.whole;
  numbers = λ x y p q. subst (λ (f : Function). IsNum (f x y)) (sym (meaning-grows s t k g h.known)) (h.numbers x y (rw (g.sizes) at p) (rw (g.sizes) at q));
}

pub numeric-grows : (s t : Shown) (ks : List Entry) → Grows s t → All (IsNumeric s) ks → All (IsNumeric t) ks
numeric-grows s t ks g h = All-weaker (IsNumeric s) (IsNumeric t) (λ k n. numeric-stays s t k g n) ks h

-- ---- what is made of them

-- the leaves of entries at a point
abbrev pub leaves_at : Shown → List Entry → List ℕ → List ℕ → List Leaf
leaves_at s ks x y = map (λ r. meaning s r x y) ks

values-are : (s : Shown) (ks : List Entry) (x y : List ℕ) → values_at (slots s.sizes) (point x y) (trees_of s ks) ≡ leaves_at s ks x y
values-are s [] x y = refl
values-are s (k ∷ ks) x y = ap (λ z. meaning s k x y ∷ z) (values-are s ks x y)

pub numbers-at : (s : Shown) (ks : List Entry) (x y : List ℕ) → leaf_numbers (leaves_at s ks x y) ≡ numbers_at (map (meaning s) ks) x y
numbers-at s [] x y = refl
numbers-at s (k ∷ ks) x y = ap (λ z. number_of (meaning s k x y) ∷ z) (numbers-at s ks x y)

pub all-nums : (s : Shown) (ks : List Entry) → All (IsNumeric s) ks → (x y : List ℕ) → IsState s.sizes x → IsState s.sizes y → All IsNum (leaves_at s ks x y)
all-nums s [] h x y p q = All-nil IsNum
all-nums s (k ∷ ks) h x y p q =
    All-cons IsNum (meaning s k x y) (leaves_at s ks x y) ((All-head (IsNumeric s) k ks h).numbers x y p q) (all-nums s ks (All-tail (IsNumeric s) k ks h) x y p q)

module _ (levels : ℕ) (s : Shown) (o : IsSound s) (same : levels ≡ levels_of (slots s.sizes)) (ks : List Entry) (h : All (IsNumeric s) ks) (some : 0 < length ks) where
  abbrev ds : List ℕ
  ds = slots s.sizes

  abbrev ts : List Tree
  ts = trees_of s ks

  reduced : Each (IsReduced ds 0) ts
  reduced = reduced-all s o ks (numeric-known s ks h)

  whole : Each (IsFrom ds 0 0) ts
  whole = numeric-whole s ks h

  stands : Each (Stands ds 0) ts
  stands = each-weaker (λ t. IsReduced ds 0 t × IsFrom ds 0 0 t) (Stands ds 0) (λ t a. (a.0, not-before-from ds 0 0 t (omega arith) a.1)) ts (each-both (IsReduced ds 0) (IsFrom ds 0 0) ts reduced whole)

  pub list-tree : (op : List Leaf → Leaf) → IsTreeFor s (at_each_leaf (levels_of ds) op ts) (λ x y. op (leaves_at s ks x y))
  list-tree op =
      let w = down-whole ds (levels_of ds) (at_leaves op) (leaves-end ds op) ts reduced whole in
      record { reduced = w.0; whole = w.1; value = record { at = λ x y p q. value_at-each ds op ts (point x y) stands ∙ ap op (values-are s ks x y) } }

  pub all-levels : (op : List Leaf → Leaf) (f : Function) → IsTreeFor s (at_each_leaf (levels_of ds) op ts) f → IsTreeFor s (at_each_leaf levels op ts) f
  all-levels op f = subst (λ v. IsTreeFor s (at_each_leaf v op ts) f) (sym same)

  -- the tree of the greatest number at each state
  pub greatest-tree : IsTreeFor s (at_each_leaf levels greatest_leaf ts) (greatest_of (map (meaning s) ks))
  greatest-tree =
      let w = list-tree greatest_leaf in
      all-levels greatest_leaf (greatest_of (map (meaning s) ks)) (record {
        reduced = w.reduced;
        whole = w.whole;
        value = record {
          at = λ x y p q.
              w.value.at x y p q ∙ greatest-number (leaves_at s ks x y) (all-nums s ks h x y p q) (omega (arith, some, length-map ks (λ r. meaning s r x y)))
              ∙ ap (λ z. Num (greatest z)) (numbers-at s ks x y);
        };
      })

  pub list-ready : length ks ≤ 65 → (op : List Leaf → Leaf) (rows : List Row) → HoldsRows (at_each_leaf (levels_of ds) op) s rows → IsListReady (at_each_leaf levels op) (MayCompare levels s.sizes) s ks rows
  list-ready few op rows holds = record {
    sound = o;
    met = record {
      known = numeric-known s ks h;
      trees = record { same = same; some = omega (arith, some, length-map ks s.tree); few = omega (arith, few, length-map ks s.tree); meet = inl (record { from = 0; each = whole }) };
    };
    table = rw same holds;
  }

-- afterwards the table holds such answers again
pub list-holds : (op : List Leaf → Leaf) (levels : ℕ) (s t : Shown) → levels ≡ levels_of (slots s.sizes) → t.sizes ≡ s.sizes → (rows : List Row) → HoldsRows (at_each_leaf levels op) t rows → HoldsRows (at_each_leaf (levels_of (slots t.sizes)) op) t rows
list-holds op levels s t same e rows h = subst (λ v. HoldsRows (at_each_leaf v op) t rows) (same ∙ ap (λ (z : List ℕ). levels_of (slots z)) (sym e)) h

-- a table without rows holds such answers, and goes on to hold them
pub holds-none : (op : List Leaf → Leaf) (s : Shown) (rows : List Row) → rows ≡ [] → HoldsRows (at_each_leaf (levels_of (slots s.sizes)) op) s rows
holds-none op s rows e = record { each = λ ks r m. absurd (let n = subst (λ (l : List Row). Contains l (ks, r)) e m in omega (arith, n.1)) }

pub holds-grow : (op : List Leaf → Leaf) (s t : Shown) (rows : List Row) → Grows s t → HoldsRows (at_each_leaf (levels_of (slots s.sizes)) op) s rows → HoldsRows (at_each_leaf (levels_of (slots t.sizes)) op) t rows
holds-grow op s t rows g h =
    subst (λ (z : List ℕ). HoldsRows (at_each_leaf (levels_of (slots z)) op) t rows) (sym g.sizes) (rows-grow h g)
