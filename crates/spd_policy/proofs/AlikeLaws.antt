-- Lists whose trees are all one.
use Rattle.std.proofs.Common.{◌≡◌, ℕ, ◌<◌, List, [], ◌∷◌, map, length, get_or, refl, sym, ◌∙◌, ap, arith, true}
use Rattle.std.proofs.lemmas.List.{length-map}
use Rattle.std.proofs.lemmas.List.Elements.{All-head, All-tail, All-weaker}
use Rattle.spd_cons_core.specs.declared.key.Entry.{Entry}
use Rattle.spd_nodes.specs.Levels.{levels_of, slots}
use Rattle.spd_nodes.specs.Shown.{Shown, IsSound, KnowsAs}
use Rattle.spd_nodes.specs.Trees.{Tree, Ends, Tests}
use Rattle.spd_nodes.proofs.CallerLemmas.{level_of-reduced}
use Rattle.spd_apply.specs.Halves.{yes_at, no_at, IsNotBefore}
use Rattle.spd_gather.specs.Down.{Each, Stands, at_leaves, at_each_leaf, last_leaf}
use Rattle.spd_gather.specs.Lists.{trees_of, AreKnown}
use Rattle.spd_gather.proofs.CallerLemmas.{down-is, each-map, each-of}
use Rattle.spd_policy.specs.Choosing.{greatest_leaf, AreOne, MayCompare}
use Rattle.spd_policy.proofs.LeafLaws.{greatest-alike}

-- the trees of a list are all the first one
abbrev pub AreAlike : List Tree → Type 0
AreAlike [] = Unit {0}
AreAlike (t ∷ ts) = Each (λ u. u ≡ t) ts

-- entries that are one have one tree
pub one-alike : (s : Shown) (ks : List Entry) → AreOne ks → AreAlike (trees_of s ks)
one-alike s [] h = tt
one-alike s (k ∷ ks) h = each-of (λ t. t ≡ s.tree k) s ks (All-weaker (λ q. q ≡ k) (λ q. s.tree q ≡ s.tree k) (λ q e. ap s.tree e) ks (All-tail (λ q. q ≡ get_or (k ∷ ks) 0 q) k ks h))

-- ---- what is made of them

-- some trees, all of them this one
record AllAre (ts : List Tree) (u : Tree) : Type 0 where
  some : 0 < length ts
  each : Each (λ t. t ≡ u) ts

all-map : (f : Tree → Tree) (ts : List Tree) (u : Tree) → AllAre ts u → AllAre (map f ts) (f u)
all-map f ts u h = record { some = omega (arith, h.some, length-map ts f); each = each-map (λ t. t ≡ u) (λ t. t ≡ f u) f (λ t e. ap f e) ts h.each }

last-is : (ds : List ℕ) (u : Tree) → Stands ds (levels_of ds) u → Ends (last_leaf u) ≡ u
last-is ds (Ends a) h = refl
last-is ds (Tests l y n) h = absurd (omega (arith, h.1, level_of-reduced ds l y n h.0))

greatest-end : (ds : List ℕ) (ts : List Tree) (u : Tree) → Stands ds (levels_of ds) u → AllAre ts u → at_leaves greatest_leaf ts ≡ u
greatest-end ds [] u s h = absurd (omega (arith, h.some))
greatest-end ds (t ∷ ts) u s h =
    let e = h.each in
    ap (λ v. at_leaves greatest_leaf (v ∷ ts)) e.0 ∙ ap Ends (greatest-alike u ts e.1) ∙ last-is ds u s

greatest-is : (ds : List ℕ) (ts : List Tree) (u : Tree) → Stands ds 0 u → AllAre ts u → at_each_leaf (levels_of ds) greatest_leaf ts ≡ u
greatest-is ds ts u s h =
    down-is ds (levels_of ds) (at_leaves greatest_leaf) (λ l us v. AllAre us v)
    (λ n l us v e a. (all-map (yes_at l) us v a, all-map (no_at l) us v a))
    (λ us v st a. greatest-end ds us v st a)
    (levels_of ds) 0 ts u (omega arith) s h

not-before-start : (t : Tree) → IsNotBefore 0 t
not-before-start (Ends a) = tt
not-before-start (Tests l y n) = omega arith

-- the greatest of trees that are one is that
pub highest-known : (levels : ℕ) (s : Shown) → IsSound s → (ks : List Entry) (d : Entry) → AreKnown s ks → MayCompare levels s.sizes (trees_of s ks) → AreOne ks → KnowsAs s (get_or ks 0 d) (at_each_leaf levels greatest_leaf (trees_of s ks))
highest-known levels s o [] d known may h = absurd (omega (arith, may.some))
highest-known levels s o (k ∷ ks) d known may h =
    let here = All-head (λ q. s.knows q ≡ true) k ks known in
    let e : at_each_leaf (levels_of (slots s.sizes)) greatest_leaf (trees_of s (k ∷ ks)) ≡ s.tree k =
    greatest-is (slots s.sizes) (trees_of s (k ∷ ks)) (s.tree k) (o.reduced k here, not-before-start (s.tree k)) (record { some = may.some; each = (refl, one-alike s (k ∷ ks) h) }) in
    record { knows = here; tree = sym e ∙ ap (λ v. at_each_leaf v greatest_leaf (trees_of s (k ∷ ks))) (sym may.same) }
