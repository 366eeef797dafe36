-- Entries on both sides of their lowest level, one more at a time.
use Rattle.std.proofs.Common.{◌≡◌, ℕ, zero, suc, ◌+◌, ◌<◌, ◌==◌, true, false, subst, List, [], ◌∷◌, ◌++◌, map, None, Some, Option, refl, sym, ◌∙◌, ap, arith, length, get_or}
use Rattle.std.proofs.lemmas.Bool.{ne_eqb}
use Rattle.std.proofs.lemmas.List.{map_push, length-append, length-map}
use Rattle.std.proofs.lemmas.List.Elements.{All-push, All-get_or}
use Rattle.spd_cons_core.specs.declared.key.Entry.{Entry}
use Rattle.spd_nodes.specs.declared.leaf.Leaf.{Leaf}
use Rattle.spd_nodes.specs.declared.layout.Level.{Level}
use Rattle.spd_nodes.specs.Trees.{Tree, Ends, Tests}
use Rattle.spd_nodes.specs.Shown.{Shown}
use Rattle.spd_apply.specs.Halves.{yes_at, no_at, IsNotBefore, IsLeaf}
use Rattle.spd_apply.proofs.CallerLemmas.{eq-refl, not-before-lower}
use Rattle.spd_gather.specs.declared.halves.Sides.{Sides}
use Rattle.spd_gather.specs.Down.{Each}
use Rattle.spd_gather.specs.Lists.{trees_of, AreKnown, IsLowOf, IsBefore, IsSame, AreAt, IsSplit}
use Rattle.spd_gather.proofs.DownLaws.{each-weaker, halves-none}
use Rattle.spd_gather.proofs.LowLaws.{each-push, one-push, one-last, leaf-before}

-- Each side has one entry more where the list has one.
halves-push : (f : Tree → Tree) (s : Shown) (ks hs : List Entry) (k h : Entry) → trees_of s hs ≡ map f (trees_of s ks) → s.tree h ≡ f (s.tree k) → trees_of s (hs ++ h ∷ []) ≡ map f (trees_of s (ks ++ k ∷ []))
halves-push f s ks hs k h a e =
    map_push s.tree hs h
    ∙ rw (a, e) (sym (map_push f (trees_of s ks) (s.tree k)) ∙ ap (map f) (sym (map_push s.tree ks k)))

at-push : (s : Shown) (half : ℕ → Tree → Tree) (low : Option Level) (ks hs : List Entry) (k h : Entry) → AreAt s half low ks hs → ((l : Level) → low ≡ Some l → s.tree h ≡ half l.0 (s.tree k)) → AreAt s half low (ks ++ k ∷ []) (hs ++ h ∷ [])
at-push s half None ks hs k h a e = length-append hs (h ∷ []) ∙ ap (λ n. n + 1) a ∙ sym (length-append ks (k ∷ []))
at-push s half (Some l) ks hs k h a e = halves-push (half l.0) s ks hs k h a (e l refl)

pushed : (s : Shown) (ks : List Entry) (v w : Sides) (k y n : Entry) → IsSplit s ks v → w.low ≡ v.low → w.yes.items ≡ v.yes.items ++ y ∷ [] → w.no.items ≡ v.no.items ++ n ∷ [] → IsLowOf s v.low (ks ++ k ∷ [])
    → s.knows y ≡ true → s.knows n ≡ true → ((l : Level) → v.low ≡ Some l → (s.tree y ≡ yes_at l.0 (s.tree k)) × (s.tree n ≡ no_at l.0 (s.tree k))) → IsSplit s (ks ++ k ∷ []) w
pushed s ks v w k y n h a b c low p q e = record {
  low = rw a low;
  known_yes = rw b (All-push (λ r. s.knows r ≡ true) v.yes.items y h.known_yes p);
  known_no = rw c (All-push (λ r. s.knows r ≡ true) v.no.items n h.known_no q);
  yes = rw (a, b) (at-push s yes_at v.low ks v.yes.items k y h.yes (λ l i. (e l i).0));
  no = rw (a, c) (at-push s no_at v.low ks v.no.items k n h.no (λ l i. (e l i).1));
}

-- a leaf is its own half
low-leaf : (s : Shown) (low : Option Level) (ks : List Entry) (k : Entry) (a : Leaf) → IsLowOf s low ks → s.tree k ≡ Ends a → IsLowOf s low (ks ++ k ∷ [])
low-leaf s None ks k a h i = each-push IsLeaf s ks k h (rw i tt)
low-leaf s (Some l) ks k a h i = record { none_before = each-push (IsNotBefore l.0) s ks k h.none_before (rw i tt); one_at = one-push l.0 s ks k h.one_at }

pub split-leaf : (s : Shown) (ks : List Entry) (v w : Sides) (k : Entry) (a : Leaf) → IsSplit s ks v → s.tree k ≡ Ends a → s.knows k ≡ true → w.low ≡ v.low → w.yes.items ≡ v.yes.items ++ k ∷ [] → w.no.items ≡ v.no.items ++ k ∷ [] → IsSplit s (ks ++ k ∷ []) w
split-leaf s ks v w k a h i p x y z = pushed s ks v w k k k h x y z (low-leaf s v.low ks k a h.low i) p p (λ l j. (rw i refl, rw i refl))

-- a test of the lowest level goes to its branches
low-later : (s : Shown) (low : Option Level) (ks : List Entry) (k : Entry) (l : Level) (t u : Tree) → IsLowOf s low ks → s.tree k ≡ Tests l.0 t u → (IsBefore l low → ⊥) → IsLowOf s low (ks ++ k ∷ [])
low-later s None ks k l t u h i b = absurd (b tt)
low-later s (Some m) ks k l t u h i b = record { none_before = each-push (IsNotBefore m.0) s ks k h.none_before (rw i (omega (arith, b))); one_at = one-push m.0 s ks k h.one_at }

pub split-same : (s : Shown) (ks : List Entry) (v w : Sides) (k y n : Entry) (l : Level) → IsSplit s ks v → s.tree k ≡ Tests l.0 (s.tree y) (s.tree n) → s.knows y ≡ true → s.knows n ≡ true → (IsBefore l v.low → ⊥) → IsSame l v.low
    → w.low ≡ v.low → w.yes.items ≡ v.yes.items ++ y ∷ [] → w.no.items ≡ v.no.items ++ n ∷ [] → IsSplit s (ks ++ k ∷ []) w
split-same s ks v w k y n l h i p q b m x c d = pushed s ks v w k y n h x c d (low-later s v.low ks k l _ _ h.low i b) p q (at v.low m)
  where
    at : (low : Option Level) → IsSame l low → (j : Level) → low ≡ Some j → (s.tree y ≡ yes_at j.0 (s.tree k)) × (s.tree n ≡ no_at j.0 (s.tree k))
    at low e j is = let o : l.0 ≡ j.0 = rw is at e in (rw (i, sym o, eq-refl l.0) refl, rw (i, sym o, eq-refl l.0) refl)

-- a test of a later one is its own half
pub split-later : (s : Shown) (ks : List Entry) (v w : Sides) (k y n : Entry) (l : Level) → IsSplit s ks v → s.tree k ≡ Tests l.0 (s.tree y) (s.tree n) → s.knows k ≡ true → (IsBefore l v.low → ⊥) → (IsSame l v.low → ⊥)
    → w.low ≡ v.low → w.yes.items ≡ v.yes.items ++ k ∷ [] → w.no.items ≡ v.no.items ++ k ∷ [] → IsSplit s (ks ++ k ∷ []) w
split-later s ks v w k y n l h i p b m x c d = pushed s ks v w k k k h x c d (low-later s v.low ks k l _ _ h.low i b) p p (at v.low m)
  where
    at : (low : Option Level) → (IsSame l low → ⊥) → (j : Level) → low ≡ Some j → (s.tree k ≡ yes_at j.0 (s.tree k)) × (s.tree k ≡ no_at j.0 (s.tree k))
    at low e j is = let o : l.0 ≡ j.0 → ⊥ = rw is at e in let f : (l.0 == j.0) ≡ false = ne_eqb l.0 j.0 o in (rw (i, f) refl, rw (i, f) refl)

-- before a level that comes before all of theirs the entries so far are their own halves
low-past : (s : Shown) (low : Option Level) (ks : List Entry) (l : Level) → IsLowOf s low ks → IsBefore l low → Each (IsNotBefore (l.0 + 1)) (trees_of s ks)
low-past s None ks l h b = each-weaker IsLeaf (IsNotBefore (l.0 + 1)) (leaf-before (l.0 + 1)) _ h
low-past s (Some m) ks l h b = each-weaker (IsNotBefore m.0) (IsNotBefore (l.0 + 1)) (λ t n. not-before-lower (l.0 + 1) m.0 t (omega (arith, b)) n) _ h.none_before

pub split-before : (s : Shown) (ks : List Entry) (v w : Sides) (k y n : Entry) (l : Level) → IsSplit s ks v → AreKnown s ks → s.tree k ≡ Tests l.0 (s.tree y) (s.tree n) → s.knows y ≡ true → s.knows n ≡ true → IsBefore l v.low
    → w.low ≡ Some l → w.yes.items ≡ ks ++ y ∷ [] → w.no.items ≡ ks ++ n ∷ [] → IsSplit s (ks ++ k ∷ []) w
split-before s ks v w k y n l h g i p q b x c d =
    let past = low-past s v.low ks l h.low b in
    let own = halves-none l.0 (trees_of s ks) past in
    let yes : s.tree y ≡ yes_at l.0 (s.tree k) = rw (i, eq-refl l.0) refl in
    let no : s.tree n ≡ no_at l.0 (s.tree k) = rw (i, eq-refl l.0) refl in
    let low : IsLowOf s (Some l) (ks ++ k ∷ []) = record {
      none_before = each-push (IsNotBefore l.0) s ks k (each-weaker (IsNotBefore (l.0 + 1)) (IsNotBefore l.0) (λ t m. not-before-lower l.0 (l.0 + 1) t (omega arith) m) _ past) (rw i (omega arith));
      one_at = one-last l.0 s ks k (rw i refl);
    } in
    record {
      low = rw x low;
      known_yes = rw c (All-push (λ r. s.knows r ≡ true) ks y g p);
      known_no = rw d (All-push (λ r. s.knows r ≡ true) ks n g q);
      yes = rw (x, c) (halves-push (yes_at l.0) s ks ks k y (sym own.0) yes);
      no = rw (x, d) (halves-push (no_at l.0) s ks ks k n (sym own.1) no);
    }

-- An entry that stands there already.
each-at : (P : Tree → Type 0) (s : Shown) (ks : List Entry) (j : ℕ) (d : Entry) → j < length ks → Each P (trees_of s ks) → P (s.tree (get_or ks j d))
each-at P s [] j d b h = absurd (omega arith)
each-at P s (k ∷ ks) zero d b h = h.0
each-at P s (k ∷ ks) (suc j) d b h = each-at P s ks j d (omega arith) h.1

low-again : (s : Shown) (low : Option Level) (ks : List Entry) (j : ℕ) (d : Entry) → j < length ks → IsLowOf s low ks → IsLowOf s low (ks ++ get_or ks j d ∷ [])
low-again s None ks j d b h = each-push IsLeaf s ks _ h (each-at IsLeaf s ks j d b h)
low-again s (Some l) ks j d b h = record { none_before = each-push (IsNotBefore l.0) s ks _ h.none_before (each-at (IsNotBefore l.0) s ks j d b h.none_before); one_at = one-push l.0 s ks _ h.one_at }

half-again : (f : Tree → Tree) (s : Shown) (ks hs : List Entry) (j : ℕ) (d e : Entry) → j < length ks → trees_of s hs ≡ map f (trees_of s ks) → s.tree (get_or hs j e) ≡ f (s.tree (get_or ks j d))
half-again f s [] hs j d e b h = absurd (omega arith)
half-again f s (k ∷ ks) [] j d e b h = absurd (cc h)
half-again f s (k ∷ ks) (g ∷ hs) zero d e b h = cc h
half-again f s (k ∷ ks) (g ∷ hs) (suc j) d e b h = half-again f s ks hs j d e (omega arith) (cc h)

at-length : (s : Shown) (half : ℕ → Tree → Tree) (low : Option Level) (ks hs : List Entry) → AreAt s half low ks hs → length hs ≡ length ks
at-length s half None ks hs h = h
at-length s half (Some l) ks hs h = sym (length-map hs s.tree) ∙ ap length h ∙ length-map (trees_of s ks) (half l.0) ∙ length-map ks s.tree

-- each side has as many entries
pub split-length : (s : Shown) (ks : List Entry) (v : Sides) → IsSplit s ks v → (length v.yes.items ≡ length ks) × (length v.no.items ≡ length ks)
split-length s ks v h = (at-length s yes_at v.low ks v.yes.items h.yes, at-length s no_at v.low ks v.no.items h.no)

pub split-again : (s : Shown) (ks : List Entry) (v w : Sides) (j : ℕ) (k y n : Entry) → IsSplit s ks v → j < length ks → k ≡ get_or ks j k → y ≡ get_or v.yes.items j y → n ≡ get_or v.no.items j n
    → w.low ≡ v.low → w.yes.items ≡ v.yes.items ++ y ∷ [] → w.no.items ≡ v.no.items ++ n ∷ [] → IsSplit s (ks ++ k ∷ []) w
split-again s ks v w j k y n h b i yi ni x c d =
    let m = split-length s ks v h in
    pushed s ks v w k y n h x c d (subst (λ r. IsLowOf s v.low (ks ++ r ∷ [])) (sym i) (low-again s v.low ks j k b h.low))
    (subst (λ r. s.knows r ≡ true) (sym yi) (All-get_or (λ r. s.knows r ≡ true) v.yes.items j y (omega (arith, m.0, b)) h.known_yes))
    (subst (λ r. s.knows r ≡ true) (sym ni) (All-get_or (λ r. s.knows r ≡ true) v.no.items j n (omega (arith, m.1, b)) h.known_no))
    (λ l e. (
      ap s.tree yi ∙ half-again (yes_at l.0) s ks v.yes.items j k y b (rw e at h.yes) ∙ ap (λ r. yes_at l.0 (s.tree r)) (sym i),
      ap s.tree ni ∙ half-again (no_at l.0) s ks v.no.items j k n b (rw e at h.no) ∙ ap (λ r. no_at l.0 (s.tree r)) (sym i),
    ))
