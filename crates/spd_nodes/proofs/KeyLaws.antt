-- The derived equality of keys is equality, and what a look-up by it says of a list of keys.
use Rattle.std.proofs.Common.{◌≡◌, ℕ, ◌<◌, inl, inr, ◌==◌, ◌&&◌, Bool, true, false, List, [], ◌∷◌, ◌++◌, length, get_or, Option, Some, None, MatchOption, is_some, slice_get, refl, sym, ◌∙◌, ap, arith, true≢false, if◌then◌else◌}
use Rattle.std.specs.List.{list_any, position, position_or_len}
use Rattle.std.specs.Ordering.{int_eq}
use Rattle.std.proofs.lemmas.Bool.{and_parts, and_from}
use Rattle.std.proofs.lemmas.Bool.Decides.{Decides-int_eq, Decides-eqb}
use Rattle.std.proofs.lemmas.List.Folds.{list_any_at}
use Rattle.std.proofs.lemmas.List.Sums.{position_or_len_is}
use Rattle.std.proofs.lemmas.List.Quantifiers.{position-Some}
use Rattle.std.proofs.lemmas.Option.{get_or_from_slice_get}
use Rattle.spd_cons_core.specs.declared.key.Entry.{Entry}
use Rattle.spd_cons_core.specs.declared.key.Key.{Key}
use Rattle.spd_cons_core.specs.declared.key.Key.TheVariants as K
use Rattle.spd_cons_core.specs.contracts.key.KeyPartialEq.TheImpl.{eq-value}
use Rattle.spd_nodes.specs.Keys.{IsPlace, IsAbsent, PlacesKey}

-- the derived `==`
abbrev pub key_eq : Key → Key → Bool
key_eq = eq-value.it

pub same_entry : (a b : Entry) → (a.0 == b.0) ≡ true → a ≡ b
same_entry a b e = let h : a.0 ≡ b.0 = (Decides-eqb a.0 b.0).0 e in λ i. record { 0 = h i }

pub key_eq-true : (a b : Key) → key_eq a b ≡ true → a ≡ b
key_eq-true (K.Test l y n) (K.Test k v m) e =
    let s : (l == k ≡ true) × ((y.0 == v.0 && n.0 == m.0) ≡ true) = and_parts _ _ e in
    let r : (y.0 == v.0 ≡ true) × (n.0 == m.0 ≡ true) = and_parts _ _ s.1 in
    let a : l ≡ k = (Decides-eqb l k).0 s.0 in
    let b : y ≡ v = same_entry y v r.0 in
    let c : n ≡ m = same_entry n m r.1 in
    λ i. K.Test (a i) (b i) (c i)
key_eq-true (K.Num a) (K.Num b) e = ap K.Num ((Decides-int_eq a b).0 e)
key_eq-true (K.Pair a x) (K.Pair b y) e =
    let s : (int_eq a b ≡ true) × (int_eq x y ≡ true) = and_parts _ _ e in
    let p : a ≡ b = (Decides-int_eq a b).0 s.0 in
    let q : x ≡ y = (Decides-int_eq x y).0 s.1 in
    λ i. K.Pair (p i) (q i)
key_eq-true (K.Act a) (K.Act b) e = ap K.Act ((Decides-eqb a b).0 e)
key_eq-true (K.Test l y n) (K.Num b) e = absurd (cc e)
key_eq-true (K.Test l y n) (K.Pair b x) e = absurd (cc e)
key_eq-true (K.Test l y n) (K.Act b) e = absurd (cc e)
key_eq-true (K.Num a) (K.Test k v m) e = absurd (cc e)
key_eq-true (K.Num a) (K.Pair b x) e = absurd (cc e)
key_eq-true (K.Num a) (K.Act b) e = absurd (cc e)
key_eq-true (K.Pair a x) (K.Test k v m) e = absurd (cc e)
key_eq-true (K.Pair a x) (K.Num b) e = absurd (cc e)
key_eq-true (K.Pair a x) (K.Act b) e = absurd (cc e)
key_eq-true (K.Act a) (K.Test k v m) e = absurd (cc e)
key_eq-true (K.Act a) (K.Num b) e = absurd (cc e)
key_eq-true (K.Act a) (K.Pair b x) e = absurd (cc e)

pub key_eq-refl : (a : Key) → key_eq a a ≡ true
key_eq-refl (K.Test l y n) = and_from _ _ ((Decides-eqb l l).1 refl) (and_from _ _ ((Decides-eqb y.0 y.0).1 refl) ((Decides-eqb n.0 n.0).1 refl))
key_eq-refl (K.Num a) = (Decides-int_eq a a).1 refl
key_eq-refl (K.Pair a x) = and_from _ _ ((Decides-int_eq a a).1 refl) ((Decides-int_eq x x).1 refl)
key_eq-refl (K.Act a) = (Decides-eqb a a).1 refl

-- a key that no look-up finds stands at no place
absent-none : (keys : List Key) (key : Key) → list_any (key_eq key) keys ≡ false → IsAbsent keys key
absent-none keys key h i q e =
    let t : key_eq key (get_or keys i (K.Act 0)) ≡ true = rw e (key_eq-refl key) in
    true≢false (sym (list_any_at (key_eq key) keys i (K.Act 0) q t) ∙ h)

no-match : (keys : List Key) (key : Key) (i : ℕ) → list_any (key_eq key) keys ≡ false → i < length keys → key_eq key (get_or keys i (K.Act 0)) ≡ false
no-match keys key i h q = go (key_eq key (get_or keys i (K.Act 0))) refl
  where
    go : (b : Bool) → key_eq key (get_or keys i (K.Act 0)) ≡ b → b ≡ false
    go true e = absurd (true≢false (sym (list_any_at (key_eq key) keys i (K.Act 0) q e) ∙ h))
    go false e = refl

-- what a look-up says
pub find-is : (keys : List Key) (key : Key) (r : Option ℕ) → r ≡ position (key_eq key) keys → is_some r ≡ list_any (key_eq key) keys → MatchOption r (IsAbsent keys key) (IsPlace keys key)
find-is keys key None e f = absent-none keys key (sym f)
find-is keys key (Some i) e f =
    let p = position-Some (key_eq key) keys i (K.Act 0) (sym e) in
    record { within = p.0; is = sym (key_eq-true key (get_or keys i (K.Act 0)) p.1) }

-- what an insertion says
pub places-key : (old new : List Key) (key k : Key) (place : ℕ) → new ≡ (if list_any (key_eq key) old then old else old ++ key ∷ []) → place ≡ position_or_len (key_eq key) old
    → place < length new → slice_get new place ≡ Some k → key_eq key k ≡ true → PlacesKey old new key place
places-key old new key k place e p w s t = go (list_any (key_eq key) old) refl
  where
    go : (b : Bool) → list_any (key_eq key) old ≡ b → PlacesKey old new key place
    go true h =
        let n : new ≡ old = rw h at e in
        let m : place < length old = rw (sym n) w in
        inl (n, record { within = m; is = ap (λ v. get_or v place (K.Act 0)) (sym n) ∙ get_or_from_slice_get new place k (K.Act 0) s ∙ sym (key_eq-true key k t) })
    go false h =
        let n : new ≡ old ++ key ∷ [] = rw h at e in
        inr (n, absent-none old key h, p ∙ position_or_len_is (key_eq key) old (length old) (K.Act 0) (omega arith) (λ i q. no-match old key i h q) (λ q. absurd (omega arith)))
