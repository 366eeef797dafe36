-- The newest pairs of a memo stay, also where one of them is looked up or a pair is put.
use Rattle.std.proofs.Common.{◌≡◌, ℕ, zero, suc, ◌-◌, ◌≤◌, Bool, true, false, cond, List, [], ◌∷◌, All, length, take, Option, Some, None, refl, ap, sym, ◌∙◌, subst, arith}
use Rattle.std.specs.Prelude.{Contains}
use Rattle.std.specs.List.{IsDistinct, AllByRecursion}
use Rattle.std.specs.Map.{keys_of, lookup, lookup_entry, remove_entry}
use Rattle.std.specs.Option.{option_map_or}
use Rattle.std.proofs.lemmas.Bool.{and_from, true≢false}
use Rattle.std.proofs.lemmas.Bool.Decides.{Decides-eqb}
use Rattle.std.proofs.lemmas.List.{length-take}
use Rattle.std.proofs.lemmas.List.Elements.{All-nil, All-cons, All-head, All-tail, All-contains}
use Rattle.spd_cons_core.specs.declared.key.Entry.{Entry}
use Rattle.lru.proofs.CallerLemmas.{Contains-lookup_entry}
use Rattle.spd_memo.specs.Kept.{KeptAnswers, IsKept, is_same_pair, answer_in, promoted_in, pairs_put, Keeps}
use Rattle.spd_memo.proofs.KeptLaws.{is_same_pair-true}

abbrev pub Pairs : Type 0
Pairs = List ((Entry × Entry) × Entry)

-- ---- a pair that isn't kept isn't found, and the other way round

is_same_pair-itself : (f g : Entry) → is_same_pair f g (f, g) ≡ true
is_same_pair-itself f g = and_from _ _ ((Decides-eqb f.0 f.0).1 refl) ((Decides-eqb g.0 g.0).1 refl)

none-passes : (test : Entry × Entry → Bool) (pairs : Pairs) → lookup test pairs ≡ None → All (λ (e : (Entry × Entry) × Entry). test e.0 ≡ false) pairs
none-passes test [] h = All-nil _
none-passes test (e ∷ pairs) h = go (none-passes test pairs) (test e.0) refl h
  where
    go : (lookup test pairs ≡ None → All (λ (d : (Entry × Entry) × Entry). test d.0 ≡ false) pairs) → (b : Bool) → test e.0 ≡ b
        → cond b (Some e.1) (lookup test pairs) ≡ None → All (λ (d : (Entry × Entry) × Entry). test d.0 ≡ false) (e ∷ pairs)
    go later true t found = cc
    go later false t found = All-cons (λ (d : (Entry × Entry) × Entry). test d.0 ≡ false) e pairs t (later found)

pub keeps-not : (k : KeptAnswers) (f g : Entry) → answer_in k.pairs f g ≡ None → Keeps k f g → ⊥
keeps-not k f g none there =
    let fails = All-contains (λ (e : (Entry × Entry) × Entry). is_same_pair f g e.0 ≡ false) k.pairs ((f, g), there.0)
    (none-passes (is_same_pair f g) k.pairs none) there.1 in
    true≢false (sym (is_same_pair-itself f g) ∙ fails)

not-found : (k : KeptAnswers) (f g : Entry) → (Keeps k f g → ⊥) → lookup_entry (is_same_pair f g) k.pairs ≡ None
not-found k f g absent = go (lookup_entry (is_same_pair f g) k.pairs) refl
  where
    go : (o : Option ((Entry × Entry) × Entry)) → lookup_entry (is_same_pair f g) k.pairs ≡ o → o ≡ None
    go None e = refl
    go (Some p) e =
        let there = Contains-lookup_entry (is_same_pair f g) k.pairs p e in
        absurd (absent (p.1, subst (λ (q : Entry × Entry). Contains k.pairs (q, p.1)) (is_same_pair-true f g p.0 there.1) there.0))

-- ---- the newest pairs after a look-up

module _ (test : Entry × Entry → Bool) (P : (Entry × Entry) × Entry → Type 0) where
  by_test : (b : Bool) (n : ℕ) (xs ys : Pairs) → All P (take n xs) → All P (take n ys) → All P (take n (cond b xs ys))
  by_test true n xs ys h k = h
  by_test false n xs ys h k = k

  newest-without : (n : ℕ) (pairs : Pairs) → All P (take (suc n) pairs) → All P (take n (remove_entry test pairs))
  newest-without zero pairs h = All-nil P
  newest-without (suc n) [] h = All-nil P
  newest-without (suc n) (e ∷ pairs) h =
      let later = All-tail P e (take (suc n) pairs) h in
      by_test (test e.0) (suc n) pairs (e ∷ remove_entry test pairs) later
      (All-cons P e (take n (remove_entry test pairs)) (All-head P e (take (suc n) pairs) h) (newest-without n pairs later))

pub length-without : (test : Entry × Entry → Bool) (pairs : Pairs) (e : (Entry × Entry) × Entry) → lookup_entry test pairs ≡ Some e
    → suc (length (remove_entry test pairs)) ≡ length pairs
length-without test [] e h = cc
length-without test (p ∷ pairs) e h = go (length-without test pairs e) (test p.0) h
  where
    go : (lookup_entry test pairs ≡ Some e → suc (length (remove_entry test pairs)) ≡ length pairs) → (b : Bool)
        → cond b (Some p) (lookup_entry test pairs) ≡ Some e → suc (length (cond b pairs (p ∷ remove_entry test pairs))) ≡ suc (length pairs)
    go later true found = refl
    go later false found = ap suc (later found)

take-shorter : (P : (Entry × Entry) × Entry → Type 0) (n m : ℕ) (pairs : Pairs) → n ≤ m → All P (take n pairs) → All P (take n (take m pairs))
take-shorter P zero m pairs within h = All-nil P
take-shorter P (suc n) zero pairs within h = absurd (omega arith)
take-shorter P (suc n) (suc m) [] within h = All-nil P
take-shorter P (suc n) (suc m) (e ∷ pairs) within h =
    All-cons P e (take n (take m pairs)) (All-head P e (take n pairs) h) (take-shorter P n m pairs (omega arith) (All-tail P e (take n pairs) h))

module _ (P : Entry × Entry → Type 0) (n : ℕ) (k : KeptAnswers) (f g : Entry) (here : P (f, g)) (newest : All (λ e. P e.0) (take n k.pairs)) where
  found : (o : Option ((Entry × Entry) × Entry)) → lookup_entry (is_same_pair f g) k.pairs ≡ o
      → All (λ e. P e.0) (take n (option_map_or (λ e. e ∷ remove_entry (is_same_pair f g) k.pairs) o k.pairs))
  found None e = newest
  found (Some p) e = front n newest
    where
      own : P p.0
      own = subst P (sym (is_same_pair-true f g p.0 (Contains-lookup_entry (is_same_pair f g) k.pairs p e).1)) here

      front : (m : ℕ) → All (λ e. P e.0) (take m k.pairs) → All (λ e. P e.0) (take m (p ∷ remove_entry (is_same_pair f g) k.pairs))
      front zero h = All-nil (λ (q : (Entry × Entry) × Entry). P q.0)
      front (suc m) h = All-cons (λ (q : (Entry × Entry) × Entry). P q.0) p _ own (newest-without (is_same_pair f g) (λ q. P q.0) m k.pairs h)

  pub newest-promoted : All (λ e. P e.0) (take n (promoted_in k.pairs f g))
  newest-promoted = found (lookup_entry (is_same_pair f g) k.pairs) refl

  pub newest-put : (r : Entry) → (Keeps k f g → ⊥) → suc n ≤ k.capacity → All (λ e. P e.0) (take (suc n) (pairs_put k f g r))
  newest-put r absent room =
      rw (not-found k f g absent)
      (All-cons (λ (q : (Entry × Entry) × Entry). P q.0) ((f, g), r) _ here (take-shorter (λ q. P q.0) n (k.capacity - 1) k.pairs (omega arith) newest))

pub length-promoted : (k : KeptAnswers) (f g : Entry) → length (promoted_in k.pairs f g) ≡ length k.pairs
length-promoted k f g = go (lookup_entry (is_same_pair f g) k.pairs) refl
  where
    go : (o : Option ((Entry × Entry) × Entry)) → lookup_entry (is_same_pair f g) k.pairs ≡ o
        → length (option_map_or (λ e. e ∷ remove_entry (is_same_pair f g) k.pairs) o k.pairs) ≡ length k.pairs
    go None e = refl
    go (Some p) e = length-without (is_same_pair f g) k.pairs p e

pub length-put : (n : ℕ) (k : KeptAnswers) (f g r : Entry) → (Keeps k f g → ⊥) → n ≤ length k.pairs → suc n ≤ k.capacity → suc n ≤ length (pairs_put k f g r)
length-put n k f g r absent there room = rw (not-found k f g absent) (omega (arith, length-take (k.capacity - 1) k.pairs))

-- ---- the newest pairs differ, and from a pair that isn't kept

abbrev pub SamePair : Entry × Entry → Entry × Entry → Bool
SamePair p q = is_same_pair p.0 p.1 q

pub apart-take : (p : Entry × Entry) (n : ℕ) (pairs : Pairs) → AllByRecursion (λ q. SamePair p q ≡ false) (keys_of pairs)
    → AllByRecursion (λ q. SamePair p q ≡ false) (keys_of (take n pairs))
apart-take p zero pairs h = tt
apart-take p (suc n) [] h = tt
apart-take p (suc n) (e ∷ pairs) h = (h.0, apart-take p n pairs h.1)

pub distinct-take : (n : ℕ) (pairs : Pairs) → IsDistinct SamePair (keys_of pairs) → IsDistinct SamePair (keys_of (take n pairs))
unfolding IsDistinct
distinct-take zero pairs h = tt
distinct-take (suc n) [] h = tt
distinct-take (suc n) (e ∷ pairs) h = (apart-take e.0 n pairs h.0, distinct-take n pairs h.1)

pub distinct-newest : (n : ℕ) (k : KeptAnswers) → IsKept k → IsDistinct SamePair (keys_of (take n k.pairs))
distinct-newest n k h = distinct-take n k.pairs h.once

apart-absent : (f g : Entry) (pairs : Pairs) → ((r : Entry) → Contains pairs ((f, g), r) → ⊥) → AllByRecursion (λ q. SamePair (f, g) q ≡ false) (keys_of pairs)
apart-absent f g [] h = tt
apart-absent f g (e ∷ pairs) h = (go (is_same_pair f g e.0) refl, apart-absent f g pairs (λ r c. h r (suc c.0, omega (arith, c.1), c.2)))
  where
    go : (b : Bool) → is_same_pair f g e.0 ≡ b → is_same_pair f g e.0 ≡ false
    go false t = t
    go true t = let same = is_same_pair-true f g e.0 t in absurd (h e.1 (0, omega arith, λ i. (same i, e.1)))

pub distinct-with : (n : ℕ) (k : KeptAnswers) (f g : Entry) → IsKept k → (Keeps k f g → ⊥) → IsDistinct SamePair ((f, g) ∷ keys_of (take n k.pairs))
unfolding IsDistinct
distinct-with n k f g h absent = (apart-take (f, g) n k.pairs (apart-absent f g k.pairs (λ r c. absent (r, c))), distinct-take n k.pairs h.once)
