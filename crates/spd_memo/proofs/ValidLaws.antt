-- A memo goes on to keep no pair twice, and no more than its capacity.
use Rattle.std.proofs.Common.{◌≡◌, ◌-◌, Bool, true, false, cond, [], ◌∷◌, take, Option, Some, None, refl, sym, subst, arith}
use Rattle.std.specs.List.{IsDistinct, AllByRecursion}
use Rattle.std.specs.Map.{keys_of, lookup_entry, remove_entry}
use Rattle.std.specs.Option.{option_map_or}
use Rattle.std.proofs.lemmas.Bool.{cond_both}
use Rattle.std.proofs.lemmas.List.{length-take}
use Rattle.std.proofs.lemmas.Map.Keys.{IsDistinct-head, IsDistinct-tail, IsDistinct-cons}
use Rattle.spd_cons_core.specs.declared.key.Entry.{Entry}
use Rattle.lru.proofs.CallerLemmas.{Contains-lookup_entry}
use Rattle.spd_memo.specs.Kept.{KeptAnswers, IsKept, is_same_pair, promoted_in, put_in}
use Rattle.spd_memo.proofs.KeptLaws.{is_same_pair-true}
use Rattle.spd_memo.proofs.NewestLaws.{Pairs, SamePair, apart-take, distinct-take, length-without}

-- this pair is none of these
abbrev Apart : Entry × Entry → Pairs → Type 0
Apart p pairs = AllByRecursion (λ q. SamePair p q ≡ false) (keys_of pairs)

abbrev AreDistinct : Pairs → Type 0
AreDistinct pairs = IsDistinct SamePair (keys_of pairs)

module _ (f g : Entry) where
  abbrev others : Pairs → Pairs
  others pairs = remove_entry (is_same_pair f g) pairs

  apart-others : (p : Entry × Entry) (pairs : Pairs) → Apart p pairs → Apart p (others pairs)
  apart-others p [] h = tt
  apart-others p (e ∷ pairs) h =
      cond_both (is_same_pair f g e.0) pairs (e ∷ others pairs) (λ l. Apart p l) (λ _. h.1) (λ _. (h.0, apart-others p pairs h.1))

  distinct-others : (pairs : Pairs) → AreDistinct pairs → AreDistinct (others pairs)
  distinct-others [] h = h
  distinct-others (e ∷ pairs) h =
      let rest = IsDistinct-tail SamePair e.0 (keys_of pairs) h in
      cond_both (is_same_pair f g e.0) pairs (e ∷ others pairs) (λ l. AreDistinct l) (λ _. rest)
      (λ _. IsDistinct-cons SamePair e.0 (keys_of (others pairs)) (apart-others e.0 pairs (IsDistinct-head SamePair e.0 (keys_of pairs) h)) (distinct-others pairs rest))

  -- a pair that is found is none of the others, and one that isn't found is none of all
  found-apart : (pairs : Pairs) (e : (Entry × Entry) × Entry) → AreDistinct pairs → lookup_entry (is_same_pair f g) pairs ≡ Some e → Apart e.0 (others pairs)
  found-apart [] e d h = cc
  found-apart (p ∷ pairs) e d h = go (found-apart pairs e (IsDistinct-tail SamePair p.0 (keys_of pairs) d)) (is_same_pair f g p.0) refl h
    where
      go : (lookup_entry (is_same_pair f g) pairs ≡ Some e → Apart e.0 (others pairs)) → (b : Bool) → is_same_pair f g p.0 ≡ b
          → cond b (Some p) (lookup_entry (is_same_pair f g) pairs) ≡ Some e → Apart e.0 (cond b pairs (p ∷ others pairs))
      go later true t found =
          let same : p ≡ e = cc in
          subst (λ (z : (Entry × Entry) × Entry). Apart z.0 pairs) same (IsDistinct-head SamePair p.0 (keys_of pairs) d)
      go later false t found =
          let own : e.0 ≡ (f, g) = is_same_pair-true f g e.0 (Contains-lookup_entry (is_same_pair f g) pairs e found).1 in
          (subst (λ (z : Entry × Entry). SamePair z p.0 ≡ false) (sym own) t, later found)

  absent-apart : (pairs : Pairs) → lookup_entry (is_same_pair f g) pairs ≡ None → Apart (f, g) pairs
  absent-apart [] h = tt
  absent-apart (p ∷ pairs) h = go (absent-apart pairs) (is_same_pair f g p.0) refl h
    where
      go : (lookup_entry (is_same_pair f g) pairs ≡ None → Apart (f, g) pairs) → (b : Bool) → is_same_pair f g p.0 ≡ b
          → cond b (Some p) (lookup_entry (is_same_pair f g) pairs) ≡ None → Apart (f, g) (p ∷ pairs)
      go later true t found = cc
      go later false t found = (t, later found)

  -- a pair that is found, in front of the others with an answer
  kept-front : (k : KeptAnswers) (e : (Entry × Entry) × Entry) (r : Entry) → IsKept k → lookup_entry (is_same_pair f g) k.pairs ≡ Some e
      → IsKept (record { pairs = (e.0, r) ∷ others k.pairs; capacity = k.capacity })
  kept-front k e r h found = record {
    once = IsDistinct-cons SamePair e.0 (keys_of (others k.pairs)) (found-apart k.pairs e h.once found) (distinct-others k.pairs h.once);
    few = omega (arith, h.few, length-without (is_same_pair f g) k.pairs e found);
    some = h.some;
  }

pub kept-promoted : (k : KeptAnswers) (f g : Entry) → IsKept k → IsKept (record { pairs = promoted_in k.pairs f g; capacity = k.capacity })
kept-promoted k f g h = go (lookup_entry (is_same_pair f g) k.pairs) refl
  where
    go : (o : Option ((Entry × Entry) × Entry)) → lookup_entry (is_same_pair f g) k.pairs ≡ o
        → IsKept (record { pairs = option_map_or (λ e. e ∷ remove_entry (is_same_pair f g) k.pairs) o k.pairs; capacity = k.capacity })
    go None e = h
    go (Some p) e = kept-front f g k p p.1 h e

pub kept-put : (k : KeptAnswers) (f g r : Entry) → IsKept k → IsKept (put_in k f g r)
kept-put k f g r h = go (lookup_entry (is_same_pair f g) k.pairs) refl
  where
    go : (o : Option ((Entry × Entry) × Entry)) → lookup_entry (is_same_pair f g) k.pairs ≡ o
        → IsKept (record { pairs = option_map_or (λ e. (e.0, r) ∷ remove_entry (is_same_pair f g) k.pairs) o (((f, g), r) ∷ take (k.capacity - 1) k.pairs); capacity = k.capacity })
    go None e = record {
      once = IsDistinct-cons SamePair (f, g) _ (apart-take (f, g) (k.capacity - 1) k.pairs (absent-apart f g k.pairs e)) (distinct-take (k.capacity - 1) k.pairs h.once);
      few = omega (arith, length-take (k.capacity - 1) k.pairs, h.some);
      some = h.some;
    }
    go (Some p) e = kept-front f g k p r h e
