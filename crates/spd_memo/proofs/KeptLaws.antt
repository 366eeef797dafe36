-- A memo keeps what it kept before, and what was put.
use Rattle.std.proofs.Common.{◌≡◌, ◌⊎◌, inl, inr, ◌==◌, true, List, Some, sym, subst}
use Rattle.std.specs.Prelude.{Contains}
use Rattle.std.proofs.lemmas.Bool.{and_parts}
use Rattle.std.proofs.lemmas.Bool.Decides.{Decides-eqb}
use Rattle.spd_cons_core.specs.declared.key.Entry.{Entry}
use Rattle.lru.specs.LruCache.{lru_cache}
use Rattle.lru.proofs.CallerLemmas.{Contains-lookup, Contains-promoted, Contains-put_entries, IsPut}
use Rattle.spd_memo.specs.Kept.{KeptAnswers, is_same_pair, answer_in, promoted_in, pairs_put}

pub is_same_pair-true : (f g : Entry) (q : Entry × Entry) → is_same_pair f g q ≡ true → q ≡ (f, g)
is_same_pair-true f g q e =
    let s : (f.0 == q.0.0 ≡ true) × (g.0 == q.1.0 ≡ true) = and_parts _ _ e in
    let a : q.0.0 ≡ f.0 = sym ((Decides-eqb f.0 q.0.0).0 s.0) in
    let b : q.1.0 ≡ g.0 = sym ((Decides-eqb g.0 q.1.0).0 s.1) in
    λ i. (record { 0 = a i }, record { 0 = b i })

-- an answer that is found is kept
pub Contains-answer : (pairs : List ((Entry × Entry) × Entry)) (f g r : Entry) → answer_in pairs f g ≡ Some r → Contains pairs ((f, g), r)
Contains-answer pairs f g r e =
    let h = Contains-lookup (is_same_pair f g) pairs r e in
    subst (λ (q : Entry × Entry). Contains pairs (q, r)) (is_same_pair-true f g h.0 h.2) h.1

pub Contains-promoted_in : (pairs : List ((Entry × Entry) × Entry)) (f g : Entry) (e : (Entry × Entry) × Entry) → Contains (promoted_in pairs f g) e → Contains pairs e
Contains-promoted_in pairs f g e h = Contains-promoted (is_same_pair f g) pairs e h

-- what is kept after a put was kept before, or is what was put
pub Contains-put : (k : KeptAnswers) (f g r : Entry) (e : (Entry × Entry) × Entry) → Contains (pairs_put k f g r) e → Contains k.pairs e ⊎ (e ≡ ((f, g), r))
Contains-put k f g r e h = elim (Contains-put_entries (λ (a b : Entry × Entry). is_same_pair a.0 a.1 b) (lru_cache k.pairs k.capacity) (f, g) r e h) [
  | inl a ↦ inl a
  | inr p ↦ inr (is_put p)
]
  where
    key : (e.0 ≡ (f, g)) ⊎ ((w : Entry) × Contains k.pairs (e.0, w) × (is_same_pair f g e.0 ≡ true)) → e.0 ≡ (f, g)
    key (inl a) = a
    key (inr a) = is_same_pair-true f g e.0 a.2

    is_put : IsPut (λ (a b : Entry × Entry). is_same_pair a.0 a.1 b) (lru_cache k.pairs k.capacity) (f, g) r e → e ≡ ((f, g), r)
    is_put p = let q : e.0 ≡ (f, g) = key p.1 in let v : e.1 ≡ r = p.0 in λ i. (q i, v i)
