-- Where a sum ends early: zero weights fall out, and one value that is left is the sum.
use Rattle.std.proofs.Common.{◌≡◌, ℕ, zero, suc, ◌+◌, ◌-◌, ◌*◌, ◌/◌, ◌<◌, ◌≤◌, ◌⊎◌, inl, inr, Bool, true, false, cond, List, [], ◌∷◌, map, length, set, get_or, drop, take, refl, sym, ◌∙◌, ap, subst, arith, ℤ, pos, ◌+ℤ◌, ◌*ℤ◌, ◌<ℤ◌}
use Rattle.std.proofs.lemmas.Bool.{and_parts, or_cases}
use Rattle.std.proofs.lemmas.Bool.Decides.{Decides-int_eq}
use Rattle.std.proofs.lemmas.Int.{ints}
use Rattle.spd_scaled.proofs.CallerLemmas.Ring.{*ℤ_comm, +ℤ-*ℤ, zero-*ℤ}
use Rattle.spd_scaled.proofs.CallerLemmas.DivisionLaws.{ceil_div_unique, floor_div_unique}
use Rattle.spd_model.specs.Chances.{one}
use Rattle.spd_nodes.specs.declared.leaf.Leaf.{Leaf}
use Rattle.spd_nodes.specs.declared.leaf.Leaf.TheVariants.{Num, Pair, Act}
use Rattle.spd_nodes.specs.Levels.{levels_of, IsSlot}
use Rattle.spd_nodes.specs.Trees.{Tree, Ends, Tests, IsReduced, tree_rank}
use Rattle.spd_nodes.proofs.CallerLemmas.{level_of-reduced}
use Rattle.spd_apply.specs.Halves.{yes_at, no_at, IsNotBefore}
use Rattle.spd_apply.proofs.CallerLemmas.{join-ends, not-before-lower}
use Rattle.spd_restrict.specs.Restricted.{cofactored}
use Rattle.spd_gather.specs.Down.{Each, down, Stands, last_leaf, at_leaves, at_each_leaf}
use Rattle.spd_cons_core.specs.declared.key.Entry.{Entry}
use Rattle.spd_nodes.specs.Shown.{Shown}
use Rattle.spd_gather.specs.Lists.{trees_of}
use Rattle.spd_gather.specs.Meeting.{list_rank}
use Rattle.spd_gather.proofs.CallerLemmas.{down-is, down-same, half-none}
use Rattle.spd_weigh.specs.declared.way.Way.{Way}
use Rattle.spd_weigh.specs.declared.way.Way.TheVariants as W
use Rattle.spd_weigh.specs.Leaves.{rounding_of, number_of}
use Rattle.spd_weigh.specs.Summed.{taken, at_slot, summed, products, weights, weighed, is_weight, is_value, each_fits, fit, fit_mark, zero_tree, IsAlone, IsLike, AreCleared}
use Rattle.spd_weigh.proofs.RuleLaws.{cofactored-past}

-- each weight is 0 or stands before this leaf
abbrev pub AloneLeaf : Leaf → List Leaf → Type 0
AloneLeaf a [] = Unit {0}
AloneLeaf a (w ∷ []) = Unit {0}
AloneLeaf a (w ∷ f ∷ ls) = ((w ≡ Num (pos 0)) ⊎ (f ≡ a)) × AloneLeaf a ls

products-alone : (x : ℤ) (ls : List Leaf) → AloneLeaf (Num x) ls → products ls ≡ weights ls *ℤ x
products-alone x [] h = sym (zero-*ℤ x)
products-alone x (w ∷ []) h = sym (zero-*ℤ x)
products-alone x (w ∷ f ∷ ls) h =
    let e : products ls ≡ weights ls *ℤ x = products-alone x ls h.1 in
    let d : (number_of w +ℤ weights ls) *ℤ x ≡ number_of w *ℤ x +ℤ weights ls *ℤ x = +ℤ-*ℤ (number_of w) (weights ls) x in
    elim h.0 [
      | inl q ↦ (let a : number_of w ≡ pos 0 = ap number_of q in let z : pos 0 *ℤ number_of f ≡ pos 0 = zero-*ℤ (number_of f) in let y : pos 0 *ℤ x ≡ pos 0 = zero-*ℤ x in rw e (rw a (ap (λ v. v +ℤ weights ls *ℤ x) (z ∙ sym y) ∙ sym (+ℤ-*ℤ (pos 0) (weights ls) x))))
      | inr q ↦ (let a : number_of f ≡ x = ap number_of q in rw (e, a) (sym d))
    ]

-- where a value isn't a number, no weight is left
weights-none : (a : Leaf) (ls : List Leaf) → is_value a ≡ false → AloneLeaf a ls → each_fits ls ≡ true → weights ls ≡ pos 0
weights-none a [] v h f = refl
weights-none a (w ∷ []) v h f = refl
weights-none a (w ∷ b ∷ ls) v h f =
    let s = and_parts _ _ f in
    let q = and_parts (is_weight w) _ s.0 in
    let e : weights ls ≡ pos 0 = weights-none a ls v h.1 s.1 in
    let z : number_of w ≡ pos 0 = elim (or_cases _ _ q.1) [
      | inl i ↦ (Decides-int_eq (number_of w) (pos 0)).0 i
      | inr i ↦ elim h.0 [
        | inl k ↦ ap number_of k
        | inr k ↦ (let j : is_value a ≡ true = subst (λ c. is_value c ≡ true) k i in absurd (cc))
      ]
    ] in
    rw (z, e) refl

one-positive : pos 0 <ℤ one
one-positive = omega (arith, ints)

rounded-one : (way : Way) (x : ℤ) → rounding_of way (one *ℤ x) one ≡ x
rounded-one W.Down x = rw (*ℤ_comm one x) (sym (floor_div_unique (x *ℤ one) one x one-positive (omega (arith, ints)) (omega (arith, ints))))
rounded-one W.Up x = rw (*ℤ_comm one x) (sym (ceil_div_unique (x *ℤ one) one x one-positive (omega (arith, ints)) (omega (arith, ints))))

-- the one value that has weight is the sum
alone-leaf : (way : Way) (a : Leaf) (ls : List Leaf) → AloneLeaf a ls → fit ls ≡ true → weighed way ls ≡ a
alone-leaf way (Num x) ls h f =
    let s = and_parts (each_fits ls) _ f in
    let w : weights ls ≡ one = (Decides-int_eq (weights ls) one).0 s.1 in
    ap (λ v. Num (rounding_of way v one)) (products-alone x ls h ∙ ap (λ v. v *ℤ x) w) ∙ ap Num (rounded-one way x)
alone-leaf way (Pair a x) ls h f = let s = and_parts (each_fits ls) _ f in let z = weights-none (Pair a x) ls refl h s.0 in let w : weights ls ≡ one = (Decides-int_eq (weights ls) one).0 s.1 in absurd (not-one (sym z ∙ w))
  where
    not-one : pos 0 ≡ one → ⊥
    not-one e = omega (arith, ints, e)
alone-leaf way (Act a) ls h f = let s = and_parts (each_fits ls) _ f in let z = weights-none (Act a) ls refl h s.0 in let w : weights ls ≡ one = (Decides-int_eq (weights ls) one).0 s.1 in absurd (not-one (sym z ∙ w))
  where
    not-one : pos 0 ≡ one → ⊥
    not-one e = omega (arith, ints, e)

pub mark-fits : (ls : List Leaf) → Ends (fit_mark ls) ≡ Ends (Act 1) → fit ls ≡ true
mark-fits ls h = go (fit ls) h
  where
    go : (b : Bool) → Ends (cond b (Act 1) (Act 0)) ≡ Ends (Act 1) → b ≡ true
    go true e = refl
    go false e = absurd (cc e)

alone-halves : (l : ℕ) (u : Tree) (ts : List Tree) → IsAlone u ts → IsAlone (yes_at l u) (map (yes_at l) ts) × IsAlone (no_at l u) (map (no_at l) ts)
alone-halves l u [] h = (tt, tt)
alone-halves l u (w ∷ []) h = (tt, tt)
alone-halves l u (w ∷ f ∷ ts) h =
    let q = alone-halves l u ts h.1 in
    ((elim h.0 [ inl e ↦ inl (rw e refl) | inr e ↦ inr (ap (yes_at l) e) ], q.0), (elim h.0 [ inl e ↦ inl (rw e refl) | inr e ↦ inr (ap (no_at l) e) ], q.1))

alone-last : (a : Leaf) (ts : List Tree) → IsAlone (Ends a) ts → AloneLeaf a (map last_leaf ts)
alone-last a [] h = tt
alone-last a (w ∷ []) h = tt
alone-last a (w ∷ f ∷ ts) h = (elim h.0 [ inl e ↦ inl (ap last_leaf e) | inr e ↦ inr (ap last_leaf e) ], alone-last a ts h.1)

module _ (ds : List ℕ) (way : Way) where
  abbrev all : ℕ
  all = levels_of ds

  record Alone (l : ℕ) (ts : List Tree) (u : Tree) : Type 0 where
    alone : IsAlone u ts
    fits : down (at_leaves fit_mark) (all - l) l ts ≡ Ends (Act 1)

  -- at each leaf
  each-alone : (ts : List Tree) (u : Tree) → IsReduced ds 0 u → IsAlone u ts → at_each_leaf all fit_mark ts ≡ Ends (Act 1) → at_each_leaf all (weighed way) ts ≡ u
  each-alone ts u r h f =
      down-is ds all (at_leaves (weighed way)) Alone on at all 0 ts u (omega arith) (r, start u)
      (record { alone = h; fits = let z : all - 0 ≡ all = omega arith in rw z f })
    where
      start : (u : Tree) → IsNotBefore 0 u
      start (Ends a) = tt
      start (Tests l y n) = omega arith

      on : (n l : ℕ) (ts : List Tree) (u : Tree) → suc n + l ≡ all → Alone l ts u → Alone (l + 1) (map (yes_at l) ts) (yes_at l u) × Alone (l + 1) (map (no_at l) ts) (no_at l u)
      on n l ts u e h =
          let a : all - l ≡ suc n = omega arith in
          let b : all - (l + 1) ≡ n = omega arith in
          let q = join-ends l _ _ (Act 1) (rw a at h.fits) in
          let w = alone-halves l u ts h.alone in
          (record { alone = w.0; fits = rw b q.0 }, record { alone = w.1; fits = rw b q.1 })

      at : (ts : List Tree) (u : Tree) → Stands ds all u → Alone all ts u → at_leaves (weighed way) ts ≡ u
      at ts (Ends a) s h =
          let z : all - all ≡ 0 = omega arith in
          let m : Ends (fit_mark (map last_leaf ts)) ≡ Ends (Act 1) = rw z at h.fits in
          ap Ends (alone-leaf way a (map last_leaf ts) (alone-last a ts h.alone) (mark-fits (map last_leaf ts) m))
      at ts (Tests l y n) s h = absurd (omega (arith, s.1, level_of-reduced ds l y n s.0))

  module _ (slot first end : ℕ) (s : IsSlot ds slot first end) where
    alone-taken : (i : ℕ) (u : Tree) (ts : List Tree) → IsNotBefore end u → IsAlone u ts → IsAlone u (taken first end i ts)
    alone-taken i u [] b h = tt
    alone-taken i u (w ∷ []) b h = tt
    alone-taken i u (w ∷ f ∷ ts) b h = (
      elim h.0 [ inl e ↦ inl (rw e refl) | inr e ↦ inr (rw e (cofactored-past first end ((i + 1) / 2) u (omega (arith, s.end_is)) b)) ],
      alone-taken (i + 1 + 1) u ts b h.1,
    )

    record AloneBefore (l : ℕ) (ts : List Tree) (u : Tree) : Type 0 where
      alone : IsAlone u ts
      past : IsNotBefore end u
      reduced : IsReduced ds 0 u
      fits : down (at_slot all first end fit_mark) (first - l) l ts ≡ Ends (Act 1)

    -- one value that is left, and is past the slot, is the sum
    pub sum-alone : (ts : List Tree) (u : Tree) → IsReduced ds 0 u → IsNotBefore end u → IsAlone u ts → summed all first end fit_mark ts ≡ Ends (Act 1) → summed all first end (weighed way) ts ≡ u
    sum-alone ts u r b h f =
        down-is ds first (at_slot all first end (weighed way)) AloneBefore on at first 0 ts u (omega arith) (r, not-before-lower 0 end u (omega arith) b)
        (record { alone = h; past = b; reduced = r; fits = let z : first - 0 ≡ first = omega arith in rw z f })
      where
        on : (n l : ℕ) (ts : List Tree) (u : Tree) → suc n + l ≡ first → AloneBefore l ts u → AloneBefore (l + 1) (map (yes_at l) ts) (yes_at l u) × AloneBefore (l + 1) (map (no_at l) ts) (no_at l u)
        on n l ts u e h =
            let a : first - l ≡ suc n = omega arith in
            let b : first - (l + 1) ≡ n = omega arith in
            let q = join-ends l _ _ (Act 1) (rw a at h.fits) in
            let w = alone-halves l u ts h.alone in
            let k = half-none l u (not-before-lower (l + 1) end u (omega (arith, s.end_is)) h.past) in (
              record { alone = w.0; past = rw (k.0) h.past; reduced = rw (k.0) h.reduced; fits = rw b q.0 },
              record { alone = w.1; past = rw (k.1) h.past; reduced = rw (k.1) h.reduced; fits = rw b q.1 },
            )

        at : (ts : List Tree) (u : Tree) → Stands ds first u → AloneBefore first ts u → at_slot all first end (weighed way) ts ≡ u
        at ts u i h =
            let z : first - first ≡ 0 = omega arith in
            each-alone (taken first end 0 ts) u h.reduced (alone-taken 0 u ts h.past h.alone) (rw z at h.fits)

-- lists of leaves that differ beside zero weights alone
abbrev pub LikeLeaf : List Leaf → List Leaf → Type 0
LikeLeaf [] ms = ms ≡ []
LikeLeaf (w ∷ []) ms = ms ≡ w ∷ []
LikeLeaf (w ∷ f ∷ ls) [] = ⊥
LikeLeaf (w ∷ f ∷ ls) (v ∷ []) = ⊥
LikeLeaf (w ∷ f ∷ ls) (v ∷ g ∷ ms) = (v ≡ w) × ((g ≡ f) ⊎ (w ≡ Num (pos 0))) × LikeLeaf ls ms

like-products : (ls ms : List Leaf) → LikeLeaf ls ms → products ls ≡ products ms
like-products [] ms h = rw h refl
like-products (w ∷ []) ms h = rw h refl
like-products (w ∷ f ∷ ls) [] h = absurd h
like-products (w ∷ f ∷ ls) (v ∷ []) h = absurd h
like-products (w ∷ f ∷ ls) (v ∷ g ∷ ms) h =
    let e : products ls ≡ products ms = like-products ls ms h.2 in
    elim h.1 [
      | inl q ↦ rw (h.0, q, e) refl
      | inr q ↦ rw (h.0, q, e) (ap (λ x. x +ℤ products ms) (zero-*ℤ (number_of f) ∙ sym (zero-*ℤ (number_of g))))
    ]

like-fits : (ls ms : List Leaf) → LikeLeaf ls ms → (each_fits ls ≡ each_fits ms) × (weights ls ≡ weights ms)
like-fits [] ms h = rw h (refl, refl)
like-fits (w ∷ []) ms h = rw h (refl, refl)
like-fits (w ∷ f ∷ ls) [] h = absurd h
like-fits (w ∷ f ∷ ls) (v ∷ []) h = absurd h
like-fits (w ∷ f ∷ ls) (v ∷ g ∷ ms) h =
    let e = like-fits ls ms h.2 in
    elim h.1 [
      | inl q ↦ rw (h.0, q, e.0, e.1) (refl, refl)
      | inr q ↦ rw (h.0, q, e.0, e.1) (refl, refl)
    ]

like-weighed : (way : Way) (ls ms : List Leaf) → LikeLeaf ls ms → weighed way ls ≡ weighed way ms
like-weighed way ls ms h = ap (λ v. Num (rounding_of way v one)) (like-products ls ms h)

like-mark : (ls ms : List Leaf) → LikeLeaf ls ms → fit_mark ls ≡ fit_mark ms
like-mark ls ms h = let q = like-fits ls ms h in rw (q.0, q.1) refl

like-map : (f : Tree → Tree) → f zero_tree ≡ zero_tree → (ts us : List Tree) → IsLike ts us → IsLike (map f ts) (map f us)
like-map f z [] us h = rw h refl
like-map f z (w ∷ []) us h = rw h refl
like-map f z (w ∷ t ∷ ts) [] h = absurd h
like-map f z (w ∷ t ∷ ts) (v ∷ []) h = absurd h
like-map f z (w ∷ t ∷ ts) (v ∷ g ∷ us) h = (ap f h.0, elim h.1 [ inl q ↦ inl (ap f q) | inr q ↦ inr (ap f q.0 ∙ z, ap f q.1 ∙ z) ], like-map f z ts us h.2)

like-last : (ts us : List Tree) → IsLike ts us → LikeLeaf (map last_leaf ts) (map last_leaf us)
like-last [] us h = rw h refl
like-last (w ∷ []) us h = rw h refl
like-last (w ∷ t ∷ ts) [] h = absurd h
like-last (w ∷ t ∷ ts) (v ∷ []) h = absurd h
like-last (w ∷ t ∷ ts) (v ∷ g ∷ us) h = (ap last_leaf h.0, elim h.1 [ inl q ↦ inl (ap last_leaf q) | inr q ↦ inr (ap last_leaf q.0) ], like-last ts us h.2)

like-taken : (first end i : ℕ) (ts us : List Tree) → IsLike ts us → IsLike (taken first end i ts) (taken first end i us)
like-taken first end i [] us h = rw h refl
like-taken first end i (w ∷ []) us h = rw h refl
like-taken first end i (w ∷ t ∷ ts) [] h = absurd h
like-taken first end i (w ∷ t ∷ ts) (v ∷ []) h = absurd h
like-taken first end i (w ∷ t ∷ ts) (v ∷ g ∷ us) h = (
  ap (cofactored first end (i / 2)) h.0,
  elim h.1 [ inl q ↦ inl (ap (cofactored first end ((i + 1) / 2)) q) | inr q ↦ inr (ap (cofactored first end (i / 2)) q.0, ap (cofactored first end ((i + 1) / 2)) q.1) ],
  like-taken first end (i + 1 + 1) ts us h.2,
)

module _ (levels first end : ℕ) (op : List Leaf → Leaf) (same : (ls ms : List Leaf) → LikeLeaf ls ms → op ls ≡ op ms) where
  -- of such lists the same is made
  sum-like : (ts us : List Tree) → IsLike ts us → summed levels first end op ts ≡ summed levels first end op us
  sum-like ts us h = down-same (at_slot levels first end op) (at_slot levels first end op) IsLike on at first 0 ts us h
    where
      on : (l : ℕ) (ts us : List Tree) → IsLike ts us → IsLike (map (yes_at l) ts) (map (yes_at l) us) × IsLike (map (no_at l) ts) (map (no_at l) us)
      on l ts us h = (like-map (yes_at l) refl ts us h, like-map (no_at l) refl ts us h)

      at : (ts us : List Tree) → IsLike ts us → at_slot levels first end op ts ≡ at_slot levels first end op us
      at ts us h = down-same (at_leaves op) (at_leaves op) IsLike on (λ ts us h. ap Ends (same _ _ (like-last ts us h))) levels 0 _ _ (like-taken first end 0 ts us h)

pub weighed-like : (levels first end : ℕ) (way : Way) (ts us : List Tree) → IsLike ts us → summed levels first end (weighed way) ts ≡ summed levels first end (weighed way) us
weighed-like levels first end way ts us h = sum-like levels first end (weighed way) (like-weighed way) ts us h

pub mark-like : (levels first end : ℕ) (ts us : List Tree) → IsLike ts us → summed levels first end fit_mark ts ≡ summed levels first end fit_mark us
mark-like levels first end ts us h = sum-like levels first end fit_mark like-mark ts us h

-- what holds of each tree, and of a weight of 0, holds of each tree of such a list
pub each-like : (P : Tree → Type 0) → P zero_tree → (ts us : List Tree) → IsLike ts us → Each P ts → Each P us
each-like P z [] us h a = rw h tt
each-like P z (w ∷ []) us h a = rw h a
each-like P z (w ∷ t ∷ ts) [] h a = absurd h
each-like P z (w ∷ t ∷ ts) (v ∷ []) h a = absurd h
each-like P z (w ∷ t ∷ ts) (v ∷ g ∷ us) h a = (
  subst P (sym h.0) a.0,
  (elim h.1 [ inl q ↦ subst P (sym q) a.1.0 | inr q ↦ subst P (sym q.1) z ], each-like P z ts us h.2 a.1.1),
)

pub length-like : (ts us : List Tree) → IsLike ts us → length us ≡ length ts
length-like [] us h = ap length h
length-like (w ∷ []) us h = ap length h
length-like (w ∷ t ∷ ts) [] h = absurd h
length-like (w ∷ t ∷ ts) (v ∷ []) h = absurd h
length-like (w ∷ t ∷ ts) (v ∷ g ∷ us) h = let i : length us ≡ length ts = length-like ts us h.2 in omega arith

pub rank-like : (ds : List ℕ) (ts us : List Tree) → IsLike ts us → list_rank ds us ≤ list_rank ds ts
rank-like ds [] us h = rw h (omega arith)
rank-like ds (w ∷ []) us h = rw h (omega arith)
rank-like ds (w ∷ t ∷ ts) [] h = absurd h
rank-like ds (w ∷ t ∷ ts) (v ∷ []) h = absurd h
rank-like ds (w ∷ t ∷ ts) (v ∷ g ∷ us) h =
    let i : list_rank ds us ≤ list_rank ds ts = rank-like ds ts us h.2 in
    let a : tree_rank ds v ≡ tree_rank ds w = ap (tree_rank ds) h.0 in
    elim h.1 [
      | inl q ↦ (let b : tree_rank ds g ≡ tree_rank ds t = ap (tree_rank ds) q in omega arith)
      | inr q ↦ (let b : tree_rank ds g ≡ 0 = ap (tree_rank ds) q.1 in omega arith)
    ]

-- a list is like itself
pub like-same : (ts : List Tree) → IsLike ts ts
like-same [] = refl
like-same (w ∷ []) = refl
like-same (w ∷ t ∷ ts) = (refl, inl refl, like-same ts)

-- and like it stays where a weight of 0 is put in the place of its value
pub like-clear : (s : Shown) (ts : List Tree) (ks : List Entry) (v : ℕ) (k : Entry) → IsLike ts (trees_of s ks) → 2 * v + 1 < length ks → s.tree k ≡ zero_tree → k ≡ get_or ks (2 * v) k → IsLike ts (trees_of s (set ks (2 * v + 1) k))
like-clear s [] [] v k h b z e = absurd (omega arith)
like-clear s [] (x ∷ ks) v k h b z e = absurd (cc h)
like-clear s (w ∷ []) [] v k h b z e = absurd (omega arith)
like-clear s (w ∷ []) (x ∷ []) v k h b z e = absurd (omega arith)
like-clear s (w ∷ []) (x ∷ g ∷ ks) v k h b z e = (let l : suc (suc (length (trees_of s ks))) ≡ 1 = ap length h in absurd (omega arith))
like-clear s (w ∷ t ∷ ts) [] v k h b z e = absurd h
like-clear s (w ∷ t ∷ ts) (x ∷ []) v k h b z e = absurd h
like-clear s (w ∷ t ∷ ts) (x ∷ g ∷ ks) zero k h b z e = (h.0, inr (sym h.0 ∙ ap s.tree (sym e) ∙ z, z), h.2)
like-clear s (w ∷ t ∷ ts) (x ∷ g ∷ ks) (suc v) k h b z e =
    let m : 2 * suc v + 1 ≡ suc (suc (2 * v + 1)) = omega arith in
    let f : 2 * suc v ≡ suc (suc (2 * v)) = omega arith in
    rw m (h.0, h.1, like-clear s ts ks v k h.2 (omega arith) z (rw f at e))

-- a value that stands alone behind two trees, of a weight of 0 or of this value too, stands alone with them
pub alone-more : (s : Shown) (u : Tree) (ks : List Entry) (v : ℕ) (d e : Entry) → 2 * v + 1 < length ks → (s.tree (get_or ks (2 * v) d) ≡ zero_tree) ⊎ (s.tree (get_or ks (2 * v + 1) e) ≡ u)
    → IsAlone u (trees_of s (drop (2 * (v + 1)) ks)) → IsAlone u (trees_of s (drop (2 * v) ks))
alone-more s u [] v d e b h a = absurd (omega arith)
alone-more s u (x ∷ []) v d e b h a = absurd (omega arith)
alone-more s u (x ∷ g ∷ ks) zero d e b h a = (h, a)
alone-more s u (x ∷ g ∷ ks) (suc v) d e b h a =
    let f : 2 * suc v ≡ suc (suc (2 * v)) = omega arith in
    let m : suc (suc (2 * v)) + 1 ≡ suc (suc (2 * v + 1)) = omega arith in
    let n : 2 * (suc v + 1) ≡ suc (suc (2 * (v + 1))) = omega arith in
    rw f (alone-more s u ks v d e (omega arith) (rw (f, m) at h) (rw n at a))

-- where at most one tree is left it stands alone
pub alone-end : (s : Shown) (u : Tree) (ks : List Entry) (v : ℕ) → length ks < 2 * v + 2 → IsAlone u (trees_of s (drop (2 * v) ks))
alone-end s u [] zero b = tt
alone-end s u [] (suc v) b = let f : 2 * suc v ≡ suc (suc (2 * v)) = omega arith in rw f tt
alone-end s u (x ∷ []) zero b = tt
alone-end s u (x ∷ []) (suc v) b = let f : 2 * suc v ≡ suc (suc (2 * v)) = omega arith in rw f tt
alone-end s u (x ∷ g ∷ ks) zero b = absurd (omega arith)
alone-end s u (x ∷ g ∷ ks) (suc v) b = let f : 2 * suc v ≡ suc (suc (2 * v)) = omega arith in rw f (alone-end s u ks v (omega arith))

-- The pairs before a place are cleared, and so are those up to it once a value of weight 0 is one too.
pub cleared-zero : (s : Shown) (ks : List Entry) (v : ℕ) (k : Entry) → 2 * v + 1 < length ks → s.tree k ≡ zero_tree → AreCleared (trees_of s (take (2 * v) ks))
    → AreCleared (trees_of s (take (2 * v + 2) (set ks (2 * v + 1) k)))
cleared-zero s [] v k b z h = absurd (omega arith)
cleared-zero s (x ∷ []) v k b z h = absurd (omega arith)
cleared-zero s (x ∷ g ∷ ks) zero k b z h = (λ w. z, tt)
cleared-zero s (x ∷ g ∷ ks) (suc v) k b z h =
    let f : 2 * suc v ≡ suc (suc (2 * v)) = omega arith in
    let m : suc (suc (2 * v)) + 1 ≡ suc (suc (2 * v + 1)) = omega arith in
    let n : suc (suc (2 * v)) + 2 ≡ suc (suc (2 * v + 2)) = omega arith in
    let q = rw f at h in
    rw (f, m, n) (q.0, cleared-zero s ks v k (omega arith) z q.1)

pub cleared-other : (s : Shown) (ks : List Entry) (v : ℕ) (d : Entry) → 2 * v + 1 < length ks → (s.tree (get_or ks (2 * v) d) ≡ zero_tree → ⊥) → AreCleared (trees_of s (take (2 * v) ks))
    → AreCleared (trees_of s (take (2 * v + 2) ks))
cleared-other s [] v d b z h = absurd (omega arith)
cleared-other s (x ∷ []) v d b z h = absurd (omega arith)
cleared-other s (x ∷ g ∷ ks) zero d b z h = (λ w. absurd (z w), tt)
cleared-other s (x ∷ g ∷ ks) (suc v) d b z h =
    let f : 2 * suc v ≡ suc (suc (2 * v)) = omega arith in
    let n : suc (suc (2 * v)) + 2 ≡ suc (suc (2 * v + 2)) = omega arith in
    let q = rw f at h in
    rw (f, n) (q.0, cleared-other s ks v d (omega arith) (rw f at z) q.1)

-- where at most one tree is left all are
pub cleared-end : (s : Shown) (ks : List Entry) (v : ℕ) → length ks < 2 * v + 2 → AreCleared (trees_of s (take (2 * v) ks)) → AreCleared (trees_of s ks)
cleared-end s [] v b h = tt
cleared-end s (x ∷ []) v b h = tt
cleared-end s (x ∷ g ∷ ks) zero b h = absurd (omega arith)
cleared-end s (x ∷ g ∷ ks) (suc v) b h =
    let f : 2 * suc v ≡ suc (suc (2 * v)) = omega arith in
    let q = rw f at h in
    (q.0, cleared-end s ks v (omega arith) q.1)
