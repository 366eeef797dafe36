-- What a list of keys shows, and how that grows.
use Rattle.std.proofs.Common.{◌≡◌, ℕ, zero, suc, ◌<◌, ◌≤◌, ◌+◌, ◌-◌, ◌≢◌, ◌⊎◌, inl, inr, true, List, [], ◌∷◌, ◌++◌, length, get_or, refl, sym, ◌∙◌, ap, subst, arith, length-append, Result, Ok, Err, IfErr, MatchOption, Option, Some, None}
use Rattle.std.specs.Prelude.{nat_lt}
use Rattle.std.proofs.lemmas.Bool.Decides.{Decides-ltb, nat_tests}
use Rattle.std.proofs.Math.ListN.{get_or-append}
use Rattle.std.proofs.Math.Seq.{get_or-append_seam}
use Rattle.spd_cons_core.specs.declared.key.Entry.{Entry}
use Rattle.spd_cons_core.specs.declared.key.Key.{Key}
use Rattle.spd_cons_core.specs.declared.key.Key.TheVariants as K
use Rattle.spd_nodes.specs.declared.leaf.Leaf.TheVariants as L
use Rattle.spd_nodes.specs.declared.forest.StoreFault.{StoreFault}
use Rattle.spd_nodes.specs.declared.forest.StoreFault.TheVariants as F
use Rattle.spd_nodes.specs.Keys.{IsPlace, IsAbsent, PlacesKey}
use Rattle.spd_nodes.specs.Levels.{levels_of, after, slots}
use Rattle.spd_nodes.specs.Trees.{Tree, Ends, IsReduced, IsNodeOf, Itself, join, CanTest}
use Rattle.spd_nodes.specs.Shown.{IsSound, Grows, MakesOnly, KnowsAs, LacksOne, IsViewOf}
use Rattle.spd_nodes.specs.Store.{tree_in, tree_by, trees_from, trees_of, Held, shown, ChildrenBefore, IsStore, KeyFits, LeavesNoRoom, FindsOrAdds, key_view}
use Rattle.spd_nodes.proofs.ShownLaws.{makes_tree-known, makes_tree-fault}
use Rattle.spd_nodes.proofs.TreeLaws.{join-same, join-differ}

length-trees_from : (ts : List Tree) (ks : List Key) → length (trees_from ts ks) ≡ length ts + length ks
length-trees_from ts [] = omega arith
length-trees_from ts (k ∷ ks) = length-trees_from (ts ++ tree_by ts k ∷ []) ks ∙ rw (length-append ts (tree_by ts k ∷ [])) (omega arith)

trees_from-append : (ts : List Tree) (ks : List Key) (k : Key) → trees_from ts (ks ++ k ∷ []) ≡ trees_from ts ks ++ tree_by (trees_from ts ks) k ∷ []
trees_from-append ts [] k = refl
trees_from-append ts (j ∷ ks) k = trees_from-append (ts ++ tree_by ts j ∷ []) ks k

tree_in-trees_from : (ts : List Tree) (ks : List Key) (i : ℕ) → i < length ts → tree_in (trees_from ts ks) i ≡ tree_in ts i
tree_in-trees_from ts [] i h = refl
tree_in-trees_from ts (k ∷ ks) i h =
    tree_in-trees_from (ts ++ tree_by ts k ∷ []) ks i (rw (length-append ts (tree_by ts k ∷ [])) (omega arith))
    ∙ get_or-append ts (tree_by ts k ∷ []) (Ends (L.Act 0)) i h

-- a key over trees that agree below it
tree_by-agree : (ts us : List Tree) (n : ℕ) (k : Key) → ChildrenBefore n k → ((i : ℕ) → i < n → tree_in ts i ≡ tree_in us i) → tree_by ts k ≡ tree_by us k
tree_by-agree ts us n (K.Test l y m) b h = let p : tree_in ts y.0 ≡ tree_in us y.0 = h y.0 b.0 in let q : tree_in ts m.0 ≡ tree_in us m.0 = h m.0 b.1 in cc
tree_by-agree ts us n (K.Num a) b h = refl
tree_by-agree ts us n (K.Pair a x) b h = refl
tree_by-agree ts us n (K.Act a) b h = refl

-- each tree is that of its key over all trees
tree_in-key : (ts : List Tree) (ks : List Key) (i : ℕ) → i < length ks → ((j : ℕ) → j < length ks → ChildrenBefore (length ts + j) (get_or ks j (K.Act 0)))
    → tree_in (trees_from ts ks) (length ts + i) ≡ tree_by (trees_from ts ks) (get_or ks i (K.Act 0))
tree_in-key ts [] i h b = absurd (omega arith)
tree_in-key ts (k ∷ ks) zero h b =
    let e : length ts + 0 ≡ length ts = omega arith in
    let l : length (ts ++ tree_by ts k ∷ []) ≡ length ts + 1 = length-append ts (tree_by ts k ∷ []) in
    let n : ChildrenBefore (length ts) k = subst (λ v. ChildrenBefore v k) e (b 0 (omega arith)) in
    rw e (tree_in-trees_from (ts ++ tree_by ts k ∷ []) ks (length ts) (omega arith)
    ∙ get_or-append_seam ts (tree_by ts k) [] (Ends (L.Act 0))
    ∙ tree_by-agree ts (trees_from (ts ++ tree_by ts k ∷ []) ks) (length ts) k n
    (λ i q. sym (tree_in-trees_from (ts ++ tree_by ts k ∷ []) ks i (omega arith) ∙ get_or-append ts (tree_by ts k ∷ []) (Ends (L.Act 0)) i q)))
tree_in-key ts (k ∷ ks) (suc i) h b =
    let l : length (ts ++ tree_by ts k ∷ []) ≡ length ts + 1 = length-append ts (tree_by ts k ∷ []) in
    let e : length (ts ++ tree_by ts k ∷ []) + i ≡ length ts + suc i = omega arith in
    subst (λ n. tree_in (trees_from (ts ++ tree_by ts k ∷ []) ks) n ≡ tree_by (trees_from (ts ++ tree_by ts k ∷ []) ks) (get_or ks i (K.Act 0))) e
    (tree_in-key (ts ++ tree_by ts k ∷ []) ks i (omega arith)
    (λ j q. let f : length ts + suc j ≡ length (ts ++ tree_by ts k ∷ []) + j = omega arith in subst (λ n. ChildrenBefore n (get_or ks j (K.Act 0))) f (b (suc j) (omega arith))))

length-trees_of : (ks : List Key) → length (trees_of ks) ≡ length ks
length-trees_of ks = length-trees_from [] ks ∙ omega arith

ChildrenBefore-more : (m n : ℕ) (k : Key) → m ≤ n → ChildrenBefore m k → ChildrenBefore n k
ChildrenBefore-more m n (K.Test l y q) h b = (omega arith, omega arith)
ChildrenBefore-more m n (K.Num a) h b = tt
ChildrenBefore-more m n (K.Pair a x) h b = tt
ChildrenBefore-more m n (K.Act a) h b = tt

pub is_sound-shown : (h : Held) → IsStore h → IsSound (shown h)
is_sound-shown h s = record {
  layout = s.layout;
  reduced = λ r k. s.reduced r.0 ((Decides-ltb r.0 (length h.keys)).0 k);
  once = λ r q k m e. ap (λ n. record { 0 = n }) (s.once r.0 q.0 ((Decides-ltb r.0 (length h.keys)).0 k) ((Decides-ltb q.0 (length h.keys)).0 m) e);
  listed = λ r k. k;
}

module _ (h : Held) (s : IsStore h) where
  abbrev pub at : ℕ → Tree
  at i = tree_in (trees_of h.keys) i

  pub at-key : (i : ℕ) → i < length h.keys → at i ≡ tree_by (trees_of h.keys) (get_or h.keys i (K.Act 0))
  at-key i q = let e : 0 + i ≡ i = omega arith in
      subst (λ n. tree_in (trees_of h.keys) n ≡ tree_by (trees_of h.keys) (get_or h.keys i (K.Act 0))) e
      (tree_in-key [] h.keys i q (λ j u. let f : j ≡ 0 + j = omega arith in subst (λ n. ChildrenBefore n (get_or h.keys j (K.Act 0))) f (s.below j u)))

  -- two keys with one tree are one
  one_key : (j k : Key) → ChildrenBefore (length h.keys) j → ChildrenBefore (length h.keys) k → tree_by (trees_of h.keys) j ≡ tree_by (trees_of h.keys) k → j ≡ k
  one_key (K.Num a) (K.Num b) p q e = let f : a ≡ b = cc in ap K.Num f
  one_key (K.Num a) (K.Pair b y) p q e = absurd (cc e)
  one_key (K.Num a) (K.Act b) p q e = absurd (cc e)
  one_key (K.Num a) (K.Test l y n) p q e = absurd (cc e)
  one_key (K.Pair a x) (K.Num b) p q e = absurd (cc e)
  one_key (K.Pair a x) (K.Pair b y) p q e = let f : a ≡ b = cc in let g : x ≡ y = cc in λ i. K.Pair (f i) (g i)
  one_key (K.Pair a x) (K.Act b) p q e = absurd (cc e)
  one_key (K.Pair a x) (K.Test l y n) p q e = absurd (cc e)
  one_key (K.Act a) (K.Num b) p q e = absurd (cc e)
  one_key (K.Act a) (K.Pair b y) p q e = absurd (cc e)
  one_key (K.Act a) (K.Act b) p q e = let f : a ≡ b = cc in ap K.Act f
  one_key (K.Act a) (K.Test l y n) p q e = absurd (cc e)
  one_key (K.Test l y n) (K.Num a) p q e = absurd (cc e)
  one_key (K.Test l y n) (K.Pair a x) p q e = absurd (cc e)
  one_key (K.Test l y n) (K.Act a) p q e = absurd (cc e)
  one_key (K.Test l y n) (K.Test m v w) p q e =
      let a : l ≡ m = cc in
      let b : at y.0 ≡ at v.0 = cc in
      let c : at n.0 ≡ at w.0 = cc in
      let f : y.0 ≡ v.0 = s.once y.0 v.0 p.0 q.0 b in
      let g : n.0 ≡ w.0 = s.once n.0 w.0 p.1 q.1 c in
      λ i. K.Test (a i) (record { 0 = f i }) (record { 0 = g i })

  module _ (key : Key) (fits : KeyFits h key) (absent : IsAbsent h.keys key) where
    -- no tree that is known is the key's
    pub fresh : (i : ℕ) → i < length h.keys → at i ≢ tree_by (trees_of h.keys) key
    fresh i q e = absent i q (one_key (get_or h.keys i (K.Act 0)) key (ChildrenBefore-more i (length h.keys) _ (omega arith) (s.below i q)) fits.below (sym (at-key i q) ∙ e))

    added : trees_of (h.keys ++ key ∷ []) ≡ trees_of h.keys ++ tree_by (trees_of h.keys) key ∷ []
    added = trees_from-append [] h.keys key

    pub at-old : (i : ℕ) → i < length h.keys → tree_in (trees_of (h.keys ++ key ∷ [])) i ≡ at i
    at-old i q = ap (λ ts. tree_in ts i) added ∙ get_or-append (trees_of h.keys) (tree_by (trees_of h.keys) key ∷ []) (Ends (L.Act 0)) i (rw (length-trees_of h.keys) q)

    pub at-new : tree_in (trees_of (h.keys ++ key ∷ [])) (length h.keys) ≡ tree_by (trees_of h.keys) key
    at-new = ap (λ ts. tree_in ts (length h.keys)) added
        ∙ subst (λ n. tree_in (trees_of h.keys ++ tree_by (trees_of h.keys) key ∷ []) n ≡ tree_by (trees_of h.keys) key) (length-trees_of h.keys)
        (get_or-append_seam (trees_of h.keys) (tree_by (trees_of h.keys) key) [] (Ends (L.Act 0)))

    more : length (h.keys ++ key ∷ []) ≡ length h.keys + 1
    more = length-append h.keys (key ∷ [])

    at_cases : (P : ℕ → Type 0) → ((i : ℕ) → i < length h.keys → P i) → P (length h.keys) → (i : ℕ) → i < length (h.keys ++ key ∷ []) → P i
    at_cases P old new i q = go (three i (length h.keys))
      where
        three : (a b : ℕ) → (a < b) ⊎ (a ≡ b) ⊎ (b < a)
        three a b = grind arith

        go : (i < length h.keys) ⊎ (i ≡ length h.keys) ⊎ (length h.keys < i) → P i
        go (inl u) = old i u
        go (inr (inl u)) = subst P (sym u) new
        go (inr (inr u)) = absurd (omega (arith, more))

    pub is_store-add : length h.keys < h.limit → IsStore (record h { keys = h.keys ++ key ∷ [] })
    is_store-add room = record {
      fits = omega (arith, more);
      layout = s.layout;
      below = at_cases (λ i. ChildrenBefore i (get_or (h.keys ++ key ∷ []) i (K.Act 0)))
          (λ i q. rw (get_or-append h.keys (key ∷ []) (K.Act 0) i q) (s.below i q))
          (rw (get_or-append_seam h.keys key [] (K.Act 0)) fits.below);
      reduced = at_cases (λ i. IsReduced (slots h.sizes) 0 (tree_in (trees_of (h.keys ++ key ∷ [])) i))
          (λ i q. rw (at-old i q) (s.reduced i q))
          (rw at-new fits.reduced);
      once = λ i j q u e. at_cases (λ i. (j : ℕ) → j < length (h.keys ++ key ∷ []) → tree_in (trees_of (h.keys ++ key ∷ [])) i ≡ tree_in (trees_of (h.keys ++ key ∷ [])) j → i ≡ j)
          (λ i q j u e. at_cases (λ j. tree_in (trees_of (h.keys ++ key ∷ [])) i ≡ tree_in (trees_of (h.keys ++ key ∷ [])) j → i ≡ j)
          (λ j v e. s.once i j q v (sym (at-old i q) ∙ e ∙ at-old j v)) (λ e. absurd (fresh i q (sym (at-old i q) ∙ e ∙ at-new))) j u e)
          (λ j u e. at_cases (λ j. tree_in (trees_of (h.keys ++ key ∷ [])) (length h.keys) ≡ tree_in (trees_of (h.keys ++ key ∷ [])) j → length h.keys ≡ j)
          (λ j v e. absurd (fresh j v (sym (at-old j v) ∙ sym e ∙ at-new))) (λ e. refl) j u e)
          i q j u e;
    }

    below_known : (r : Entry) → (shown h).knows r ≡ true → r.0 < length h.keys
    below_known r k = (Decides-ltb r.0 (length h.keys)).0 k

    -- what the store shows with the key
    pub grows-add : Grows (shown h) (shown (record h { keys = h.keys ++ key ∷ [] }))
    grows-add = record {
      sizes = refl;
      knows = λ r k. (Decides-ltb r.0 (length (h.keys ++ key ∷ []))).1 (omega (arith, more, below_known r k));
      trees = λ r k. at-old r.0 (below_known r k);
      published = λ r k. (Decides-ltb r.0 (length (h.keys ++ key ∷ []))).1 (omega (arith, more, below_known r k));
      full = λ k. let m : length (h.keys ++ key ∷ []) ≡ length h.keys + 1 = more in rw m (grind (arith, nat_tests));
    }

    pub makes-add : MakesOnly (shown h) (shown (record h { keys = h.keys ++ key ∷ [] })) (tree_by (trees_of h.keys) key ∷ [])
    makes-add = record {
      only = λ r k. at_cases (λ i. (nat_lt i (length h.keys) ≡ true) ⊎ IsNodeOf (tree_in (trees_of (h.keys ++ key ∷ [])) i) (tree_by (trees_of h.keys) key ∷ []))
          (λ i q. inl ((Decides-ltb i (length h.keys)).1 q))
          (inr (inl (rw at-new Itself)))
          r.0 ((Decides-ltb r.0 (length (h.keys ++ key ∷ []))).0 k);
    }

    pub knows-add : (r : Entry) → r.0 ≡ length h.keys → KnowsAs (shown (record h { keys = h.keys ++ key ∷ [] })) r (tree_by (trees_of h.keys) key)
    knows-add r e = record { knows = (Decides-ltb r.0 (length (h.keys ++ key ∷ []))).1 (omega (arith, more)); tree = rw e at-new }

    pub lacks-key : h.limit ≤ length h.keys → LacksOne (shown h) (tree_by (trees_of h.keys) key ∷ [])
    lacks-key q = record {
      full = grind (arith, nat_tests);
      node = tree_by (trees_of h.keys) key;
      is_node = inl Itself;
      unknown = λ r k e. fresh r.0 (below_known r k) e;
    }

  pub knows-found : (key : Key) (r : Entry) → r.0 < length h.keys → get_or h.keys r.0 (K.Act 0) ≡ key → KnowsAs (shown h) r (tree_by (trees_of h.keys) key)
  knows-found key r q e = record { knows = (Decides-ltb r.0 (length h.keys)).1 q; tree = at-key r.0 q ∙ ap (tree_by (trees_of h.keys)) e }

full≢memory : (h : Held) (key : Key) → length h.keys < h.limit → (r : Result Entry StoreFault) → IfErr r (λ e. e ≡ F.Memory) → (r ≡ Err F.Full → LeavesNoRoom h key) × (LeavesNoRoom h key → r ≡ Err F.Full)
full≢memory h key room (Ok r) m = (λ e. absurd (cc e), λ l. absurd (omega (arith, l.full)))
full≢memory h key room (Err e) m = (λ f. let g : F.Full ≡ F.Memory = cc in absurd (cc g), λ l. absurd (omega (arith, l.full)))

-- a full store was searched for a key
pub finds : (h : Held) → IsStore h → (key : Key) → KeyFits h key → h.limit ≤ length h.keys → (place : Option ℕ) → MatchOption place (IsAbsent h.keys key) (IsPlace h.keys key)
    → (result : Result Entry StoreFault) → MatchOption place (result ≡ Err F.Full) (λ i. (r : Entry) × (r.0 ≡ i) × (result ≡ Ok r)) → FindsOrAdds h h key result
finds h s key fits full None a result e = rw e (record {
  made = makes_tree-fault (shown h) (is_sound-shown h s) F.Full (tree_by (trees_of h.keys) key) (lacks-key h s key fits a full);
  limit = refl;
  err = refl;
  absent = a;
  full = (λ _. record { full = full; absent = a }, λ _. refl);
})
finds h s key fits full (Some i) p result e = rw e.2 (record {
  made = makes_tree-known (shown h) (is_sound-shown h s) e.0 (tree_by (trees_of h.keys) key) (knows-found h s key e.0 (rw e.1 p.within) (rw e.1 p.is));
  limit = refl;
  err = tt;
  absent = tt;
  full = (λ f. absurd (cc f), λ l. absurd (l.absent i p.within p.is));
})

-- a key was looked for in a store with room, and put in the last place where it is new
pub adds : (h : Held) → IsStore h → (key : Key) → KeyFits h key → length h.keys < h.limit → (keys : List Key) (r : Entry) → PlacesKey h.keys keys key r.0
    → IsStore (record h { keys = keys }) × FindsOrAdds h (record h { keys = keys }) key (Ok r)
adds h s key fits room keys r (inl p) =
    subst (λ (v : List Key). IsStore (record h { keys = v }) × FindsOrAdds h (record h { keys = v }) key (Ok r)) (sym p.0) (
      s,
      record {
        made = makes_tree-known (shown h) (is_sound-shown h s) r (tree_by (trees_of h.keys) key) (knows-found h s key r p.1.within p.1.is);
        limit = refl;
        err = tt;
        absent = tt;
        full = full≢memory h key room (Ok r) tt;
      },
    )
adds h s key fits room keys r (inr p) =
    subst (λ (v : List Key). IsStore (record h { keys = v }) × FindsOrAdds h (record h { keys = v }) key (Ok r)) (sym p.0) (
      is_store-add h s key fits p.1 room,
      record {
        made = record {
          sound = is_sound-shown (record h { keys = h.keys ++ key ∷ [] }) (is_store-add h s key fits p.1 room);
          grows = grows-add h s key fits p.1;
          ok = knows-add h s key fits p.1 r p.2;
          makes = makes-add h s key fits p.1;
          fault = tt;
        };
        limit = refl;
        err = tt;
        absent = tt;
        full = full≢memory h key room (Ok r) tt;
      },
    )

-- there was no memory for a key
pub adds-none : (h : Held) → IsStore h → (key : Key) → length h.keys < h.limit → IsAbsent h.keys key → FindsOrAdds h h key (Err F.Memory)
adds-none h s key room absent = record {
  made = makes_tree-fault (shown h) (is_sound-shown h s) F.Memory (tree_by (trees_of h.keys) key) tt;
  limit = refl;
  err = refl;
  absent = absent;
  full = full≢memory h key room (Err F.Memory) refl;
}

view-key : (h : Held) (r : Entry) (k : Key) (n : ℕ) → n ≤ length h.keys → ChildrenBefore n k → tree_in (trees_of h.keys) r.0 ≡ tree_by (trees_of h.keys) k → IsViewOf (shown h) r (key_view k)
view-key h r (K.Num a) n q b e = e
view-key h r (K.Pair a x) n q b e = e
view-key h r (K.Act a) n q b e = e
view-key h r (K.Test l y m) n q b e = (e, (Decides-ltb y.0 (length h.keys)).1 (omega arith), (Decides-ltb m.0 (length h.keys)).1 (omega arith))

pub view-at : (h : Held) → IsStore h → (r : Entry) → r.0 < length h.keys → IsViewOf (shown h) r (key_view (get_or h.keys r.0 (K.Act 0)))
view-at h s r q = view-key h r (get_or h.keys r.0 (K.Act 0)) r.0 (omega arith) (s.below r.0 q) (at-key h s r.0 q)

module _ (h : Held) (o : IsSound (shown h)) (l : ℕ) (y n : Entry) (ky : (shown h).knows y ≡ true) (kn : (shown h).knows n ≡ true) where
  pub join-one : y.0 ≡ n.0 → join l (tree_in (trees_of h.keys) y.0) (tree_in (trees_of h.keys) n.0) ≡ tree_in (trees_of h.keys) n.0
  join-one e = rw e (join-same l (tree_in (trees_of h.keys) n.0))

  children-differ : y.0 ≢ n.0 → tree_in (trees_of h.keys) y.0 ≢ tree_in (trees_of h.keys) n.0
  children-differ d e = d (ap (λ (r : Entry). r.0) (o.once y n ky kn e))

  pub join-two : y.0 ≢ n.0 → tree_by (trees_of h.keys) (K.Test l y n) ≡ join l (tree_in (trees_of h.keys) y.0) (tree_in (trees_of h.keys) n.0)
  join-two d = sym (join-differ l (tree_in (trees_of h.keys) y.0) (tree_in (trees_of h.keys) n.0) (children-differ d))

  pub fits-test : y.0 ≢ n.0 → l < levels_of (slots h.sizes) → CanTest (slots h.sizes) l (tree_in (trees_of h.keys) y.0) (tree_in (trees_of h.keys) n.0) → KeyFits h (K.Test l y n)
  fits-test d q c =
      let z : l - 0 ≡ l = omega arith in
      let a : 0 + after (slots h.sizes) (l - 0) ≡ after (slots h.sizes) l = rw z (omega arith) in
      record {
        below = ((Decides-ltb y.0 (length h.keys)).0 ky, (Decides-ltb n.0 (length h.keys)).0 kn);
        reduced = (omega arith, omega arith, children-differ d, rw a c.yes_fits, rw a c.no_fits, o.reduced y ky, o.reduced n kn);
      }
