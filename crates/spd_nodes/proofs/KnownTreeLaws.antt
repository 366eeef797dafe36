-- The trees of the entries that a seat knows.
use Rattle.std.proofs.Common.{◌≡◌, ◌≢◌, ℕ, zero, suc, ◌+◌, ◌-◌, ◌<◌, true, eqb, List, [], ◌∷◌, refl, sym, ap, ◌∙◌, inl, inr, ⊎_elim, arith}
use Rattle.std.specs.List.{Contains}
use Rattle.std.proofs.lemmas.Bool.{and_parts, cond_both, eqb-true, or_cases, true≢false}
use Rattle.spd_cons_core.specs.declared.key.Entry.{Entry}
use Rattle.spd_cons_core.specs.declared.key.Key.{Key}
use Rattle.spd_cons_core.specs.declared.key.Key.TheVariants as K
use Rattle.spd_cons_core.specs.declared.mind.Known.{Known}
use Rattle.spd_cons_core.specs.Seats.{is_known, parts_known}
use Rattle.spd_cons_core.proofs.CallerLemmas.{known_from, contains_cons}
use Rattle.spd_nodes.specs.Levels.{levels_of, after, is_first}
use Rattle.spd_nodes.specs.Trees.{Tests, IsFrom, IsAt, IsReduced}
use Rattle.spd_nodes.proofs.TreeLaws.{after_above}
use Rattle.spd_nodes.specs.KnownTrees.{key_of, key_tree, known_tree, KeyFrom, KeyAt, FitsIn, AllFitIn, CanBeMade}

-- an entry that is known stands in the list with its key
pub key_of-contains : (knows : List Known) (e : Entry) → is_known knows e ≡ true → Contains knows (record { entry = e; key = key_of knows e })
key_of-contains [] e is = absurd (true≢false (sym is))
key_of-contains (k ∷ ks) e is = cond_both (eqb k.entry.0 e.0) k.key (key_of ks e) (λ key. Contains (k ∷ ks) (record { entry = e; key = key }))
    (λ here. let same : k.entry ≡ e = ap (λ (n : ℕ). let x : Entry = record { 0 = n } in x) (eqb-true k.entry.0 e.0 here) in (0, omega arith, (λ i. record { entry = same i; key = k.key })))
    (λ other. contains_cons k ks (record { entry = e; key = key_of ks e }) (key_of-contains ks e (⊎_elim (λ (t : eqb k.entry.0 e.0 ≡ true). absurd (true≢false (sym t ∙ other))) (λ (t : is_known ks e ≡ true). t) (or_cases (eqb k.entry.0 e.0) (is_known ks e) is))))

-- what is known agrees
pub record Agrees (knows : List Known) : Type 0 where
  pub keys : (k other : Known) → Contains knows k → Contains knows other → k.entry ≡ other.entry → k.key ≡ other.key
  pub entries : (k other : Known) → Contains knows k → Contains knows other → k.key ≡ other.key → k.entry ≡ other.entry
  pub parts : (k : Known) → Contains knows k → parts_known knows k.key ≡ true

pub key_of-is : (knows : List Known) → Agrees knows → (k : Known) → Contains knows k → key_of knows k.entry ≡ k.key
key_of-is knows a k at = a.keys (record { entry = k.entry; key = key_of knows k.entry }) k (key_of-contains knows k.entry (known_from knows k at)) at refl

abbrev pub key_rank : List ℕ → Key → ℕ
key_rank ds (K.Test l y n) = levels_of ds - l
key_rank ds (K.Num a) = 0
key_rank ds (K.Pair a b) = 0
key_rank ds (K.Act a) = 0

rank-past : (ds : List ℕ) (l e : ℕ) (key : Key) → l < levels_of ds → l < e → KeyFrom ds e key → key_rank ds key < levels_of ds - l
rank-past ds l e (K.Test k y n) h i f = omega (arith, f.0)
rank-past ds l e (K.Num a) h i f = omega arith
rank-past ds l e (K.Pair a b) h i f = omega arith
rank-past ds l e (K.Act a) h i f = omega arith

rank-at : (ds : List ℕ) (l : ℕ) (key : Key) → l < levels_of ds → KeyAt (l + 1) key → key_rank ds key < levels_of ds - l
rank-at ds l (K.Test k y n) h f = omega (arith, f)
rank-at ds l (K.Num a) h f = absurd f
rank-at ds l (K.Pair a b) h f = absurd f
rank-at ds l (K.Act a) h f = absurd f

pub rank-yes : (ds : List ℕ) (knows : List Known) (l : ℕ) (y n : Entry) → FitsIn ds knows (K.Test l y n) → key_rank ds (key_of knows y) < levels_of ds - l
rank-yes ds knows l y n f = rank-past ds l (after ds l) (key_of knows y) f.0 (after_above ds l f.0) f.2

pub rank-no : (ds : List ℕ) (knows : List Known) (l : ℕ) (y n : Entry) → FitsIn ds knows (K.Test l y n) → key_rank ds (key_of knows n) < levels_of ds - l
rank-no ds knows l y n f = elim f.3 [ inl p ↦ rank-past ds l (after ds l) (key_of knows n) f.0 (after_above ds l f.0) p | inr p ↦ rank-at ds l (key_of knows n) f.0 p.0 ]

module _ (ds : List ℕ) (knows : List Known) (a : Agrees knows) (fit : AllFitIn ds knows) where
  pub good-known : (e : Entry) → is_known knows e ≡ true → CanBeMade ds knows (key_of knows e)
  good-known e is = let at = key_of-contains knows e is in record { fits = fit.all (record { entry = e; key = key_of knows e }) at; parts = a.parts (record { entry = e; key = key_of knows e }) at }

  yes-known : (l : ℕ) (y n : Entry) → CanBeMade ds knows (K.Test l y n) → is_known knows y ≡ true
  yes-known l y n g = (and_parts (is_known knows y) (is_known knows n) g.parts).0

  no-known : (l : ℕ) (y n : Entry) → CanBeMade ds knows (K.Test l y n) → is_known knows n ≡ true
  no-known l y n g = (and_parts (is_known knows y) (is_known knows n) g.parts).1

  -- a tree doesn't depend on the depth that is allowed, where that is enough
  pub tree-same : (n m : ℕ) (key : Key) → CanBeMade ds knows key → key_rank ds key < n → key_rank ds key < m → key_tree n knows key ≡ key_tree m knows key
  tree-same zero m key g h i = absurd (omega arith)
  tree-same (suc n) zero key g h i = absurd (omega arith)
  tree-same (suc n) (suc m) (K.Test l y q) g h i =
      let r = rank-yes ds knows l y q g.fits in
      let s = rank-no ds knows l y q g.fits in
      let b = tree-same n m (key_of knows y) (good-known y (yes-known l y q g)) (omega arith) (omega arith) in
      let c = tree-same n m (key_of knows q) (good-known q (no-known l y q g)) (omega arith) (omega arith) in
      λ j. Tests l (b j) (c j)
  tree-same (suc n) (suc m) (K.Num x) g h i = refl
  tree-same (suc n) (suc m) (K.Pair x z) g h i = refl
  tree-same (suc n) (suc m) (K.Act x) g h i = refl

  -- the tree of a test is the test of the trees of its children
  pub tree-test : (l : ℕ) (y n : Entry) → CanBeMade ds knows (K.Test l y n) → key_tree (suc (levels_of ds)) knows (K.Test l y n) ≡ Tests l (known_tree ds knows y) (known_tree ds knows n)
  tree-test l y n g =
      let r = rank-yes ds knows l y n g.fits in
      let s = rank-no ds knows l y n g.fits in
      let b = tree-same (levels_of ds) (suc (levels_of ds)) (key_of knows y) (good-known y (yes-known l y n g)) (omega arith) (omega arith) in
      let c = tree-same (levels_of ds) (suc (levels_of ds)) (key_of knows n) (good-known n (no-known l y n g)) (omega arith) (omega arith) in
      λ j. Tests l (b j) (c j)

  same-entry : (y v : Entry) → is_known knows y ≡ true → is_known knows v ≡ true → key_of knows y ≡ key_of knows v → y ≡ v
  same-entry y v is is' same = a.entries (record { entry = y; key = key_of knows y }) (record { entry = v; key = key_of knows v }) (key_of-contains knows y is) (key_of-contains knows v is') same

  -- two keys with one tree are one
  pub one-key : (n : ℕ) (j k : Key) → CanBeMade ds knows j → CanBeMade ds knows k → key_rank ds j < n → key_rank ds k < n → key_tree n knows j ≡ key_tree n knows k → j ≡ k
  one-key zero j k p q h i e = absurd (omega arith)
  one-key (suc m) (K.Num a) (K.Num b) p q h i e = let f : a ≡ b = cc in ap K.Num f
  one-key (suc m) (K.Num a) (K.Pair b y) p q h i e = absurd (cc e)
  one-key (suc m) (K.Num a) (K.Act b) p q h i e = absurd (cc e)
  one-key (suc m) (K.Num a) (K.Test l y n) p q h i e = absurd (cc e)
  one-key (suc m) (K.Pair a x) (K.Num b) p q h i e = absurd (cc e)
  one-key (suc m) (K.Pair a x) (K.Pair b y) p q h i e = let f : a ≡ b = cc in let g : x ≡ y = cc in λ z. K.Pair (f z) (g z)
  one-key (suc m) (K.Pair a x) (K.Act b) p q h i e = absurd (cc e)
  one-key (suc m) (K.Pair a x) (K.Test l y n) p q h i e = absurd (cc e)
  one-key (suc m) (K.Act a) (K.Num b) p q h i e = absurd (cc e)
  one-key (suc m) (K.Act a) (K.Pair b y) p q h i e = absurd (cc e)
  one-key (suc m) (K.Act a) (K.Act b) p q h i e = let f : a ≡ b = cc in ap K.Act f
  one-key (suc m) (K.Act a) (K.Test l y n) p q h i e = absurd (cc e)
  one-key (suc m) (K.Test l y n) (K.Num a) p q h i e = absurd (cc e)
  one-key (suc m) (K.Test l y n) (K.Pair a x) p q h i e = absurd (cc e)
  one-key (suc m) (K.Test l y n) (K.Act a) p q h i e = absurd (cc e)
  one-key (suc m) (K.Test l y n) (K.Test k v w) p q h i e =
      let f : l ≡ k = cc in
      let b : key_tree m knows (key_of knows y) ≡ key_tree m knows (key_of knows v) = cc in
      let c : key_tree m knows (key_of knows n) ≡ key_tree m knows (key_of knows w) = cc in
      let r = rank-yes ds knows l y n p.fits in
      let s = rank-no ds knows l y n p.fits in
      let t = rank-yes ds knows k v w q.fits in
      let u = rank-no ds knows k v w q.fits in
      let ky = yes-known l y n p in
      let kn = no-known l y n p in
      let kv = yes-known k v w q in
      let kw = no-known k v w q in
      let yes : y ≡ v = same-entry y v ky kv (one-key m (key_of knows y) (key_of knows v) (good-known y ky) (good-known v kv) (omega arith) (omega arith) b) in
      let no : n ≡ w = same-entry n w kn kw (one-key m (key_of knows n) (key_of knows w) (good-known n kn) (good-known w kw) (omega arith) (omega arith) c) in
      λ z. K.Test (f z) (yes z) (no z)

  rank-small : (key : Key) → key_rank ds key < suc (levels_of ds)
  rank-small (K.Test l y n) = omega arith
  rank-small (K.Num x) = omega arith
  rank-small (K.Pair x z) = omega arith
  rank-small (K.Act x) = omega arith

  -- each tree is known as one entry
  pub once : (r q : Entry) → is_known knows r ≡ true → is_known knows q ≡ true → known_tree ds knows r ≡ known_tree ds knows q → r ≡ q
  once r q kr kq e =
      same-entry r q kr kq (one-key (suc (levels_of ds)) (key_of knows r) (key_of knows q) (good-known r kr) (good-known q kq) (rank-small (key_of knows r)) (rank-small (key_of knows q)) e)

  -- a key that isn't known has another tree than all that are known
  pub unknown-tree : (key : Key) → CanBeMade ds knows key → ((k : Known) → Contains knows k → k.key ≢ key) → (r : Entry) → is_known knows r ≡ true → known_tree ds knows r ≢ key_tree (suc (levels_of ds)) knows key
  unknown-tree key g lacks r kr e =
      lacks (record { entry = r; key = key_of knows r }) (key_of-contains knows r kr) (one-key (suc (levels_of ds)) (key_of knows r) key (good-known r kr) g (rank-small (key_of knows r)) (rank-small key) e)

  from-past : (n e : ℕ) (key : Key) → KeyFrom ds e key → IsFrom ds 0 e (key_tree (suc n) knows key)
  from-past n e (K.Test l y q) p = let z : l - 0 ≡ l = omega arith in (p.0, ap (is_first ds) z ∙ p.1)
  from-past n e (K.Num x) p = tt
  from-past n e (K.Pair x z) p = tt
  from-past n e (K.Act x) p = tt

  at-level : (n k : ℕ) (key : Key) → KeyAt k key → IsAt k (key_tree (suc n) knows key)
  at-level n k (K.Test l y q) p = p
  at-level n k (K.Num x) p = p
  at-level n k (K.Pair x z) p = p
  at-level n k (K.Act x) p = p

  pub past-from : (n e : ℕ) (key : Key) → IsFrom ds 0 e (key_tree (suc n) knows key) → KeyFrom ds e key
  past-from n e (K.Test l y q) p = let z : l ≡ l - 0 = omega arith in (p.0, ap (is_first ds) z ∙ p.1)
  past-from n e (K.Num x) p = tt
  past-from n e (K.Pair x z) p = tt
  past-from n e (K.Act x) p = tt

  pub level-at : (n k : ℕ) (key : Key) → IsAt k (key_tree (suc n) knows key) → KeyAt k key
  level-at n k (K.Test l y q) p = p
  level-at n k (K.Num x) p = p
  level-at n k (K.Pair x z) p = p
  level-at n k (K.Act x) p = p

  -- the trees are reduced
  pub reduced-by : (n : ℕ) (key : Key) → CanBeMade ds knows key → key_rank ds key < n → IsReduced ds 0 (key_tree n knows key)
  reduced-by zero key g h = absurd (omega arith)
  reduced-by (suc zero) (K.Test l y q) g h = let r = rank-yes ds knows l y q g.fits in absurd (omega arith)
  reduced-by (suc (suc n)) (K.Test l y q) g h =
      let f = g.fits in
      let r = rank-yes ds knows l y q f in
      let s = rank-no ds knows l y q f in
      let ky = yes-known l y q g in
      let kq = no-known l y q g in
      let level = f.0 in
      let apart : key_tree (suc n) knows (key_of knows y) ≢ key_tree (suc n) knows (key_of knows q) =
      λ e. f.1 (ap (λ (x : Entry). x.0) (same-entry y q ky kq (one-key (suc n) (key_of knows y) (key_of knows q) (good-known y ky) (good-known q kq) (omega arith) (omega arith) e))) in
      let z : l - 0 ≡ l = omega arith in
      let w : 0 + after ds (l - 0) ≡ after ds l = rw z (omega arith) in (
        omega arith,
        omega arith,
        apart,
        rw w (from-past n (after ds l) (key_of knows y) f.2),
        rw w (elim f.3 [ inl p ↦ inl (from-past n (after ds l) (key_of knows q) p) | inr p ↦ inr (at-level n (l + 1) (key_of knows q) p.0, p.1) ]),
        reduced-by (suc n) (key_of knows y) (good-known y ky) (omega arith),
        reduced-by (suc n) (key_of knows q) (good-known q kq) (omega arith),
      )
  reduced-by (suc n) (K.Num x) g h = tt
  reduced-by (suc n) (K.Pair x z) g h = tt
  reduced-by (suc n) (K.Act x) g h = tt

  pub reduced : (r : Entry) → is_known knows r ≡ true → IsReduced ds 0 (known_tree ds knows r)
  reduced r kr = reduced-by (suc (levels_of ds)) (key_of knows r) (good-known r kr) (rank-small (key_of knows r))
