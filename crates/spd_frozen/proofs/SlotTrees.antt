-- The tests of one slot in a test tree, and the trees that follow the slot's values.
use Rattle.std.proofs.Common.{◌≡◌, ℕ, zero, suc, ◌+◌, ◌-◌, ◌<◌, ◌≤◌, ◌⊎◌, ◌==◌, Bool, true, false, cond, List, [], ◌∷◌, refl, sym, ◌∙◌, ap, arith}
use Rattle.std.specs.Prelude.{nat_lt}
use Rattle.std.proofs.lemmas.Bool.{ne_eqb}
use Rattle.std.proofs.lemmas.Bool.Decides.{Decides-eqb, nat_tests}
use Rattle.spd_nodes.specs.declared.leaf.Leaf.{Leaf}
use Rattle.spd_nodes.specs.Trees.{Tree, Ends, Tests, tree_eq, IsFrom, join, chain, tree_of}
use Rattle.spd_nodes.proofs.CallerLemmas.{join-same, tree_eq-true}
use Rattle.spd_frozen.specs.inner.Kids.{yes_at, no_at, rest_after, kid_tree}

-- the root's level, if there is one, is at least e
abbrev pub StartsFrom : ℕ → Tree → Type 0
StartsFrom e (Ends a) = Unit {0}
StartsFrom e (Tests l y n) = e ≤ l

pub starts-lower : (e k : ℕ) (t : Tree) → e ≤ k → StartsFrom k t → StartsFrom e t
starts-lower e k (Ends a) h s = tt
starts-lower e k (Tests l y n) h s = omega arith

pub from-starts : (ds : List ℕ) (b e : ℕ) (t : Tree) → IsFrom ds b e t → StartsFrom e t
from-starts ds b e (Ends a) f = tt
from-starts ds b e (Tests l y n) f = f.0

pub yes-past : (l e : ℕ) (t : Tree) → l < e → StartsFrom e t → yes_at l t ≡ t
yes-past l e (Ends a) h s = refl
yes-past l e (Tests k y n) h s = rw (ne_eqb k l (omega arith)) refl

pub no-past : (l e : ℕ) (t : Tree) → l < e → StartsFrom e t → no_at l t ≡ t
no-past l e (Ends a) h s = refl
no-past l e (Tests k y n) h s = rw (ne_eqb k l (omega arith)) refl

starts-join : (e l : ℕ) (y n : Tree) → e ≤ l → StartsFrom e n → StartsFrom e (join l y n)
starts-join e l y n h s = go (tree_eq y n)
  where
    go : (b : Bool) → StartsFrom e (cond b n (Tests l y n))
    go true = s
    go false = h

starts-chain : (e n j l : ℕ) (sub : ℕ → Tree) → e ≤ l → ((v : ℕ) → StartsFrom e (sub v)) → StartsFrom e (chain n j l sub)
starts-chain e zero j l sub h s = s j
starts-chain e (suc n) j l sub h s = starts-join e l (sub j) (chain n (j + 1) (l + 1) sub) h (starts-chain e n (j + 1) (l + 1) sub (omega arith) s)

-- no level of a function's test tree is before the first one
pub starts-tree_of : (ds : List ℕ) (b : ℕ) (f : List ℕ → Leaf) → StartsFrom b (tree_of ds b f)
starts-tree_of [] b f = tt
starts-tree_of (d ∷ ds) b f =
    starts-chain b (d - 1) 0 b (λ j. tree_of ds (b + (d - 1)) (λ p. f (j ∷ p))) (omega arith)
    (λ v. starts-lower b (b + (d - 1)) (tree_of ds (b + (d - 1)) (λ p. f (v ∷ p))) (omega arith) (starts-tree_of ds (b + (d - 1)) (λ p. f (v ∷ p))))

-- tests of equal trees are left out
pub chain-same : (n j l : ℕ) (sub : ℕ → Tree) (t : Tree) → ((v : ℕ) → j ≤ v → v ≤ j + n → sub v ≡ t) → chain n j l sub ≡ t
chain-same zero j l sub t h = h j (omega arith) (omega arith)
chain-same (suc n) j l sub t h =
    let first : sub j ≡ t = h j (omega arith) (omega arith) in
    let rest : chain n (j + 1) (l + 1) sub ≡ t = chain-same n (j + 1) (l + 1) sub t (λ v a b. h v (omega arith) (omega arith)) in
    rw (first, rest) (join-same l t)

-- where a slot isn't tested, all of its trees are equal
pub chain-out : (n j l : ℕ) (sub : ℕ → Tree) → StartsFrom (l + n) (chain n j l sub) → (v : ℕ) → j ≤ v → v ≤ j + n → sub v ≡ chain n j l sub
chain-out zero j l sub s v a b = let e : v ≡ j = omega arith in ap sub e
chain-out (suc n) j l sub s v a b = go (tree_eq (sub j) (chain n (j + 1) (l + 1) sub)) refl s (chain-out n (j + 1) (l + 1) sub)
  where
    rest : Tree
    rest = chain n (j + 1) (l + 1) sub

    go : (t : Bool) → tree_eq (sub j) (chain n (j + 1) (l + 1) sub) ≡ t → StartsFrom (l + suc n) (cond t (chain n (j + 1) (l + 1) sub) (Tests l (sub j) (chain n (j + 1) (l + 1) sub)))
        → (StartsFrom ((l + 1) + n) (chain n (j + 1) (l + 1) sub) → (w : ℕ) → j + 1 ≤ w → w ≤ (j + 1) + n → sub w ≡ chain n (j + 1) (l + 1) sub)
        → sub v ≡ cond t (chain n (j + 1) (l + 1) sub) (Tests l (sub j) (chain n (j + 1) (l + 1) sub))
    go false e i ih = absurd (omega arith)
    go true e i ih = at (v == j) refl
      where
        at : (z : Bool) → (v == j) ≡ z → sub v ≡ chain n (j + 1) (l + 1) sub
        at true q = let k : v ≡ j = (Decides-eqb v j).0 q in ap sub k ∙ tree_eq-true (sub j) (chain n (j + 1) (l + 1) sub) e
        at false q = let k : j + 1 ≤ v = grind (arith, nat_tests) in ih (starts-lower ((l + 1) + n) (l + suc n) (chain n (j + 1) (l + 1) sub) (omega arith) i) v k (omega arith)

-- the two sides of a slot's next test
pub yes-chain : (n j l : ℕ) (sub : ℕ → Tree) → StartsFrom (l + suc n) (sub j) → yes_at l (chain (suc n) j l sub) ≡ sub j
yes-chain n j l sub s = go (tree_eq (sub j) (chain n (j + 1) (l + 1) sub)) refl
  where
    go : (t : Bool) → tree_eq (sub j) (chain n (j + 1) (l + 1) sub) ≡ t → yes_at l (cond t (chain n (j + 1) (l + 1) sub) (Tests l (sub j) (chain n (j + 1) (l + 1) sub))) ≡ sub j
    go true e =
        let same : chain n (j + 1) (l + 1) sub ≡ sub j = sym (tree_eq-true (sub j) (chain n (j + 1) (l + 1) sub) e) in
        ap (yes_at l) same ∙ yes-past l (l + suc n) (sub j) (omega arith) s
    go false e = rw ((Decides-eqb l l).1 refl) refl

pub no-chain : (n j l : ℕ) (sub : ℕ → Tree) → StartsFrom (l + suc n) (sub j) → no_at l (chain (suc n) j l sub) ≡ chain n (j + 1) (l + 1) sub
no-chain n j l sub s = go (tree_eq (sub j) (chain n (j + 1) (l + 1) sub)) refl
  where
    go : (t : Bool) → tree_eq (sub j) (chain n (j + 1) (l + 1) sub) ≡ t → no_at l (cond t (chain n (j + 1) (l + 1) sub) (Tests l (sub j) (chain n (j + 1) (l + 1) sub))) ≡ chain n (j + 1) (l + 1) sub
    go true e =
        let same : chain n (j + 1) (l + 1) sub ≡ sub j = sym (tree_eq-true (sub j) (chain n (j + 1) (l + 1) sub) e) in
        ap (no_at l) same ∙ no-past l (l + suc n) (sub j) (omega arith) s ∙ sym same
    go false e = rw ((Decides-eqb l l).1 refl) refl

module _ (m b : ℕ) (sub : ℕ → Tree) (starts : (v : ℕ) → v ≤ m → StartsFrom (b + m) (sub v)) where
  -- what is left of a slot's tests
  rest-chain : (v : ℕ) → v ≤ m → rest_after v b (chain m 0 b sub) ≡ chain (m - v) v (b + v) sub
  rest-chain zero h = let x : m - 0 ≡ m = omega arith in let y : b + 0 ≡ b = omega arith in rw (x, y) refl
  rest-chain (suc v) h =
      let x : m - v ≡ suc (m - suc v) = omega arith in
      let y : v + 1 ≡ suc v = omega arith in
      let z : (b + v) + 1 ≡ b + suc v = omega arith in
      let start : StartsFrom ((b + v) + suc (m - suc v)) (sub v) = starts-lower ((b + v) + suc (m - suc v)) (b + m) (sub v) (omega arith) (starts v (omega arith)) in
      let step : no_at (b + v) (chain (suc (m - suc v)) v (b + v) sub) ≡ chain (m - suc v) (v + 1) ((b + v) + 1) sub = no-chain (m - suc v) v (b + v) sub start in
      ap (no_at (b + v)) (rest-chain v (omega arith)) ∙ ap (λ (k : ℕ). no_at (b + v) (chain k v (b + v) sub)) x ∙ step
      ∙ ap (λ (k : ℕ). chain (m - suc v) k ((b + v) + 1) sub) y ∙ ap (λ (k : ℕ). chain (m - suc v) (suc v) k sub) z

  -- the tree that follows a value of the slot
  pub kid-chain : (v : ℕ) → v ≤ m → kid_tree m b (chain m 0 b sub) v ≡ sub v
  kid-chain v h = go (nat_lt v m) refl
    where
      go : (t : Bool) → nat_lt v m ≡ t → cond t (yes_at (b + v) (rest_after v b (chain m 0 b sub))) (rest_after v b (chain m 0 b sub)) ≡ sub v
      go true e =
          let below : v < m = grind (arith, nat_tests) in
          let x : m - v ≡ suc (m - suc v) = omega arith in
          let start : StartsFrom ((b + v) + suc (m - suc v)) (sub v) = starts-lower ((b + v) + suc (m - suc v)) (b + m) (sub v) (omega arith) (starts v h) in
          ap (yes_at (b + v)) (rest-chain v h) ∙ ap (λ (k : ℕ). yes_at (b + v) (chain k v (b + v) sub)) x ∙ yes-chain (m - suc v) v (b + v) sub start
      go false e =
          let x : m - v ≡ 0 = grind (arith, nat_tests) in
          rest-chain v h ∙ ap (λ (k : ℕ). chain k v (b + v) sub) x
