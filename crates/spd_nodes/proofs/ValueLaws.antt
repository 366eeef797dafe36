-- The test tree of a function has the function's value at each point.
use Rattle.std.proofs.Common.{◌≡◌, ℕ, zero, suc, ◌+◌, ◌-◌, ◌≤◌, ◌==◌, Bool, true, false, cond, List, [], ◌∷◌, refl, sym, ◌∙◌, ap, arith}
use Rattle.std.specs.Prelude.{nat_lt}
use Rattle.std.proofs.lemmas.Bool.Decides.{Decides-eqb, nat_tests}
use Rattle.spd_nodes.specs.declared.leaf.Leaf.{Leaf}
use Rattle.spd_model.specs.States.{IsState}
use Rattle.spd_nodes.specs.Levels.{passes}
use Rattle.spd_nodes.specs.Trees.{Tree, Ends, Tests, tree_eq, value_at, join, chain, tree_of}
use Rattle.spd_nodes.proofs.TreeLaws.{tree_eq-true, passes-skip}

-- no level is below `e`, anywhere
abbrev AllAbove : ℕ → Tree → Type 0
AllAbove e (Ends a) = Unit {0}
AllAbove e (Tests l y n) = (e ≤ l) × AllAbove e y × AllAbove e n

AllAbove-lower : (e k : ℕ) (t : Tree) → e ≤ k → AllAbove k t → AllAbove e t
AllAbove-lower e k (Ends a) h f = tt
AllAbove-lower e k (Tests l y n) h f = (omega arith, AllAbove-lower e k y h f.1, AllAbove-lower e k n h f.2)

AllAbove-join : (e l : ℕ) (y n : Tree) → e ≤ l → AllAbove e y → AllAbove e n → AllAbove e (join l y n)
AllAbove-join e l y n h f g = go (tree_eq y n)
  where
    go : (t : Bool) → AllAbove e (cond t n (Tests l y n))
    go true = g
    go false = (h, f, g)

AllAbove-chain : (e n j l : ℕ) (sub : ℕ → Tree) → e ≤ l → ((k : ℕ) → AllAbove e (sub k)) → AllAbove e (chain n j l sub)
AllAbove-chain e zero j l sub h f = f j
AllAbove-chain e (suc n) j l sub h f = AllAbove-join e l (sub j) (chain n (j + 1) (l + 1) sub) h (f j) (AllAbove-chain e n (j + 1) (l + 1) sub (omega arith) f)

AllAbove-tree_of : (ds : List ℕ) (b : ℕ) (f : List ℕ → Leaf) → AllAbove b (tree_of ds b f)
AllAbove-tree_of [] b f = tt
AllAbove-tree_of (d ∷ ds) b f =
    AllAbove-chain b (d - 1) 0 b (λ j. tree_of ds (b + (d - 1)) (λ p. f (j ∷ p))) (omega arith)
    (λ k. AllAbove-lower b (b + (d - 1)) _ (omega arith) (AllAbove-tree_of ds (b + (d - 1)) (λ p. f (k ∷ p))))

value_at-past : (d : ℕ) (ds : List ℕ) (b x : ℕ) (p : List ℕ) (t : Tree) → AllAbove (b + (d - 1)) t → value_at (d ∷ ds) b t (x ∷ p) ≡ value_at ds (b + (d - 1)) t p
value_at-past d ds b x p (Ends a) h = refl
value_at-past d ds b x p (Tests l y n) h = rw (passes-skip d ds b l x p h.0, value_at-past d ds b x p y h.1, value_at-past d ds b x p n h.2) refl

pub value_at-join : (ds : List ℕ) (b l : ℕ) (y n : Tree) (p : List ℕ) → value_at ds b (join l y n) p ≡ cond (passes ds (l - b) p) (value_at ds b y p) (value_at ds b n p)
value_at-join ds b l y n p = go (tree_eq y n) refl
  where
    same : (t : Bool) (a : Leaf) → a ≡ cond t a a
    same true a = refl
    same false a = refl

    go : (t : Bool) → tree_eq y n ≡ t → value_at ds b (cond t n (Tests l y n)) p ≡ cond (passes ds (l - b) p) (value_at ds b y p) (value_at ds b n p)
    go false e = refl
    go true e = rw (tree_eq-true y n e) (same (passes ds (l - b) p) (value_at ds b n p))

-- a chain has the value of the tree at the slot's value
value_at-chain : (d : ℕ) (ds : List ℕ) (b n j l x : ℕ) (p : List ℕ) (sub : ℕ → Tree) → n + j ≡ d - 1 → l ≡ b + j → j ≤ x → x ≤ d - 1
    → value_at (d ∷ ds) b (chain n j l sub) (x ∷ p) ≡ value_at (d ∷ ds) b (sub x) (x ∷ p)
value_at-chain d ds b zero j l x p sub e f g h = let i : j ≡ x = omega arith in rw i refl
value_at-chain d ds b (suc n) j l x p sub e f g h = value_at-join (d ∷ ds) b l (sub j) (chain n (j + 1) (l + 1) sub) (x ∷ p) ∙ go (x == j) refl (λ i. value_at-chain d ds b n (j + 1) (l + 1) x p sub (omega arith) (omega arith) i h)
  where
    within : nat_lt (l - b) (d - 1) ≡ true
    within = grind (arith, nat_tests)

    at : l - b ≡ j
    at = omega arith

    go : (t : Bool) → (x == j) ≡ t → (j + 1 ≤ x → value_at (d ∷ ds) b (chain n (j + 1) (l + 1) sub) (x ∷ p) ≡ value_at (d ∷ ds) b (sub x) (x ∷ p)) → cond (passes (d ∷ ds) (l - b) (x ∷ p)) (value_at (d ∷ ds) b (sub j) (x ∷ p)) (value_at (d ∷ ds) b (chain n (j + 1) (l + 1) sub) (x ∷ p)) ≡ value_at (d ∷ ds) b (sub x) (x ∷ p)
    go true z r = let i : x ≡ j = (Decides-eqb x j).0 z in rw (within, at, z) (ap (λ k. value_at (d ∷ ds) b (sub k) (x ∷ p)) (sym i))
    go false z r = let i : j + 1 ≤ x = grind (arith, nat_tests) in rw (within, at, z) (r i)

-- the tree of a function has its value at each point in range
pub value_at-tree_of : (ds : List ℕ) (b : ℕ) (f : List ℕ → Leaf) (p : List ℕ) → IsState ds p → value_at ds b (tree_of ds b f) p ≡ f p
value_at-tree_of [] b f [] i = refl
value_at-tree_of [] b f (x ∷ p) i = absurd i
value_at-tree_of (d ∷ ds) b f [] i = absurd i
value_at-tree_of (d ∷ ds) b f (x ∷ p) i =
    value_at-chain d ds b (d - 1) 0 b x p (λ j. tree_of ds (b + (d - 1)) (λ p. f (j ∷ p))) (omega arith) (omega arith) (omega arith) (omega arith)
    ∙ value_at-past d ds b x p (tree_of ds (b + (d - 1)) (λ p. f (x ∷ p))) (AllAbove-tree_of ds (b + (d - 1)) (λ p. f (x ∷ p)))
    ∙ value_at-tree_of ds (b + (d - 1)) (λ p. f (x ∷ p)) p i.1
