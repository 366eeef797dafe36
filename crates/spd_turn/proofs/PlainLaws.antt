-- The tree of a function of the present state tests no next value.
use Rattle.std.proofs.Common.{◌≡◌, ℕ, zero, suc, ◌+◌, ◌-◌, ◌*◌, ◌<◌, ◌≤◌, Bool, true, false, cond, nat_lt, List, [], ◌∷◌, refl, sym, ◌∙◌, ap, subst, arith}
use Rattle.std.proofs.lemmas.Bool.Decides.{nat_tests}
use Rattle.spd_cons_core.specs.declared.key.Entry.{Entry}
use Rattle.spd_nodes.specs.declared.leaf.Leaf.{Leaf}
use Rattle.spd_nodes.specs.Levels.{slots}
use Rattle.spd_nodes.specs.Shown.{Shown, StandsFor}
use Rattle.spd_nodes.specs.States.{plain_part}
use Rattle.spd_nodes.specs.Trees.{Tree, Tests, join, chain, tree_of, tree_eq}
use Rattle.spd_nodes.proofs.CallerLemmas.{join-same}
use Rattle.spd_restrict.specs.Primed.{is_plain_level, TestsNoPrimed}

module _ (sizes : List ℕ) where
  join-plain : (l : ℕ) (y n : Tree) (b : Bool) → is_plain_level sizes l ≡ true → TestsNoPrimed sizes y → TestsNoPrimed sizes n → TestsNoPrimed sizes (cond b n (Tests l y n))
  join-plain l y n true e h k = k
  join-plain l y n false e h k = (e, h, k)

  chain-plain : (n j l : ℕ) (sub : ℕ → Tree) → ((k : ℕ) → l ≤ k → k < l + n → is_plain_level sizes k ≡ true) → ((k : ℕ) → TestsNoPrimed sizes (sub k)) → TestsNoPrimed sizes (chain n j l sub)
  chain-plain zero j l sub e h = h j
  chain-plain (suc n) j l sub e h =
      join-plain l (sub j) (chain n (j + 1) (l + 1) sub) (tree_eq (sub j) (chain n (j + 1) (l + 1) sub)) (e l (omega arith) (omega arith)) (h j)
      (chain-plain n (j + 1) (l + 1) sub (λ k a b. e k (omega arith) (omega arith)) h)

chain-same : (n j l : ℕ) (t : Tree) → chain n j l (λ k. t) ≡ t
chain-same zero j l t = refl
chain-same (suc n) j l t = ap (join l t) (chain-same n (j + 1) (l + 1) t) ∙ join-same l t

-- the levels of a variable: first those of its next value, and then those of its present one
plain-here : (d k : ℕ) (rest : Bool) → d - 1 ≤ k → k < (d - 1) + (d - 1) → cond (nat_lt k (d - 1)) false (cond (nat_lt k (2 * (d - 1))) true rest) ≡ true
plain-here d k rest a b =
    let first : nat_lt k (d - 1) ≡ false = grind (arith, nat_tests) in
    let second : nat_lt k (2 * (d - 1)) ≡ true = grind (arith, nat_tests) in
    rw (first, second) refl

plain-later : (d k : ℕ) (rest : Bool) → (d - 1) + (d - 1) ≤ k → cond (nat_lt k (d - 1)) false (cond (nat_lt k (2 * (d - 1))) true rest) ≡ rest
plain-later d k rest a =
    let first : nat_lt k (d - 1) ≡ false = grind (arith, nat_tests) in
    let second : nat_lt k (2 * (d - 1)) ≡ false = grind (arith, nat_tests) in
    rw (first, second) refl

plain-tree : (sizes ds : List ℕ) (b : ℕ) (g : List ℕ → Leaf) → ((l : ℕ) → b ≤ l → is_plain_level sizes l ≡ is_plain_level ds (l - b)) → TestsNoPrimed sizes (tree_of (slots ds) b (λ p. g (plain_part p)))
plain-tree sizes [] b g h = tt
plain-tree sizes (d ∷ ds) b g h =
    let c = b + (d - 1) in
    let sub : ℕ → Tree = λ x. tree_of (slots ds) (c + (d - 1)) (λ p. g (x ∷ plain_part p)) in
    subst (TestsNoPrimed sizes) (sym (chain-same (d - 1) 0 b (chain (d - 1) 0 c sub)))
    (chain-plain sizes (d - 1) 0 c sub
    (λ k low high. h k (omega arith) ∙ plain-here d (k - b) (is_plain_level ds ((k - b) - 2 * (d - 1))) (omega arith) (omega arith))
    (λ x. plain-tree sizes ds (c + (d - 1)) (λ s. g (x ∷ s)) (λ l low.
    h l (omega arith) ∙ plain-later d (l - b) (is_plain_level ds ((l - b) - 2 * (d - 1))) (omega arith)
    ∙ ap (is_plain_level ds) (omega arith))))

pub stands-plain : (s : Shown) (r : Entry) (g : List ℕ → Leaf) → StandsFor s r (λ x t. g x) → TestsNoPrimed s.sizes (s.tree r)
stands-plain s r g h = subst (TestsNoPrimed s.sizes) (sym h.tree) (plain-tree s.sizes s.sizes 0 g (λ l low. ap (is_plain_level s.sizes) (omega arith)))
