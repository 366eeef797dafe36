-- What a diagram's nodes tell of the levels that it tests.
use Rattle.std.proofs.Common.{◌≡◌, ℕ, zero, suc, ◌+◌, ◌-◌, ◌*◌, ◌<◌, ◌≤◌, Bool, true, false, List, [], ◌∷◌, length, get_or, take, refl, sym, ◌∙◌, subst, arith, IsTrue, not, true≢false}
use Rattle.std.specs.Prelude.{nat_lt, All}
use Rattle.std.proofs.lemmas.Bool.Decides.{nat_tests}
use Rattle.std.proofs.lemmas.List.{take_all}
use Rattle.std.proofs.lemmas.List.Elements.{All-contains, Contains-get_or}
use Rattle.spd_cons_core.specs.declared.key.Entry.{Entry}
use Rattle.spd_nodes.specs.Levels.{levels_of, IsTestOf}
use Rattle.spd_nodes.specs.Trees.{Tree, Ends, Tests, IsNode, Itself, InYes, InNo}
use Rattle.spd_nodes.specs.Shown.{Shown}
use Rattle.spd_nodes.specs.Refs.{HasTree, IsReached}
use Rattle.spd_nodes.proofs.CallerLemmas.{level-plain, level-primed}
use Rattle.spd_restrict.specs.Primed.{is_plain_level, TestsNoPrimed, IsPlainRoot}

plain-at : (ds : List ℕ) (l var v : ℕ) → var < length ds → v + 1 < get_or ds var 0 → 2 * levels_of (take var ds) + (get_or ds var 0 - 1) + v ≡ l → is_plain_level ds l ≡ true
plain-at [] l var v h j e = absurd (omega arith)
plain-at (d ∷ ds) l zero v h j e =
    let a : nat_lt l (d - 1) ≡ false = grind (arith, nat_tests) in
    let b : nat_lt l (2 * (d - 1)) ≡ true = grind (arith, nat_tests) in
    rw (a, b) refl
plain-at (d ∷ ds) l (suc var) v h j e =
    let a : nat_lt l (d - 1) ≡ false = grind (arith, nat_tests) in
    let b : nat_lt l (2 * (d - 1)) ≡ false = grind (arith, nat_tests) in
    rw (a, b) (plain-at ds (l - 2 * (d - 1)) var v (omega arith) j (omega arith))

primed-at : (ds : List ℕ) (l var v : ℕ) → var < length ds → v + 1 < get_or ds var 0 → 2 * levels_of (take var ds) + v ≡ l → is_plain_level ds l ≡ false
primed-at [] l var v h j e = absurd (omega arith)
primed-at (d ∷ ds) l zero v h j e =
    let a : nat_lt l (d - 1) ≡ true = grind (arith, nat_tests) in
    rw a refl
primed-at (d ∷ ds) l (suc var) v h j e =
    let a : nat_lt l (d - 1) ≡ false = grind (arith, nat_tests) in
    let b : nat_lt l (2 * (d - 1)) ≡ false = grind (arith, nat_tests) in
    rw (a, b) (primed-at ds (l - 2 * (d - 1)) var v (omega arith) j (omega arith))

-- the test of a plain value
pub plain-level : (sizes : List ℕ) (l var v : ℕ) → IsTestOf sizes l var false v → is_plain_level sizes l ≡ true
plain-level sizes l var v t = plain-at sizes l var v t.var_in t.value_in (sym (level-plain sizes var v t.var_in) ∙ t.level_is)

primed-level : (sizes : List ℕ) (l var v : ℕ) → IsTestOf sizes l var true v → is_plain_level sizes l ≡ false
primed-level sizes l var v t = primed-at sizes l var v t.var_in t.value_in (sym (level-primed sizes var v) ∙ t.level_is)

-- the root of a diagram is plain exactly where its level is
pub plain-root : (s : Shown) (q : Entry) (l var v : ℕ) (primed : Bool) (y n : Tree) → s.tree q ≡ Tests l y n → IsTestOf s.sizes l var primed v
    → (IsTrue (not primed) → IsPlainRoot s q) × (IsPlainRoot s q → IsTrue (not primed))
plain-root s q l var v true y n e t = (λ h. absurd (true≢false (sym h)), λ h. absurd (true≢false (sym (h.plain l y n e) ∙ primed-level s.sizes l var v t)))
plain-root s q l var v false y n e t = (
  λ h. record {
    plain = λ k z m i.
        let same : l ≡ k = let j : Tests l y n ≡ Tests k z m = sym e ∙ i in cc in
        subst (λ x. is_plain_level s.sizes x ≡ true) same (plain-level s.sizes l var v t);
  },
  λ h. refl,
)

-- a diagram whose nodes test plain values alone
plain-nodes : (sizes : List ℕ) (t : Tree) → ((l : ℕ) (y n : Tree) → IsNode (Tests l y n) t → is_plain_level sizes l ≡ true) → TestsNoPrimed sizes t
plain-nodes sizes (Ends a) h = tt
plain-nodes sizes (Tests l y n) h = (h l y n Itself, plain-nodes sizes y (λ k v m i. h k v m (InYes i)), plain-nodes sizes n (λ k v m i. h k v m (InNo i)))

pub plain-reached : (s : Shown) (r : Entry) (refs : List Entry) → IsReached s r refs → All (IsPlainRoot s) refs → TestsNoPrimed s.sizes (s.tree r)
plain-reached s r refs h all =
    plain-nodes s.sizes (s.tree r)
    (λ l y n i. let k : HasTree s refs (Tests l y n) = h.all (Tests l y n) i in (All-contains (IsPlainRoot s) refs k.ref all k.is_in).plain l y n k.tree)

plain-node : (sizes : List ℕ) (x t : Tree) → TestsNoPrimed sizes t → IsNode x t → TestsNoPrimed sizes x
plain-node sizes x t h Itself = h
plain-node sizes x (Tests l y n) h (InYes i) = plain-node sizes x y h.1 i
plain-node sizes x (Tests l y n) h (InNo i) = plain-node sizes x n h.2 i

-- a plain diagram's nodes have plain roots
pub plain-roots : (s : Shown) (r : Entry) (refs : List Entry) → IsReached s r refs → TestsNoPrimed s.sizes (s.tree r) → (k : ℕ) (d : Entry) → k < length refs → IsPlainRoot s (get_or refs k d)
plain-roots s r refs h p k d q = record {
  plain = λ l y n e.
      let here : TestsNoPrimed s.sizes (Tests l y n) = subst (λ t. TestsNoPrimed s.sizes t) e (plain-node s.sizes _ (s.tree r) p (h.nodes (get_or refs k d) (Contains-get_or refs k d q))) in
      here.0;
}

-- what holds of all that was seen, once all was seen
pub all-taken : {X : Type 0} (P : X → Type 0) (xs : List X) (i : ℕ) → length xs ≤ i → All P (take i xs) → All P xs
all-taken P xs i h all = subst (λ ys. All P ys) (take_all i xs h) all
