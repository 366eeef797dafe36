-- The leaf of a diagram at a present state where the next state is the same one, and the last leaf of a diagram.
use Rattle.std.proofs.Common.{◌≡◌, ◌≢◌, inl, inr, ℕ, zero, suc, ◌+◌, ◌-◌, ◌*◌, ◌<◌, ◌==◌, Bool, true, false, cond, List, [], ◌∷◌, length, get_or, slice_get, Some, None, Contains, refl, sym, ◌∙◌, ap, subst, arith}
use Rattle.std.proofs.lemmas.Bool.{cases_lt, ne_eqb}
use Rattle.std.proofs.lemmas.Bool.Decides.{Decides-eqb}
use Rattle.std.proofs.lemmas.List.{get_or_default, set-get_or}
use Rattle.std.proofs.lemmas.Option.{get_or_from_slice_get, slice_get-get_or}
use Rattle.spd_cons_core.specs.declared.key.Entry.{Entry}
use Rattle.spd_model.specs.States.{IsState, states}
use Rattle.spd_model.proofs.CallerLemmas.StateOrder.{IsState-get_or, state_count_some}
use Rattle.spd_nodes.specs.declared.leaf.Leaf.{Leaf}
use Rattle.spd_nodes.specs.declared.leaf.Leaf.TheVariants.{Act}
use Rattle.spd_nodes.specs.Levels.{slots, slot_of, level_at, passes, IsTestOf, IsSlot}
use Rattle.spd_nodes.specs.Shown.{Shown, IsSound, meaning}
use Rattle.spd_nodes.specs.States.{Function, point}
use Rattle.spd_nodes.specs.Trees.{Tests, value_at}
use Rattle.spd_nodes.proofs.CallerLemmas.{IsState-point, passes-in, slot-of}
use Rattle.spd_apply.specs.Leaves.{AreLeavesOf, leaf_before}
use Rattle.spd_residual.specs.inner.Finding.{IsLastLeaf}

-- the value of a point of one state in either slot of a variable is the state's
point-own : (sizes s : List ℕ) (var k : ℕ) → k < 2 → IsState sizes s → var < length sizes → get_or (point s s) (2 * var + k) 0 ≡ get_or s var 0
point-own [] s var k b p h = absurd (omega arith)
point-own (d ∷ ds) [] var k b p h = absurd p
point-own (d ∷ ds) (x ∷ s) zero zero b p h = refl
point-own (d ∷ ds) (x ∷ s) zero (suc zero) b p h = refl
point-own (d ∷ ds) (x ∷ s) zero (suc (suc k)) b p h = absurd (omega arith)
point-own (d ∷ ds) (x ∷ s) (suc var) k b p h =
    let e : 2 * suc var + k ≡ suc (suc (2 * var + k)) = omega arith in
    rw e (point-own ds s var k b p.1 (omega arith))

own-slot : (sizes s : List ℕ) (var : ℕ) (primed : Bool) → IsState sizes s → var < length sizes → get_or (point s s) (slot_of var primed) 0 ≡ get_or s var 0
own-slot sizes s var true p h = point-own sizes s var 0 (omega arith) p h
own-slot sizes s var false p h = point-own sizes s var 1 (omega arith) p h

-- it passes the test of a value where the variable has that value
passes-own : (sizes s : List ℕ) (l var value : ℕ) (primed : Bool) → IsState sizes s → IsTestOf sizes l var primed value → passes (slots sizes) l (point s s) ≡ (get_or s var 0 == value)
passes-own sizes s l var value primed i t =
    let slot : ℕ = slot_of var primed in
    let first : ℕ = level_at sizes var primed 0 in
    let is : IsSlot (slots sizes) slot first (first + (get_or sizes var 0 - 1)) = slot-of sizes var first (first + (get_or sizes var 0 - 1)) primed t.var_in refl refl in
    let back : l - first ≡ value = omega (arith, t.level_is) in
    ap (passes (slots sizes) l) (sym (set-get_or (point s s) slot 0))
    ∙ passes-in (slots sizes) slot first (first + (get_or sizes var 0 - 1)) l (get_or (point s s) slot 0) (point s s) is (omega (arith, t.level_is)) (omega (arith, t.level_is, t.value_in)) (IsState-point sizes s s i i)
    ∙ (λ j. own-slot sizes s var primed i t.var_in j == back j)

module _ (s : Shown) (r y n : Entry) (l : ℕ) (x : List ℕ) (var value : ℕ) (primed : Bool) (is : s.tree r ≡ Tests l (s.tree y) (s.tree n)) (i : IsState s.sizes x) (t : IsTestOf s.sizes l var primed value) where
  at-test : meaning s r x x ≡ cond (get_or x var 0 == value) (meaning s y x x) (meaning s n x x)
  at-test =
      let z : l - 0 ≡ l = omega arith in
      ap (λ u. value_at (slots s.sizes) 0 u (point x x)) is
      ∙ ap (λ k. cond (passes (slots s.sizes) k (point x x)) (meaning s y x x) (meaning s n x x)) z
      ∙ ap (λ b. cond b (meaning s y x x) (meaning s n x x)) (passes-own s.sizes x l var value primed i t)

  pub leaf-yes : get_or x var 0 ≡ value → meaning s r x x ≡ meaning s y x x
  leaf-yes e = at-test ∙ ap (λ b. cond b (meaning s y x x) (meaning s n x x)) ((Decides-eqb (get_or x var 0) value).1 e)

  pub leaf-no : get_or x var 0 ≢ value → meaning s r x x ≡ meaning s n x x
  leaf-no e = at-test ∙ ap (λ b. cond b (meaning s y x x) (meaning s n x x)) (ne_eqb (get_or x var 0) value e)

-- ---- the last leaf

-- there is a state
pub some-state : (s : Shown) → IsSound s → IsState s.sizes (get_or (states s.sizes) 0 [])
some-state s o = IsState-get_or s.sizes 0 (state_count_some s.sizes (λ k d b. (o.layout.values k d b).0))

pub some-leaf : (s : Shown) (r : Entry) (leaves : List Leaf) → IsSound s → AreLeavesOf s.sizes (meaning s r) leaves → 0 < length leaves
some-leaf s r leaves o h =
    let x = get_or (states s.sizes) 0 [] in
    let there : Contains leaves (meaning s r x x) = h.all x x (some-state s o) (some-state s o) in
    omega (arith, there.1)

pub last-is : (sizes : List ℕ) (f : Function) (leaves : List Leaf) (leaf : Leaf) → AreLeavesOf sizes f leaves → 0 < length leaves → get_or leaves (length leaves - 1) leaf ≡ leaf → IsLastLeaf sizes f leaf
last-is sizes f leaves leaf h some is = record {
  taken = h.only leaf (length leaves - 1, omega (arith, some), is);
  last = λ s t i j. (
      let there : Contains leaves (f s t) = h.all s t i j in
      elim (cases_lt there.0 (length leaves - 1)) [
        | inl before ↦
            inr (subst (λ b. leaf_before (f s t) b ≡ true) is
            (subst (λ a. leaf_before a (get_or leaves (length leaves - 1) leaf) ≡ true) (get_or_default leaves there.0 leaf (f s t) there.1 ∙ there.2)
            (h.ascending there.0 (length leaves - 1) leaf before (omega (arith, some)))))
        | inr after ↦
            let same : there.0 ≡ length leaves - 1 = omega (arith, there.1) in
            inl (sym there.2 ∙ get_or_default leaves there.0 (f s t) leaf there.1 ∙ ap (λ k. get_or leaves k leaf) same ∙ is)
      ]);
}

-- what the last entry of a list is, as it is read
pub last-reads : (leaves ls : List Leaf) → ls ≡ leaves → (leaf : Leaf) → Some leaf ≡ slice_get ls (length ls - 1) → get_or leaves (length leaves - 1) leaf ≡ leaf
last-reads leaves ls same leaf read = get_or_from_slice_get leaves (length leaves - 1) leaf leaf (sym (read ∙ ap (λ (z : List Leaf). slice_get z (length z - 1)) same))

pub last-none : (leaves ls : List Leaf) → ls ≡ leaves → 0 < length leaves → None ≡ slice_get ls (length ls - 1) → ⊥
last-none leaves ls same some read =
    absurd (cc (read ∙ ap (λ (z : List Leaf). slice_get z (length z - 1)) same ∙ slice_get-get_or leaves (length leaves - 1) (Act 0) (omega (arith, some))))
