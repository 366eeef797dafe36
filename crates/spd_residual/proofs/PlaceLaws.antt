-- The greatest leaf of the greater gap is the residual, and where that leaf first stands is its place.
use Rattle.std.proofs.Common.{◌≡◌, ◌⊎◌, inl, inr, ℕ, ◌<◌, Bool, true, false, ◌||◌, List, [], All, get_or, find, Option, Some, None, unwrap_or, ℤ, pos, ◌≤ℤ◌, int_lt, refl, sym, ◌∙◌, ap, subst, arith}
use Rattle.std.specs.Prelude.{option_map}
use Rattle.std.specs.Int.{int_max}
use Rattle.std.specs.Ordering.{int_eq}
use Rattle.std.proofs.lemmas.Bool.{false≢true}
use Rattle.std.proofs.lemmas.Int.{ints, int_max_is, fold-int_max_bounds, fold-int_max_reached}
use Rattle.spd_scaled.proofs.CallerLemmas.Ring.{int_eq-true, int_eq-holds, int_lt-true}
use Rattle.spd_model.specs.States.{IsState, states, state_count, table_of}
use Rattle.spd_model.proofs.CallerLemmas.Gaps.{max_cases}
use Rattle.spd_model.proofs.CallerLemmas.StateOrder.{All-table_of_back, IsState-get_or, get_or-table_of, length-table_of}
use Rattle.spd_nodes.specs.declared.leaf.Leaf.{Leaf}
use Rattle.spd_nodes.specs.declared.leaf.Leaf.TheVariants.{Num}
use Rattle.spd_nodes.specs.Shown.{Shown, IsSound, meaning}
use Rattle.spd_nodes.specs.States.{Function}
use Rattle.spd_nodes.specs.Trees.{leaf_eq}
use Rattle.spd_nodes.proofs.CallerLemmas.{leaf_eq-refl}
use Rattle.spd_apply.specs.Leaves.{leaf_before}
use Rattle.spd_weigh.specs.Leaves.{number_of}
use Rattle.spd_backup.specs.declared.backing.Bounds.{Bounds}
use Rattle.spd_frozen.specs.declared.iterate.Residual.{Residual}
use Rattle.spd_policy.specs.declared.chosen.Best.{Best}
use Rattle.spd_policy.specs.Best.{IsNum}
use Rattle.spd_search.specs.declared.found.Found.{Found}
use Rattle.spd_search.specs.Found.{first_found}
use Rattle.spd_search.proofs.CallerLemmas.{found-is, found-none, found-state}
use Rattle.spd_residual.specs.declared.gaps.GapDiagrams.{GapDiagrams}
use Rattle.spd_residual.specs.Residual.{Gaps, greater_gap, residual_over, state_over, place_at_state, IsResidual}
use Rattle.spd_residual.specs.inner.Finding.{TellGaps, IsLastLeaf}

-- ---- one of two gaps

-- where no gap is above r, one of the two is r where the greater one is
has-gap : (r a b : ℤ) → int_max a b ≤ℤ r → (int_eq r a || int_eq r b) ≡ int_eq r (int_max a b)
has-gap r a b most = go (int_eq r (int_max a b)) (int_eq r a) (int_eq r b) refl refl refl
  where
    go : (m x y : Bool) → int_eq r (int_max a b) ≡ m → int_eq r a ≡ x → int_eq r b ≡ y → (x || y) ≡ m
    go true true y em ex ey = refl
    go true false true em ex ey = refl
    go true false false em ex ey =
        let is : r ≡ int_max a b = int_eq-true r (int_max a b) em in
        elim (max_cases (int_lt b a) a b) [
          | inl e ↦ absurd (false≢true (sym ex ∙ int_eq-holds r a (is ∙ e)))
          | inr e ↦ absurd (false≢true (sym ey ∙ int_eq-holds r b (is ∙ e)))
        ]
    go false true y em ex ey =
        let is : r ≡ a = int_eq-true r a ex in
        absurd (false≢true (sym em ∙ int_eq-holds r (int_max a b) (omega (arith, ints, int_max_is a b, most, is))))
    go false false true em ex ey =
        let is : r ≡ b = int_eq-true r b ey in
        absurd (false≢true (sym em ∙ int_eq-holds r (int_max a b) (omega (arith, ints, int_max_is a b, most, is))))
    go false false false em ex ey = refl

before-number : (x y : ℤ) → leaf_before (Num x) (Num y) ≡ true → x ≤ℤ y
before-number x y h = let less = int_lt-true x y h in omega (arith, ints, less)

-- ---- the residual

module _ (s : Shown) (o : IsSound s) (bounds : List Bounds) (best : Best) (d : GapDiagrams) (leaf : Leaf) (last : IsLastLeaf s.sizes (meaning s d.greater) leaf) where
  abbrev f : Function
  f = meaning s d.greater

  positive : All (λ k. 0 < k) s.sizes
  positive = λ k e b. (o.layout.values k e b).0

  -- the last leaf is found
  pub found-some : first_found s.sizes (leaf_eq leaf) f ≡ None → ⊥
  found-some none =
      let t = last.taken in
      false≢true (sym (found-none s.sizes (leaf_eq leaf) f none t.present t.next t.present_in t.next_in) ∙ ap (leaf_eq leaf) t.value ∙ leaf_eq-refl leaf)

  pub found-in : (found : Found) → first_found s.sizes (leaf_eq leaf) f ≡ Some found → IsState s.sizes found.state
  found-in found e = let i = found-is s.sizes (leaf_eq leaf) f found e in i.state

  module _ (g : Gaps) (tell : TellGaps g s bounds best d) where
    leaf-is : leaf ≡ Num (greater_gap g last.taken.present)
    leaf-is = sym last.taken.value ∙ tell.gaps.greater.value.at last.taken.present last.taken.next last.taken.present_in last.taken.next_in

    number-is : number_of leaf ≡ greater_gap g last.taken.present
    number-is = ap number_of leaf-is

    own-number : leaf ≡ Num (number_of leaf)
    own-number = leaf-is ∙ ap Num (sym number-is)

    pub is-number : IsNum leaf
    is-number = subst IsNum (sym leaf-is) tt

    at-most : (x : List ℕ) → IsState s.sizes x → greater_gap g x ≤ℤ number_of leaf
    at-most x i =
        let here : f x x ≡ Num (greater_gap g x) = tell.gaps.greater.value.at x x i i in
        elim (last.last x x i i) [
          | inl e ↦ let is : greater_gap g x ≡ number_of leaf = ap number_of (sym here ∙ e) in omega (arith, ints, is)
          | inr b ↦ before-number (greater_gap g x) (number_of leaf) ((λ n. leaf_before (sym here n) (sym own-number n)) ∙ b)
        ]

    -- it is the residual
    pub number-residual : number_of leaf ≡ residual_over s.sizes g
    number-residual =
        let all : ℤ = residual_over s.sizes g in
        let table : List ℤ = table_of s.sizes (greater_gap g) in
        let low : greater_gap g last.taken.present ≤ℤ all =
        All-table_of_back (λ z. z ≤ℤ all) s.sizes (greater_gap g) (fold-int_max_bounds (pos 0) table all refl).1 last.taken.present last.taken.present_in in
        let some : pos 0 ≤ℤ greater_gap g last.taken.present = tell.some.at last.taken.present last.taken.present_in in
        elim (fold-int_max_reached (pos 0) table all refl) [
          | inl none ↦ omega (arith, ints, none, low, some, number-is)
          | inr there ↦
              let near : there.0 < state_count s.sizes = omega (arith, there.1, length-table_of s.sizes (greater_gap g)) in
              let is : greater_gap g (get_or (states s.sizes) there.0 []) ≡ all = sym (get_or-table_of s.sizes (greater_gap g) there.0 all near) ∙ there.2 in
              let high : greater_gap g (get_or (states s.sizes) there.0 []) ≤ℤ number_of leaf = at-most (get_or (states s.sizes) there.0 []) (IsState-get_or s.sizes there.0 near) in
              omega (arith, ints, is, high, low, number-is)
        ]

    passes-same : (x t : List ℕ) → IsState s.sizes x → IsState s.sizes t → (int_eq (number_of leaf) (g.above x) || int_eq (number_of leaf) (g.below x)) ≡ leaf_eq leaf (f x t)
    passes-same x t i j =
        has-gap (number_of leaf) (g.above x) (g.below x) (at-most x i)
        ∙ (λ n. leaf_eq (sym own-number n) (sym (tell.gaps.greater.value.at x t i j) n))

    -- and where the leaf first stands is its state
    state-found : (found : Found) → first_found s.sizes (leaf_eq leaf) f ≡ Some found → found.state ≡ state_over s.sizes g (number_of leaf)
    state-found found e =
        let is : find (λ x. int_eq (number_of leaf) (g.above x) || int_eq (number_of leaf) (g.below x)) (states s.sizes) ≡ option_map (λ (x : Found). x.state) (first_found s.sizes (leaf_eq leaf) f) =
        found-state s.sizes (leaf_eq leaf) f (λ x. int_eq (number_of leaf) (g.above x) || int_eq (number_of leaf) (g.below x)) positive passes-same in
        sym (ap (λ (z : Option (List ℕ)). unwrap_or z []) (is ∙ ap (option_map (λ (x : Found). x.state)) e))

    pub residual-is : (found : Found) → first_found s.sizes (leaf_eq leaf) f ≡ Some found → (x : Residual) → x.r ≡ number_of leaf → x.at ≡ found.state
        → record { state = found.state; side = x.side; action = x.action } ≡ place_at_state g (number_of leaf) found.state → IsResidual s.sizes g x
    residual-is found e x number at place = record {
      number = number ∙ number-residual;
      place = ap (λ (z : List ℕ). record { state = z; side = x.side; action = x.action }) at ∙ place
          ∙ (λ n. place_at_state g (sym number n) ((state-found found e ∙ ap (state_over s.sizes g) (sym number)) n));
      state = subst (IsState s.sizes) (sym at) (found-in found e);
    }
