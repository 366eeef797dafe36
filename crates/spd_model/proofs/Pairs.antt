-- Pairs of a variable and a value, one more after another, and the state that they describe.
use Rattle.std.proofs.Common.{◌≡◌, ◌≢◌, inl, inr, ℕ, zero, suc, ◌+◌, ◌<◌, ◌≤◌, List, [], ◌∷◌, ◌++◌, length, map, take, get_or, slice_index, slice_index_or, slice_set, replicate, All, Contains, Option, Some, None, refl, ap, sym, ◌∙◌, subst, arith, length-set, length-take}
use Rattle.std.specs.Prelude.{slice_get, AllPairs}
use Rattle.std.proofs.lemmas.List.{get_or-map, get_or-take, get_or-set_same, get_or-set_other, take_more, map_push}
use Rattle.std.proofs.lemmas.Grind.{take-set_at}
use Rattle.std.proofs.lemmas.List.Elements.{All-more, All-contains, Contains-push, Contains-append_left}
use Rattle.std.proofs.lemmas.List.Quantifiers.{all_pairs_push}
use Rattle.std.proofs.lemmas.Option.{slice_get-get_or, slice_get_within, get_or_from_slice_get, none-some, same_Some}
use Rattle.std.proofs.Math.ListN.{length-map}
use Rattle.std.proofs.lemmas.Bool.{cases_eq}
use Rattle.spd_model.specs.Process.{Process}
use Rattle.spd_model.specs.States.{sizes, IsState}
use Rattle.spd_model.specs.declared.states.StateFault.TheVariants.{Missing}
use Rattle.spd_model.specs.StatePairs.{IsKnown, vars_of, Describe, HasFault}
use Rattle.spd_model.specs.Inner.Chosen.{AreChosen}
use Rattle.spd_model.proofs.CallerLemmas.Lists.{Contains-map}
use Rattle.spd_model.proofs.CallerLemmas.StateOrder.{length-sizes}

-- before the first pair no variable has a value
pub none_chosen : (m : Process) → AreChosen m [] (replicate 100 None)
none_chosen m = record {
  places = refl;
  fine = record { known = λ k d near. absurd (omega arith); once = λ i j d before near. absurd (omega arith) };
  given = λ k d near. absurd (omega arith);
  only = λ var value is. absurd (none-some value (sym (always_none 100 var) ∙ is));
}
  where
    always_none : (n var : ℕ) → ◌≡◌ {A = Option ℕ} (slice_index_or (replicate n None) var None) None
    always_none zero var = refl
    always_none (suc n) zero = refl
    always_none (suc n) (suc var) = always_none n var

-- ---- one pair more

module _ (m : Process) (pairs : List (ℕ × ℕ)) (k : ℕ) (near : k < length pairs) (chosen : List (Option ℕ)) (was : AreChosen m (take k pairs) chosen) where
  abbrev pair : ℕ × ℕ
  pair = slice_index_or pairs k (0, 0)

  -- a variable that has a value stands at an earlier pair
  pub stands_before : (value : ℕ) → slice_index_or chosen pair.0 None ≡ Some value → Contains (vars_of (take k pairs)) pair.0
  stands_before value is = Contains-map (λ (p : ℕ × ℕ). p.0) (take k pairs) (pair.0, value) (was.only pair.0 value is)

  module _ (known : IsKnown m pair) (few : pair.0 < 100) (free : slice_index_or chosen pair.0 None ≡ None) where
    abbrev after : List (Option ℕ)
    after = slice_set chosen pair.0 (Some pair.1)

    room : pair.0 < length chosen
    room = omega (arith, was.places)

    -- the variables of earlier pairs differ from this one
    earlier_differ : (p : ℕ × ℕ) → slice_index_or chosen p.0 None ≡ Some p.1 → p.0 ≢ pair.0
    earlier_differ p given same = none-some p.1 (sym free ∙ ap (λ (v : ℕ). slice_index_or chosen v None) (sym same) ∙ given)

    earlier_kept : (p : ℕ × ℕ) → slice_index_or chosen p.0 None ≡ Some p.1 → slice_index_or after p.0 None ≡ Some p.1
    earlier_kept p given = get_or-set_other chosen pair.0 p.0 (Some pair.1) None (earlier_differ p given) ∙ given

    grown : take (k + 1) pairs ≡ take k pairs ++ pair ∷ []
    grown = take_more pairs k (0, 0) near

    only_more : (var value : ℕ) → slice_index_or after var None ≡ Some value → Contains (take (k + 1) pairs) (var, value)
    only_more var value is =
        subst (λ (l : List (ℕ × ℕ)). Contains l (var, value)) (sym grown)
        (elim (cases_eq var pair.0) [
          | inl here ↦
              let own : pair.1 ≡ value = same_Some pair.1 value (sym (get_or-set_same chosen pair.0 (Some pair.1) None room)
              ∙ ap (λ (v : ℕ). slice_index_or after v None) (sym here) ∙ is) in
              subst (λ (p : ℕ × ℕ). Contains (take k pairs ++ pair ∷ []) p) (λ i. (sym here i, own i)) (Contains-push (take k pairs) pair)
          | inr other ↦ Contains-append_left (take k pairs) (pair ∷ []) (var, value)
              (was.only var value (sym (get_or-set_other chosen pair.0 var (Some pair.1) None other) ∙ is))
        ])

    pub one_more : AreChosen m (take (k + 1) pairs) after
    one_more = record {
      fine = record {
        known = All-more (IsKnown m) pairs k (0, 0) near was.fine.known known;
        once = subst (AllPairs (λ p q. p.0 ≢ q.0)) (sym grown)
            (all_pairs_push (λ p q. p.0 ≢ q.0) (take k pairs) pair was.fine.once (λ j d below. earlier_differ (get_or (take k pairs) j d) (was.given j d below)));
      };
      places = length-set chosen pair.0 (Some pair.1) ∙ was.places;
      given = All-more (λ p. slice_index_or after p.0 None ≡ Some p.1) pairs k (0, 0) near
          (λ j d below. earlier_kept (get_or (take k pairs) j d) (was.given j d below))
          (get_or-set_same chosen pair.0 (Some pair.1) None room);
      only = only_more;
    }

-- ---- the state of the values that are chosen

pub gather_more : (values : List ℕ) (chosen : List (Option ℕ)) (k v : ℕ) → k < length chosen → k < length values → map Some (take k values) ≡ take k chosen
    → slice_index_or chosen k None ≡ Some v → map Some (take (k + 1) (slice_set values k v)) ≡ take (k + 1) chosen
gather_more values chosen k v near room so_far is =
    ap (map Some) (take-set_at values k (k + 1) v refl room) ∙ map_push Some (take k values) v
    ∙ (λ i. so_far i ++ sym is i ∷ []) ∙ sym (take_more chosen k None near)

some_values : (values : List ℕ) → All (λ (value : Option ℕ). value ≢ None) (map Some values)
some_values values = λ k d near is.
    let below : k < length values = omega (arith, length-map values (λ (v : ℕ). Some v)) in
    none-some (get_or values k 0) (sym is ∙ get_or-map Some values k 0 d below)

pub first_none : (values : List ℕ) (chosen : List (Option ℕ)) (k : ℕ) → k < length chosen → map Some (take k values) ≡ take k chosen
    → slice_index_or chosen k None ≡ None → (slice_get chosen k ≡ Some None) × All (λ (value : Option ℕ). value ≢ None) (take k chosen)
first_none values chosen k near so_far is =
    (slice_get-get_or chosen k None near ∙ ap Some is, subst (All (λ (value : Option ℕ). value ≢ None)) so_far (some_values (take k values)))

-- a list with a value below each size
state_by : (sizes s : List ℕ) → length s ≡ length sizes → ((var : ℕ) → var < length sizes → slice_index s var < slice_index sizes var) → IsState sizes s
state_by [] [] count below = tt
state_by [] (v ∷ s) count below = absurd (omega arith)
state_by (size ∷ sizes) [] count below = absurd (omega arith)
state_by (size ∷ sizes) (v ∷ s) count below = (below 0 (omega arith), state_by sizes s (omega arith) (λ var near. below (suc var) (omega arith)))

module _ (m : Process) (pairs : List (ℕ × ℕ)) (chosen : List (Option ℕ)) (n : ℕ) (count : n ≡ length m.vars) (few : n ≤ 100) (was : AreChosen m pairs chosen) where
  -- a variable that has a value has a pair
  pub has_pair : (var value : ℕ) → slice_index_or chosen var None ≡ Some value → Contains (vars_of pairs) var
  has_pair var value is = Contains-map (λ (p : ℕ × ℕ). p.0) pairs (var, value) (was.only var value is)

  -- and where it has none, it has none
  pub has_no_pair : (var : ℕ) → slice_index_or chosen var None ≡ None → Contains (vars_of pairs) var → ⊥
  has_no_pair var is there =
      let at : there.0 < length pairs = omega (arith, there.1, length-map pairs (λ (p : ℕ × ℕ). p.0)) in
      let p = get_or pairs there.0 (var, 0) in
      let same : p.0 ≡ var = sym (get_or-map (λ (p : ℕ × ℕ). p.0) pairs there.0 (var, 0) var at) ∙ there.2 in
      none-some p.1 (sym is ∙ ap (λ (v : ℕ). slice_index_or chosen v None) (sym same) ∙ was.given there.0 (var, 0) at)

  module _ (s : List ℕ) (all : map Some s ≡ take n chosen) where
    length_is : length s ≡ length (sizes m)
    length_is = omega (arith, sym (length-map s (λ (v : ℕ). Some v)) ∙ ap length all, length_taken, length-sizes m)
      where
        length_taken : length (take n chosen) ≡ n
        length_taken = omega (arith, length-take n chosen, was.places)

    value_is : (var : ℕ) → var < length m.vars → slice_index_or chosen var None ≡ Some (slice_index s var)
    value_is var near =
        let below : var < length s = omega (arith, length_is, length-sizes m) in
        sym (get_or-take n chosen var None (omega (arith, count))) ∙ ap (λ (l : List (Option ℕ)). slice_index_or l var None) (sym all)
        ∙ get_or-map Some s var 0 None below

    pub describes : Describe m pairs s
    describes = record {
      fine = was.fine;
      state = state_by (sizes m) s length_is (λ var near.
          let below : var < length m.vars = omega (arith, length-sizes m) in
          (All-contains (IsKnown m) pairs (var, slice_index s var) was.fine.known (was.only var (slice_index s var) (value_is var below))).value);
      values = λ k d near.
          let p = get_or pairs k d in
          same_Some (slice_index s p.0) p.1 (sym (value_is p.0 (was.fine.known k d near).var) ∙ was.given k d near);
      all = λ var near. has_pair var (slice_index s var) (value_is var near);
    }

  -- the first variable without a value has no pair
  pub missing_is : (var : ℕ) → slice_get (take n chosen) var ≡ Some None → All (λ value. value ≢ None) (take var (take n chosen)) → HasFault m pairs (Missing var)
  missing_is var none before =
      let near : var < n = omega (arith, slice_get_within (take n chosen) var None none, length-take n chosen) in
      let here : slice_index_or chosen var None ≡ None =
      sym (get_or-take n chosen var None near) ∙ get_or_from_slice_get (take n chosen) var None None none in (
        was.fine,
        omega (arith, count),
        has_no_pair var here,
        λ v below.
            let read = get_or-take n chosen v None (omega arith) in
            let within : v < length (take var (take n chosen)) = omega (arith, length-take var (take n chosen), length-take n chosen, was.places) in
            let some = before v None within in
            by_value v (λ e. some (get_or-take var (take n chosen) v None below ∙ read ∙ e)) (slice_index_or chosen v None) refl,
      )
    where
      by_value : (v : ℕ) → (slice_index_or chosen v None ≡ None → ⊥) → (o : Option ℕ) → slice_index_or chosen v None ≡ o → Contains (vars_of pairs) v
      by_value v some None is = absurd (some is)
      by_value v some (Some value) is = has_pair v value is
