-- What the lists of axes, reaches and kept probabilities tell of a model.
use Rattle.std.proofs.Common.{◌≡◌, ◌∙◌, ℕ, suc, ◌<◌, ◌≤◌, ◌++◌, Bool, true, false, nat_le, if◌then◌else◌, List, [], ◌∷◌, length, map, take, get_or, slice_get, slice_index, Option, Some, None, Contains, ℤ, pos, refl, ap, sym, subst, arith}
use Rattle.std.proofs.lemmas.Bool.Decides.{nat_tests}
use Rattle.std.proofs.lemmas.List.{get_or-map, get_or_default}
use Rattle.std.proofs.lemmas.List.Elements.{All-contains}
use Rattle.std.proofs.lemmas.Option.{slice_get-get_or, same_Some}
use Rattle.std.proofs.Math.ListN.{length-map}
use Rattle.spd_model.specs.declared.tree.Tree.{Tree, Leaf}
use Rattle.spd_model.specs.declared.process.Action.{Action}
use Rattle.spd_model.specs.Process.{Process}
use Rattle.spd_model.specs.Trees.{read_in, value_of}
use Rattle.spd_model.specs.Lawful.{IsLawful, IsAction}
use Rattle.spd_model.specs.Numbers.{numbers_below}
use Rattle.spd_model.specs.States.{sizes, states, IsState}
use Rattle.spd_model.specs.Chances.{sizes_after}
use Rattle.spd_model.proofs.CallerLemmas.Lists.{length-numbers_below, get_or-numbers_below}
use Rattle.spd_model.proofs.CallerLemmas.StateOrder.{length-IsState, length-sizes}
use Rattle.spd_plain.specs.declared.space.Axis.{Axis}
use Rattle.spd_plain.specs.declared.reach.Reach.{Reach}
use Rattle.spd_plain.specs.declared.reach.Reach.TheVariants.{Own, Later}
use Rattle.spd_plain.specs.declared.space.Space.{Space}
use Rattle.spd_plain.specs.inner.Axes.{axis_of, IsAxis, IsSpace}
use Rattle.spd_plain.specs.inner.Reach.{latest, reach_at, reaches_after}
use Rattle.spd_plain.specs.inner.Chances.{chance_of, values_of, HoldFor}
use Rattle.spd_plain.specs.inner.Outlooks.{keeps, kept_of}
use Rattle.spd_plain.proofs.Tables.{few_from}
use Rattle.spd_plain.proofs.TableValues.{value-own}

-- an entry of a list that tells f of the numbers below n
pub entry_below : {X : Type 0} (f : ℕ → X) (n k : ℕ) (x : X) (all : List X) → all ≡ map f (numbers_below n) → k < n → x ≡ get_or all k x → x ≡ f k
entry_below f n k x all are near is =
    is ∙ ap (λ l. get_or l k x) are ∙ get_or-map f (numbers_below n) k 0 x (omega (arith, length-numbers_below n)) ∙ ap f (get_or-numbers_below n k near)

pub length-below : {X : Type 0} (f : ℕ → X) (n : ℕ) (all : List X) → all ≡ map f (numbers_below n) → length all ≡ n
length-below f n all are = ap length are ∙ length-map (numbers_below n) f ∙ length-numbers_below n

module _ (m : Process) (law : IsLawful m) (a : Action) (offered : Contains m.actions a) (i : ℕ) (near : i < length m.vars) where
  action : IsAction m a
  action = All-contains (IsAction m) m.actions a law.actions offered

  found : slice_get a.tables i ≡ Some (get_or a.tables i (Leaf (pos 0)))
  found = slice_get-get_or a.tables i (Leaf (pos 0)) (omega (arith, action.one_each))

  low_test : (b : Bool) → (if b then Own else Later) ≡ Own → b ≡ true
  low_test true h = refl
  low_test false h = absurd (cc)

  at_most : (x y : ℕ) → nat_le x y ≡ true → x ≤ y
  at_most x y h = grind (arith, nat_tests)

  own_latest : reach_at m a i ≡ Own → read_in latest m (get_or a.tables i (Leaf (pos 0))) ≤ suc i
  own_latest own =
      let reach : Option Tree → Reach = λ o. elim o [ None ↦ Later | Some t ↦ if nat_le (read_in latest m t) (suc i) then Own else Later ] in
      at_most _ _ (low_test _ (sym (ap reach found) ∙ own))

  -- where a table's reach is its own variable, its probabilities are the same for all next values of the later ones
  pub own_same : reach_at m a i ≡ Own → (s : List ℕ) → IsState (sizes m) s → (v : ℕ) (first rest : List ℕ) → chance_of m a s i (v ∷ first) ≡ chance_of m a s i (v ∷ rest)
  own_same own s state v first rest =
      let value : List ℕ → Option Tree → ℤ = λ u o. elim o [ None ↦ pos 0 | Some t ↦ value_of m t s (take i s ++ u) ] in
      let read = λ (u : List ℕ). ap (value u) found in
      read (v ∷ first)
      ∙ value-own m i (get_or a.tables i (Leaf (pos 0))) (action.tables i (Leaf (pos 0)) near).table s (omega (arith, length-IsState (sizes m) s state, length-sizes m)) (own_latest own) v first rest
      ∙ sym (read (v ∷ rest))

  -- the probabilities for the first values of the later variables hold for all of theirs
  pub values_hold : reach_at m a i ≡ Own → (s : List ℕ) → IsState (sizes m) s → HoldFor m a s i (values_of m a s i)
  values_hold own s state =
      let f : ℕ → ℤ = λ v. chance_of m a s i (v ∷ get_or (states (sizes_after m i)) 0 []) in record {
        count = length-below f (slice_index (sizes m) i) (values_of m a s i) refl;
        each = λ v rest below later.
            get_or-map f (numbers_below (slice_index (sizes m) i)) v 0 (pos 0) (omega (arith, length-numbers_below (slice_index (sizes m) i)))
            ∙ ap f (get_or-numbers_below (slice_index (sizes m) i) v below)
            ∙ own_same own s state v (get_or (states (sizes_after m i)) 0 []) rest;
      }

-- what is kept of a variable's probabilities
pub kept_at : (m : Process) (a : Action) (s : List ℕ) (i : ℕ) → i < length m.vars → (x : List ℤ) → slice_get (kept_of m s a) i ≡ Some x → x ≡ values_of m a s i
kept_at m a s i near x = by (keeps m)
  where
    all : List (List ℤ)
    all = map (values_of m a s) (numbers_below (length m.vars))

    inside : i < length all
    inside = omega (arith, length-below (values_of m a s) (length m.vars) all refl)

    by : (b : Bool) → slice_get (if b then all else []) i ≡ Some x → x ≡ values_of m a s i
    by true is = entry_below (values_of m a s) (length m.vars) i x all refl near (same_Some x (get_or all i x) (sym is ∙ slice_get-get_or all i x inside))
    by false is = absurd (cc)

-- the list of the axes, and the axis that stands at k
module _ {m : Process} {space : Space} (is : IsSpace m space) {axes : List Axis} (are : axes ≡ space.axes) where
  pub length-axes : length axes ≡ length m.vars
  length-axes = length-below (axis_of m) (length m.vars) axes (are ∙ is.axes)

  module _ (k : ℕ) (test : k < length axes) (d : Axis) where
    axis_is : get_or axes k d ≡ axis_of m k
    axis_is = entry_below (axis_of m) (length m.vars) k (get_or axes k d) axes (are ∙ is.axes) (omega (arith, length-axes)) (get_or_default axes k d (get_or axes k d) test)

    pub var_is : (get_or axes k d).var ≡ k
    var_is = ap (λ (x : Axis). x.var) axis_is

    pub is_axis : IsAxis m (get_or axes k d)
    is_axis =
        let near : k < length m.vars = omega (arith, length-axes) in
        subst (IsAxis m) (sym axis_is) (record { law = is.law; near = near; is = refl; few = omega (arith, few_from m k near is.law, is.few) })

-- the list of reaches, and the reach of a variable's table
module _ (m : Process) (a : Action) {reaches : List Reach} (are : reaches ≡ reaches_after m a) where
  pub length-reaches : length reaches ≡ length m.vars
  length-reaches = length-below (reach_at m a) (length m.vars) reaches are

  pub reach_read : (k : ℕ) (d : Reach) → k < length m.vars → get_or reaches k d ≡ reach_at m a k
  reach_read k d near = entry_below (reach_at m a) (length m.vars) k (get_or reaches k d) reaches are near (get_or_default reaches k d (get_or reaches k d) (omega (arith, length-reaches)))
