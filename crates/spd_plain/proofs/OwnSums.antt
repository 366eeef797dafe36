-- The sums of a variable whose table follows its own next value alone: they are all the same.
use Rattle.std.proofs.Common.{◌≡◌, ℕ, ◌<◌, ◌≤◌, false, not, List, [], length, map, take, find, get_or, slice_index, Contains, None, sym, subst, arith}
use Rattle.std.specs.Ordering.{int_eq}
use Rattle.std.proofs.lemmas.List.{length-take}
use Rattle.std.proofs.lemmas.List.Elements.{All-map}
use Rattle.spd_model.specs.declared.process.Action.{Action}
use Rattle.spd_model.specs.Process.{Process}
use Rattle.spd_model.specs.States.{sizes, states, IsState}
use Rattle.spd_model.specs.Chances.{Sum, one, sizes_after, probability, sum_of}
use Rattle.spd_model.proofs.CallerLemmas.Finds.{find_none, none_passes, find_map_none}
use Rattle.spd_model.proofs.CallerLemmas.Lists.{All-map_back}
use Rattle.spd_model.proofs.CallerLemmas.StateOrder.{length-states}
use Rattle.spd_model.proofs.CallerLemmas.Sums.{sum_below-cong}
use Rattle.spd_plain.specs.declared.reach.Reach.{Reach}
use Rattle.spd_plain.specs.declared.reach.Reach.TheVariants.{Own, Later}
use Rattle.spd_plain.specs.declared.space.Axis.{Axis}
use Rattle.spd_plain.specs.inner.Axes.{IsAxis}
use Rattle.spd_plain.specs.inner.Reach.{reach_at, places_of}
use Rattle.spd_plain.proofs.Tables.{after_is, after_some}
use Rattle.spd_plain.proofs.Known.{own_same}

pub place_below : (m : Process) (axis : Axis) → IsAxis m axis → (reach : Reach) (k : ℕ) → k < places_of reach axis.after → k < axis.after
place_below m axis is Own k h = let some = after_some m axis is in omega (arith, some)
place_below m axis is Later k h = h

module _ (m : Process) (a : Action) (offered : Contains m.actions a) (s : List ℕ) (state : IsState (sizes m) s) (axis : Axis) (is : IsAxis m axis) (number : ℕ) where
  same_sum : reach_at m a axis.var ≡ Own → (first rest : List ℕ) → sum_of m a s axis.var first ≡ sum_of m a s axis.var rest
  same_sum own first rest =
      sum_below-cong (slice_index (sizes m) axis.var) (λ v. probability m a s axis.var v first) (λ v. probability m a s axis.var v rest)
      (λ v below. own_same m is.law a offered axis.var is.near own s state v first rest)

  -- where none of the first sums is wrong, none is
  pub own_none : reach_at m a axis.var ≡ Own → (k : ℕ) → 0 < k
      → find (λ (x : Sum). not (int_eq x.sum one)) (map (λ rest. record { action = number; var = axis.var; state = s; sum = sum_of m a s axis.var rest }) (take k (states (sizes_after m axis.var)))) ≡ None
      → find (λ (x : Sum). not (int_eq x.sum one)) (map (λ rest. record { action = number; var = axis.var; state = s; sum = sum_of m a s axis.var rest }) (states (sizes_after m axis.var))) ≡ None
  own_none own k some none =
      let xs = states (sizes_after m axis.var) in
      let f : List ℕ → Sum = λ rest. record { action = number; var = axis.var; state = s; sum = sum_of m a s axis.var rest } in
      let P : Sum → Type 0 = λ x. not (int_eq x.sum one) ≡ false in
      let enough : 0 < length (states (sizes_after m axis.var)) = omega (arith, length-states (sizes_after m axis.var), after_some m axis is, after_is m axis is) in
      let first : not (int_eq (sum_of m a s axis.var (get_or (take k (states (sizes_after m axis.var))) 0 [])) one) ≡ false =
      All-map_back P f (take k xs) (find_none (λ (x : Sum). not (int_eq x.sum one)) (map f (take k xs)) none) 0 [] (omega (arith, length-take k (states (sizes_after m axis.var)), enough)) in
      none_passes (λ (x : Sum). not (int_eq x.sum one)) (map f xs)
      (All-map P f xs (λ j d near. subst (λ x. not (int_eq x one) ≡ false) (same_sum own (get_or (take k xs) 0 []) (get_or xs j d)) first))

  pub places_none : (reach : Reach) → reach ≡ reach_at m a axis.var → (k : ℕ) → places_of reach axis.after ≤ k
      → find (λ (x : Sum). not (int_eq x.sum one)) (map (λ rest. record { action = number; var = axis.var; state = s; sum = sum_of m a s axis.var rest }) (take k (states (sizes_after m axis.var)))) ≡ None
      → find (λ (x : Sum). not (int_eq x.sum one)) (map (λ rest. record { action = number; var = axis.var; state = s; sum = sum_of m a s axis.var rest }) (states (sizes_after m axis.var))) ≡ None
  places_none Own own k all none = own_none (sym own) k (omega arith) none
  places_none Later later k all none =
      let f : List ℕ → Sum = λ rest. record { action = number; var = axis.var; state = s; sum = sum_of m a s axis.var rest } in
      find_map_none (λ (x : Sum). not (int_eq x.sum one)) f (states (sizes_after m axis.var)) k (omega (arith, length-states (sizes_after m axis.var), after_is m axis is)) none
