-- What the tables of a result come to as diagrams, and that they fit their model.
use Rattle.std.proofs.Common.{◌≡◌, ℕ, ◌<◌, Bool, true, false, cond, List, length, map, slice_index, All, ℤ, pos, sym, ap, subst, ◌∙◌, arith}
use Rattle.std.proofs.lemmas.List.{get_or-map}
use Rattle.std.proofs.lemmas.Option.{slice_get_within}
use Rattle.std.proofs.Math.ListN.{length-map}
use Rattle.std.specs.Ordering.{int_eq}
use Rattle.spd_scaled.specs.Scaled.{IsWithin}
use Rattle.spd_model.specs.declared.Side.TheVariants.{Above, Below}
use Rattle.spd_model.specs.Process.{Process}
use Rattle.spd_model.specs.Lawful.{IsLawful}
use Rattle.spd_model.specs.States.{sizes, at, rank, state_count, IsState, table_of}
use Rattle.spd_model.specs.Backup.{best_high, high_of, highest_of, policy_of}
use Rattle.spd_model.specs.Turns.{Place, place_of, gap_above, state_of_residual, value_limit}
use Rattle.spd_model.proofs.CallerLemmas.Gaps.{policy_near}
use Rattle.spd_model.proofs.CallerLemmas.Greatest.{first_place_reads, greatest_reached}
use Rattle.spd_model.proofs.CallerLemmas.StateOrder.{All-table_of, rank_below, sizes_some}
use Rattle.spd_nodes.specs.declared.leaf.Leaf.TheVariants.{Num, Act}
use Rattle.spd_plain.specs.declared.Plain.{Plain}
use Rattle.spd_plain.specs.Plain.{IsShaped, told_of}
use Rattle.spd_frozen.specs.declared.iterate.Iterate.{Iterate}
use Rattle.spd_frozen.specs.Frozen.{entry_at, frozen_of}
use Rattle.spd_frozen.specs.Fits.{FitsSizes, HasLeaves, IsValue, IsChoice, FitsModel}
use Rattle.spd_frozen.specs.Told.{told, with_leaf, number_of, action_of}
use Rattle.spd_frozen.proofs.CallerLemmas.{numbers-told, actions-told, frozen_of-agree, entry_at-numbers, frozen-leaves}

-- a table of actions
entry_at-actions : (sizes : List ℕ) (table : List ℕ) → length table ≡ state_count sizes → (s : List ℕ) → IsState sizes s
    → entry_at sizes (map Act table) s ≡ Act (slice_index table (rank sizes s))
entry_at-actions sizes table whole s is = get_or-map Act table (rank sizes s) 0 (Num (pos 0)) (omega (arith, rank_below sizes s is))

module _ (m : Process) (p : Plain) (x : Iterate) (shaped : IsShaped m p)
    (value : x.value ≡ frozen_of (sizes m) (entry_at (sizes m) (map Num p.value)))
    (policy : x.policy ≡ frozen_of (sizes m) (entry_at (sizes m) (map Act p.policy))) where
  value_list : x.value ≡ frozen_of (sizes m) (λ s. Num (at (sizes m) p.value s))
  value_list = value ∙ frozen_of-agree (sizes m) (entry_at (sizes m) (map Num p.value)) (λ s. Num (at (sizes m) p.value s)) (λ s is. entry_at-numbers (sizes m) p.value s)

  policy_list : x.policy ≡ frozen_of (sizes m) (λ s. Act (slice_index p.policy (rank (sizes m) s)))
  policy_list =
      policy ∙ frozen_of-agree (sizes m) (entry_at (sizes m) (map Act p.policy)) (λ s. Act (slice_index p.policy (rank (sizes m) s)))
      (entry_at-actions (sizes m) p.policy shaped.policy)

  pub iterate_told : x.turn ≡ p.turn → x.residual.r ≡ p.residual → x.residual.at ≡ p.place → x.residual.side ≡ p.side → x.residual.action ≡ p.action
      → x.error ≡ p.error → told x ≡ told_of m p
  iterate_told turn residual place side action error =
      let values = ap (map (with_leaf number_of)) value_list ∙ numbers-told (sizes m) (at (sizes m) p.value) in
      let choices = ap (map (with_leaf action_of)) policy_list ∙ actions-told (sizes m) (λ s. slice_index p.policy (rank (sizes m) s)) in
      λ i. record {
        turn = turn i;
        residual = residual i;
        place = record { state = place i; side = side i; action = action i };
        error = error i;
        value = values i;
        policy = choices i;
      }

  pub iterate_fits : IsLawful m → FitsSizes (sizes m) x.value → FitsSizes (sizes m) x.policy → All (IsWithin (pos value_limit)) p.value
      → All (λ a. a < length m.actions) p.policy → IsState (sizes m) x.residual.at → x.residual.action < length m.actions → FitsModel m x
  iterate_fits law fits_value fits_policy values choices state action =
      let some = sizes_some m law in
      record {
        value = fits_value;
        policy = fits_policy;
        values = subst (HasLeaves IsValue) (sym value_list)
            (frozen-leaves (sizes m) IsValue (λ s. Num (at (sizes m) p.value s)) some
            (λ s is. values (rank (sizes m) s) (pos 0) (omega (arith, shaped.value, rank_below (sizes m) s is))));
        choices = subst (HasLeaves (IsChoice (length m.actions))) (sym policy_list)
            (frozen-leaves (sizes m) (IsChoice (length m.actions)) (λ s. Act (slice_index p.policy (rank (sizes m) s))) some
            (λ s is. choices (rank (sizes m) s) 0 (omega (arith, shaped.policy, rank_below (sizes m) s is))));
        state = state;
        action = action;
      }

-- ---- the actions of a result are of the process

module _ (m : Process) (w : List ℕ → ℤ) (some : 0 < length m.actions) where
  pub policy_within : All (λ a. a < length m.actions) (table_of (sizes m) (policy_of m w))
  policy_within = All-table_of (λ a. a < length m.actions) (sizes m) (policy_of m w) (λ s is. policy_near m w some s)

  highest_near : (s : List ℕ) → highest_of m w s < length m.actions
  highest_near s =
      let highs = map (λ a. high_of m w a s) m.actions in
      let count : length highs ≡ length m.actions = length-map m.actions (λ a. high_of m w a s) in
      let reads = first_place_reads (best_high m w s) highs (greatest_reached highs (omega (arith, count))) in
      omega (arith, count, slice_get_within highs (highest_of m w s) (best_high m w s) reads)

  -- the action of a place, on whichever side
  by_side : (above below : Place) (b : Bool) → above.action < length m.actions → below.action < length m.actions → (cond b above below).action < length m.actions
  by_side above below true h k = h
  by_side above below false h k = k

  pub place_within : (r : ℤ) → (place_of m w r).action < length m.actions
  place_within r =
      let s = state_of_residual m w r in
      by_side (record { state = s; side = Above; action = highest_of m w s }) (record { state = s; side = Below; action = policy_of m w s })
      (int_eq r (gap_above m w s)) (highest_near s) (policy_near m w some s)
