-- A merge of a process's greatest bounds gives the value of the next turn.
use Rattle.std.proofs.Common.{◌≡◌, ◌<◌, ℕ, ℤ, pos, List, map, length, refl, sym, ap, ◌∙◌, subst, arith}
use Rattle.std.specs.Prelude.{Contains}
use Rattle.std.proofs.lemmas.List.{get_or-map}
use Rattle.std.proofs.lemmas.List.Elements.{All-contains}
use Rattle.spd_model.specs.Process.{Process}
use Rattle.spd_model.specs.States.{IsState, sizes, states, table_of, rank, at}
use Rattle.spd_model.specs.Ranges.{Range, groups_of, in_order, value_in}
use Rattle.spd_model.specs.Turns.{ranges_of}
use Rattle.spd_model.proofs.CallerLemmas.Lists.{Contains-map}
use Rattle.spd_model.proofs.CallerLemmas.StateOrder.{All-table_of, get_or-states, get_or-table_of, length-table_of, rank_below}
use Rattle.spd_cons_core.specs.declared.key.Entry.{Entry}
use Rattle.spd_nodes.specs.declared.leaf.Leaf.TheVariants.{Num}
use Rattle.spd_nodes.specs.declared.forest.StoreFault.{StoreFault}
use Rattle.spd_nodes.specs.States.{Function, Agree}
use Rattle.spd_nodes.specs.Shown.{Shown, IsSound, meaning}
use Rattle.std.proofs.Common.{Result}
use Rattle.spd_ranges.specs.declared.merging.Ranged.{Ranged}
use Rattle.spd_ranges.specs.Merging.{HaveBest, Merges, MergesTurn, group_ranges, group_values, groups_over, pair_at, paired, range_at, range_in, ranges_over, turn_pairs, turn_range, turn_ranges, turn_values}
use Rattle.spd_ranges.proofs.OrderLaws.{in_order-same}
use Rattle.spd_ranges.proofs.LeafLaws.{Contains-state, over-each, over-has}
use Rattle.spd_ranges.proofs.MergeLaws.{ranged-agrees}

-- what a map of a table has at a state
at-map : {X : Type 0} (d : X) (size : List ℕ) (f : List ℕ → X) (h : X → ℤ) (s : List ℕ) → IsState size s → at size (map h (table_of size f)) s ≡ h (f s)
at-map d size f h s i =
    let near : rank size s < length (table_of size f) = omega (arith, rank_below size s i, length-table_of size f) in
    get_or-map h (table_of size f) (rank size s) d (pos 0) near
    ∙ ap h (get_or-table_of size f (rank size s) d (rank_below size s i) ∙ ap f (get_or-states size s i))

module _ (m : Process) (w : List ℤ) (span : ℤ) (s : Shown) (low high : Entry) (best : HaveBest m w s low high) where
  abbrev pairs : Function
  pairs = paired (meaning s low) (meaning s high)

  own : (x : List ℕ) → IsState s.sizes x → IsState (sizes m) x
  own x i = subst (λ (z : List ℕ). IsState z x) best.layout i

  pairs-agree : Agree s.sizes pairs (turn_pairs m w)
  pairs-agree = record { at = λ x y i j. rw (best.low.at x y i j, best.high.at x y i j) refl }

  abbrev all : List Range
  all = ranges_of m (at (sizes m) w)

  same-groups : groups_over s.sizes span pairs ≡ groups_of span (in_order all)
  same-groups =
      ap (groups_of span) (in_order-same (ranges_over s.sizes pairs) all
      (over-each (λ p. Contains all p) s.sizes pairs (λ x y i j. subst (λ a. Contains all (range_at a)) (sym (pairs-agree.at x y i j)) (Contains-map (turn_range m w) (states (sizes m)) x (Contains-state (sizes m) x (own x i)))))
      (λ p n. All-contains (λ q. Contains (ranges_over s.sizes pairs) q) all p (All-table_of (λ q. Contains (ranges_over s.sizes pairs) q) (sizes m) (turn_range m w) each) n))
    where
      each : (x : List ℕ) → IsState (sizes m) x → Contains (ranges_over s.sizes pairs) (turn_range m w x)
      each x i =
          let here : IsState s.sizes x = subst (λ (z : List ℕ). IsState z x) (sym best.layout) i in
          subst (λ a. Contains (ranges_over s.sizes pairs) (range_at a)) (pairs-agree.at x x here here) (over-has s.sizes pairs x x here here)

  ranges-agree : Agree s.sizes (group_ranges s.sizes span pairs) (turn_ranges m span w)
  ranges-agree = record {
    at = λ x y i j.
        ap (λ gs. pair_at (range_in gs (range_at (pairs x y)))) same-groups
        ∙ ap (λ a. pair_at (range_in (groups_of span (in_order all)) (range_at a))) (pairs-agree.at x y i j);
  }

  values-agree : Agree s.sizes (group_values s.sizes span pairs) (turn_values m span w)
  values-agree = record {
    at = λ x y i j.
        ap (λ gs. Num (value_in gs (range_at (pairs x y)))) same-groups
        ∙ ap (λ a. Num (value_in (groups_of span (in_order all)) (range_at a))) (pairs-agree.at x y i j)
        ∙ ap Num (sym (at-map (turn_range m w x) (sizes m) (turn_range m w) (value_in (groups_of span (in_order all))) x (own x i)));
  }

  pub merges-turn : (t : Shown) → IsSound s → (result : Result Ranged StoreFault) → Merges s t span (meaning s low) (meaning s high) result → MergesTurn m span w s t result
  merges-turn t o result h =
      ranged-agrees s t o pairs (group_ranges s.sizes span pairs) (group_values s.sizes span pairs) (turn_pairs m w) (turn_ranges m span w) (turn_values m span w)
      pairs-agree ranges-agree values-agree result h
