-- What a merge makes.
use Rattle.std.proofs.Common.{◌≡◌, inl, inr, ℕ, true, ℤ, pos, List, [], ◌∷◌, refl, sym, ap, ◌∙◌, subst, true≢false, Result, Ok, Err, IfOk, IfErr}
use Rattle.spd_cons_core.specs.declared.key.Entry.{Entry}
use Rattle.spd_nodes.specs.declared.leaf.Leaf.{Leaf}
use Rattle.spd_nodes.specs.declared.leaf.Leaf.TheVariants.{Num, Pair, Act}
use Rattle.spd_nodes.specs.declared.forest.StoreFault.{StoreFault}
use Rattle.spd_nodes.specs.States.{Function, Agree, test_tree, test_trees}
use Rattle.spd_nodes.specs.Shown.{Shown, IsSound, IsWhole, StandsFor, MakesOnly, MakesDiagram, Faults, FaultsAt, meaning}
use Rattle.spd_nodes.specs.Made.{HasMade}
use Rattle.spd_model.specs.States.{IsState}
use Rattle.spd_nodes.proofs.CallerLemmas.{Among, IsIn, diagram-agrees, grows-then, has-made, has-none, has-then, has-wider, makes_among-known, part-failed, positive-slots, stands-for, stands-grows, test_tree-agree, within-in}
use Rattle.spd_apply.specs.Operations.{pair_of}
use Rattle.spd_apply.specs.Outcome.{FitEverywhere, FitsEverywhere, map_each}
use Rattle.spd_ranges.specs.declared.groups.Group.{Group}
use Rattle.spd_ranges.specs.declared.merging.Ranged.{Ranged}
use Rattle.spd_ranges.specs.Merging.{AreRanged, MakesRanged, at_most, paired, range_at, range_leaf, groups_over, group_ranges, group_values}
use Rattle.spd_ranges.specs.inner.Groups.{Finds, found_in, is_range, middle_leaf}
use Rattle.spd_ranges.proofs.GroupLaws.{value-middle}
use Rattle.spd_ranges.proofs.LeafLaws.{AreRanges, group-is_range, groups-agree, own-range}

-- ---- conditions

most-range : (a b : Leaf) → at_most a b ≡ true → is_range (pair_of a b) ≡ true
most-range (Num a) (Num b) h = h
most-range (Num a) (Pair b y) h = absurd (true≢false (sym h))
most-range (Num a) (Act b) h = absurd (true≢false (sym h))
most-range (Pair a x) b h = absurd (true≢false (sym h))
most-range (Act a) b h = absurd (true≢false (sym h))

-- pairs of numbers in order are ranges
pub paired-ranges : (s : Shown) (f g : Entry) → FitEverywhere at_most s f g → AreRanges s.sizes (paired (meaning s f) (meaning s g))
paired-ranges s f g h = λ x y i j. most-range (meaning s f x y) (meaning s g x y) (h.at x y i j)

-- a diagram that stands for ranges has ranges
pub stands-ranges : (s : Shown) (r : Entry) (f : Function) → StandsFor s r f → AreRanges s.sizes f → FitsEverywhere is_range s r
stands-ranges s r f t h = record { at = λ x y i j. subst (λ a. is_range a ≡ true) (sym (t.value.at x y i j)) (h x y i j) }

-- ---- the ranges of groups

module _ (s t : Shown) (o : IsSound s) (r : Entry) (whole : IsWhole s r) (known : s.knows r ≡ true) (span : ℤ) (ranges : FitsEverywhere is_range s r) where
  -- without a span they are the pairs
  pub same-ranges : span ≡ pos 0 → MakesDiagram s s (group_ranges s.sizes span (meaning s r)) (Ok r)
  same-ranges e =
      diagram-agrees o (record { at = λ x y i j. sym (ap (λ z. range_leaf (groups_over s.sizes z (meaning s r)) (meaning s r x y)) e ∙ own-range s.sizes (meaning s r) ranges.at x y i j) })
      (makes_among-known s o r (meaning s r) (meaning s r ∷ []) (stands-for s o r (meaning s r) known whole (record { at = λ x y i j. refl })))

  -- the groups find them
  pub found-ranges : (groups : List Group) (result : Result Entry StoreFault) → Finds s.sizes span (meaning s r) groups → MakesDiagram s t (map_each (found_in groups) (meaning s r)) result
      → MakesDiagram s t (group_ranges s.sizes span (meaning s r)) result
  found-ranges groups result h m = diagram-agrees o (record { at = h.at }) m

-- ---- the three answers

among-in : (f : Function) (fs : List Function) → IsIn f fs → Among (f ∷ []) fs
among-in f fs i = record { nodes = λ sizes. within-in sizes f fs i }

module _ (s : Shown) (o : IsSound s) (low high : Entry) (fit : FitEverywhere at_most s low high) (span : ℤ) where
  abbrev pairs-are : Function
  pairs-are = paired (meaning s low) (meaning s high)

  abbrev ranges-are : Function
  ranges-are = group_ranges s.sizes span pairs-are

  abbrev values-are : Function
  values-are = group_values s.sizes span pairs-are

  abbrev nodes : List Function
  nodes = pairs-are ∷ ranges-are ∷ values-are ∷ []

  abbrev Gives : Shown → Result Ranged StoreFault → Type 0
  Gives t result = MakesRanged s t pairs-are ranges-are values-are result

  pub no-pairs : (t : Shown) (e : StoreFault) → MakesDiagram s t pairs-are (Err e) → Gives t (Err e)
  no-pairs t e m = record { made = part-failed e (among-in pairs-are nodes (inl refl)) (has-none s o nodes) m; ok = tt }

  -- the pairs are made
  module _ (t : Shown) (r : Entry) (m : MakesDiagram s t pairs-are (Ok r)) where
    pairs-made : HasMade s t nodes
    pairs-made = has-wider (among-in pairs-are nodes (inl refl)) (has-made m)

    pub pairs-range : FitsEverywhere is_range t r
    pairs-range = stands-ranges t r pairs-are m.ok (subst (λ (z : List ℕ). AreRanges z pairs-are) (sym m.grows.sizes) (paired-ranges s low high fit))

    ranges-agree : Agree t.sizes (group_ranges t.sizes span (meaning t r)) ranges-are
    ranges-agree = record {
      at = λ x y i j.
          ap (λ gs. range_leaf gs (meaning t r x y)) (groups-agree t.sizes span (meaning t r) pairs-are m.ok.value)
          ∙ ap (range_leaf (groups_over t.sizes span pairs-are)) (m.ok.value.at x y i j)
          ∙ ap (λ (z : List ℕ). range_leaf (groups_over z span pairs-are) (pairs-are x y)) m.grows.sizes;
    }

    module _ (v : Shown) where
      abbrev MakesRanges : Result Entry StoreFault → Type 0
      MakesRanges result = MakesDiagram t v (group_ranges t.sizes span (meaning t r)) result

      own-ranges : (result : Result Entry StoreFault) → MakesRanges result → MakesDiagram t v ranges-are result
      own-ranges result k = diagram-agrees m.sound ranges-agree k

      pub no-ranges : (e : StoreFault) → MakesRanges (Err e) → Gives v (Err e)
      no-ranges e k = record { made = part-failed e (among-in ranges-are nodes (inr (inl refl))) pairs-made (own-ranges (Err e) k); ok = tt }

      -- the ranges are made
      module _ (q : Entry) (k : MakesRanges (Ok q)) where
        ranges-own : MakesDiagram t v ranges-are (Ok q)
        ranges-own = own-ranges (Ok q) k

        grown : v.sizes ≡ s.sizes
        grown = k.grows.sizes ∙ m.grows.sizes

        ranges-made : HasMade s v nodes
        ranges-made = has-then (among-in ranges-are nodes (inr (inl refl))) pairs-made (has-made ranges-own)

        pub ranges-range : FitsEverywhere is_range v q
        ranges-range = stands-ranges v q ranges-are ranges-own.ok (λ x y i j. group-is_range s.sizes span pairs-are (paired-ranges s low high fit) (pairs-are x y))

        values-agree : Agree v.sizes (map_each middle_leaf (meaning v q)) values-are
        values-agree = record {
          at = λ x y i j.
              ap middle_leaf (ranges-own.ok.value.at x y i j)
              ∙ ap Num (sym (value-middle (groups_over s.sizes span pairs-are) (range_at (pairs-are x y))));
        }

        module _ (u : Shown) where
          abbrev MakesValues : Result Entry StoreFault → Type 0
          MakesValues result = MakesDiagram v u (map_each middle_leaf (meaning v q)) result

          own-values : (result : Result Entry StoreFault) → MakesValues result → MakesDiagram v u values-are result
          own-values result n = diagram-agrees k.sound values-agree n

          pub no-values : (e : StoreFault) → MakesValues (Err e) → Gives u (Err e)
          no-values e n = record { made = part-failed e (among-in values-are nodes (inr (inr (inl refl)))) ranges-made (own-values (Err e) n); ok = tt }

          pub all-made : (z : Entry) → MakesValues (Ok z) → Gives u (Ok (record { pairs = r; range = q; mid = z }))
          all-made z n =
              let own = own-values (Ok z) n in
              record {
                made = record { made = has-then (among-in values-are nodes (inr (inr (inl refl)))) ranges-made (has-made own); fault = tt };
                ok = record { pairs = stands-grows (grows-then k.grows n.grows) m.ok; range = stands-grows n.grows ranges-own.ok; mid = own.ok };
              }

-- ---- functions that agree

module _ (s t : Shown) (o : IsSound s) (f g h f' g' h' : Function) (a : Agree s.sizes f f') (b : Agree s.sizes g g') (c : Agree s.sizes h h') where
  same-tree : (x y : Function) → Agree s.sizes x y → test_tree s.sizes x ≡ test_tree s.sizes y
  same-tree x y e = test_tree-agree s.sizes (positive-slots s.sizes o.layout.values) x y e

  same-trees : test_trees s.sizes (f ∷ g ∷ h ∷ []) ≡ test_trees s.sizes (f' ∷ g' ∷ h' ∷ [])
  same-trees = rw (same-tree f f' a, same-tree g g' b, same-tree h h' c) refl

  same-stands : t.sizes ≡ s.sizes → IsSound t → (r : Entry) (x y : Function) → Agree s.sizes x y → StandsFor t r x → StandsFor t r y
  same-stands e p r x y q k = stands-for t p r y k.knows k.whole (record { at = λ u w i j. k.value.at u w i j ∙ q.at u w (subst (λ (z : List ℕ). IsState z u) e i) (subst (λ (z : List ℕ). IsState z w) e j) })

  pub ranged-agrees : (result : Result Ranged StoreFault) → MakesRanged s t f g h result → MakesRanged s t f' g' h' result
  ranged-agrees result m = record {
    made = record {
      made = record { sound = m.made.made.sound; grows = m.made.made.grows; makes = subst (λ v. MakesOnly s t v) same-trees m.made.made.makes };
      fault = faults result m.made.fault;
    };
    ok = ranged result m.ok;
  }
    where
      sizes : t.sizes ≡ s.sizes
      sizes = m.made.made.grows.sizes

      trees : test_trees t.sizes (f ∷ g ∷ h ∷ []) ≡ test_trees t.sizes (f' ∷ g' ∷ h' ∷ [])
      trees = subst (λ (z : List ℕ). test_trees z (f ∷ g ∷ h ∷ []) ≡ test_trees z (f' ∷ g' ∷ h' ∷ [])) (sym sizes) same-trees

      faults : (result : Result Ranged StoreFault) → IfErr result (λ e. FaultsAt e t (f ∷ g ∷ h ∷ [])) → IfErr result (λ e. FaultsAt e t (f' ∷ g' ∷ h' ∷ []))
      faults (Ok r) k = tt
      faults (Err e) k = subst (λ v. Faults e t v) trees k

      ranged : (result : Result Ranged StoreFault) → IfOk result (λ r. AreRanged t f g h r) → IfOk result (λ r. AreRanged t f' g' h' r)
      ranged (Ok r) k = record {
        pairs = same-stands sizes m.made.made.sound r.pairs f f' a k.pairs;
        range = same-stands sizes m.made.made.sound r.range g g' b k.range;
        mid = same-stands sizes m.made.made.sound r.mid h h' c k.mid;
      }
      ranged (Err e) k = tt
