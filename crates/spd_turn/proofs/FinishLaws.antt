-- The end of a turn: what is made one after the other, and what is told of it.
use Rattle.std.proofs.Common.{◌≡◌, ℕ, suc, ◌<◌, ◌^◌, List, [], ◌∷◌, ◌++◌, length, refl, sym, ◌∙◌, ap, subst, subst₂, ℤ, pos, true, Ok, Err, All}
use Rattle.spd_scaled.proofs.CallerLemmas.Ring.{int_le-holds}
use Rattle.spd_scaled.specs.Scaled.{IsWithin}
use Rattle.spd_cons_core.specs.declared.key.Entry.{Entry}
use Rattle.spd_model.specs.Process.{Process}
use Rattle.spd_model.specs.Lawful.{IsLawful}
use Rattle.spd_model.specs.Chances.{IsValid}
use Rattle.spd_model.specs.States.{sizes, IsState}
use Rattle.spd_model.specs.Backup.{best_low, best_high, policy_of}
use Rattle.spd_model.specs.Turns.{turn as table_of_turn, IsBounded, Place, error_of}
use Rattle.spd_model.proofs.CallerLemmas.Bounded.{turn_limited, IsBounded-at, residual_within}
use Rattle.spd_model.proofs.CallerLemmas.Gaps.{best_ordered, policy_near}
use Rattle.spd_model.proofs.CallerLemmas.StateOrder.{sizes_some}
use Rattle.spd_nodes.specs.declared.forest.StoreFault.{StoreFault}
use Rattle.spd_nodes.specs.declared.forest.StoreFault.TheVariants as F
use Rattle.spd_nodes.specs.declared.leaf.Leaf.{Leaf}
use Rattle.spd_nodes.specs.declared.leaf.Leaf.TheVariants.{Num, Act}
use Rattle.spd_nodes.specs.Made.{HasMade, MakesAll}
use Rattle.spd_nodes.specs.Shown.{Shown, Grows, StandsFor, meaning}
use Rattle.spd_nodes.specs.States.{Function}
use Rattle.spd_nodes.proofs.CallerLemmas.{Among, among-back, among-front, among-trans, all-out, fault-wider, grows-then, has-then, has-wider, stand-grow, stands-grows}
use Rattle.spd_apply.specs.Outcome.{FitEverywhere}
use Rattle.spd_frozen.specs.declared.iterate.Residual.{Residual}
use Rattle.spd_frozen.specs.Fits.{FitsModel, FitsSizes, HasLeaves, IsValue, IsChoice}
use Rattle.spd_frozen.specs.Frozen.{frozen_of}
use Rattle.spd_frozen.proofs.CallerLemmas.{frozen-fits, frozen-leaves, frozen_of-agree}
use Rattle.spd_backup.specs.declared.backing.Bounds.{Bounds}
use Rattle.spd_backup.specs.Expected.{IsMade}
use Rattle.spd_backup.specs.Thawing.{HasNumbers}
use Rattle.spd_policy.specs.declared.chosen.Best.{Best}
use Rattle.spd_policy.specs.Best.{greatest_of, policy_by, best_functions, lows_of, highs_of, lows_in, highs_in, lower_bounds, upper_bounds, AreBest, AreNumeric, AreBoundsOf, MakesBestOf, MakesPolicy}
use Rattle.spd_residual.specs.Residual.{IsValueOfState, AreOrdered, FindsResidualOf, IsResidualOf, gaps_of, residual_functions}
use Rattle.spd_residual.proofs.CallerLemmas.{best-after, bounds-ordered, value-of-state}
use Rattle.spd_ranges.specs.declared.merging.Ranged.{Ranged}
use Rattle.spd_ranges.specs.Merging.{at_most, HaveBest, MergesTurn, turn_pairs, turn_ranges, turn_values}
use Rattle.spd_turn.specs.declared.ending.Finished.{Finished}
use Rattle.spd_turn.specs.Turn.{CanFinish, IsFinished, IsPresent, IsToldOf, finish_functions, greatest_low, present_value, value_of_turn}
use Rattle.spd_policy.proofs.CallerLemmas.{bounds-numeric}
use Rattle.spd_turn.proofs.BoundLaws.{bounds-count, place-near}

-- ---- calls that make nodes of several functions

all-wider : {A B : Type 0} {s t : Shown} {fs gs : List Function} (e : StoreFault) → Among fs gs → MakesAll {A = A} s t fs (Err e) → MakesAll {A = B} s t gs (Err e)
all-wider {t = t} e a h = record { made = has-wider a h.made; fault = fault-wider e t a h.fault }

all-then : {A B : Type 0} {s t v : Shown} {fs gs : List Function} (e : StoreFault) → Among fs gs → HasMade s t gs → MakesAll {A = A} t v fs (Err e) → MakesAll {A = B} s v gs (Err e)
all-then {v = v} e a h k = record { made = has-then a h k.made; fault = fault-wider e v a k.fault }

-- ---- entries

-- an entry of a function of the present state
pub present-of : (s : Shown) (r : Entry) (f : List ℕ → Leaf) → StandsFor s r (λ x t. f x) → IsPresent s r
present-of s r f h = record { known = h.knows; whole = h.whole; present = record { at = λ x y p q. h.value.at x y p q ∙ sym (h.value.at x x p p) } }

-- its list of nodes
list-of : (s : Shown) (sz : List ℕ) (r : Entry) (f : List ℕ → Leaf) → s.sizes ≡ sz → StandsFor s r (λ x t. f x) → frozen_of s.sizes (λ x. meaning s r x x) ≡ frozen_of sz f
list-of s sz r f e h = frozen_of-agree s.sizes (λ x. meaning s r x x) f (λ x p. h.value.at x x p p) ∙ ap (λ z. frozen_of z f) e

bounds-grow : {m : Process} {w : List ℕ → ℤ} {s t : Shown} → Grows s t → (bs : List Bounds) → AreBoundsOf m w s bs → AreBoundsOf m w t bs
bounds-grow {m = m} {w = w} g bs h = record { low = stand-grow g (lows_of bs) (lower_bounds m w) h.low; high = stand-grow g (highs_of bs) (upper_bounds m w) h.high }

-- ---- the end of a turn

module _ (m : Process) (law : IsLawful m) (valid : IsValid m) (span : ℤ) (k : ℕ) where
  abbrev table : List ℤ
  table = table_of_turn m span k

  abbrev value : List ℕ → ℤ
  value = value_of_turn m span k

  abbrev choosing : List Function
  choosing = best_functions (lower_bounds m value) (upper_bounds m value)

  abbrev merging : List Function
  merging = turn_pairs m table ∷ turn_ranges m span table ∷ turn_values m span table ∷ []

  abbrev gaps : List Function
  gaps = residual_functions (gaps_of m value)

  abbrev all : List Function
  all = finish_functions m span table

  among-choosing : Among choosing all
  among-choosing = among-trans (among-front choosing merging) (among-front (choosing ++ merging) gaps)

  among-merging : Among merging all
  among-merging = among-trans (among-back choosing merging) (among-front (choosing ++ merging) gaps)

  among-gaps : Among gaps all
  among-gaps = among-back (choosing ++ merging) gaps

  pub turn-bounded : IsBounded (sizes m) value
  turn-bounded = IsBounded-at (sizes m) table (turn_limited m law valid span k)

  module _ (s : Shown) (w : Entry) (bs : List Bounds) (ready : CanFinish m span k s w bs) where
    state : (t : Shown) → Grows s t → (x : List ℕ) → IsState t.sizes x → IsState (sizes m) x
    state t g x p = subst (λ z. IsState z x) (g.sizes ∙ ready.layout) p

    pub ready-numeric : All (AreNumeric s) bs
    ready-numeric = bounds-numeric m value s bs ready.bounds

    pub ready-count : length bs ≡ length m.actions
    ready-count = bounds-count m value s bs ready.bounds

    -- the best isn't made
    pub best-fails : (t : Shown) (e : StoreFault) → MakesPolicy m value s t (Err e) → MakesAll {A = Finished} s t all (Err e)
    best-fails t e b = all-wider {A = Best} e among-choosing (record { made = record { sound = b.sound; grows = b.grows; makes = b.makes }; fault = b.fault })

    module _ (t : Shown) (chosen : Best) (b : MakesPolicy m value s t (Ok chosen)) (own : MakesBestOf (lows_in s bs) (highs_in s bs) s t (Ok chosen)) where
      best-made : HasMade s t all
      best-made = has-wider among-choosing (record { sound = b.sound; grows = b.grows; makes = b.makes })

      pub best-have : HaveBest m table t chosen.low chosen.high
      best-have = record { layout = b.grows.sizes ∙ ready.layout; low = b.ok.low.value; high = b.ok.high.value }

      pub best-fit : FitEverywhere at_most t chosen.low chosen.high
      best-fit = record {
        at = λ x y p q.
            subst₂ (λ c d. at_most c d ≡ true) (sym (b.ok.low.value.at x y p q)) (sym (b.ok.high.value.at x y p q))
            (int_le-holds (best_low m value x) (best_high m value x) (best_ordered m valid value x (state t b.grows x p)));
      }

      -- the merge isn't made
      pub merge-fails : (u : Shown) (e : StoreFault) → MergesTurn m span table t u (Err e) → MakesAll {A = Finished} s u all (Err e)
      merge-fails u e r = all-then e among-merging best-made r.made

      module _ (u : Shown) (ranged : Ranged) (r : MergesTurn m span table t u (Ok ranged)) where
        merge-made : HasMade s u all
        merge-made = has-then among-merging best-made r.made.made

        pub layout-then : u.sizes ≡ sizes m
        layout-then = merge-made.grows.sizes ∙ ready.layout

        pub bounds-then : AreBoundsOf m value u bs
        bounds-then = bounds-grow merge-made.grows bs ready.bounds

        value-then : StandsFor u w (present_value value)
        value-then = stands-grows merge-made.grows ready.value

        pub numbers-then : HasNumbers u w value
        numbers-then = record { at = λ x p. value-then.value.at x x p p }

        pub value-fits : IsValueOfState u w
        value-fits = value-of-state u w value value-then (λ x p. turn-bounded x (state u merge-made.grows x p))

        pub bounds-fit : All (AreOrdered u) bs
        bounds-fit = bounds-ordered m law valid value turn-bounded u layout-then bs bounds-then

        pub best-then : AreBest (greatest_of (lows_in u bs)) (greatest_of (highs_in u bs)) (policy_by (lows_in u bs)) u chosen
        best-then =
            let g = r.made.made.grows in
            best-after s u merge-made.grows bs chosen (bounds-ordered m law valid value turn-bounded s ready.layout bs ready.bounds)
            (record { low = stands-grows g own.ok.low; high = stands-grows g own.ok.high; act = stands-grows g own.ok.act })

        -- the residual isn't found
        pub gap-fails : (v : Shown) (e : StoreFault) → FindsResidualOf m value u v (Err e) → MakesAll {A = Finished} s v all (Err e)
        gap-fails v e f = all-then e among-gaps merge-made f.all

        module _ (v : Shown) (gap : Residual) (f : FindsResidualOf m value u v (Ok gap)) where
          gap-made : HasMade s v all
          gap-made = has-then among-gaps merge-made f.all.made

          pub finish-made : (x : Finished) → MakesAll {A = Finished} s v all (Ok x)
          finish-made x = record { made = gap-made; fault = tt }

          pub finish-out : MakesAll {A = Finished} s v all (Err F.Memory)
          finish-out = all-out F.Memory refl gap-made

          later : Grows t v
          later = grows-then r.made.made.grows f.all.made.grows

          value-last : StandsFor v w (present_value value)
          value-last = stands-grows f.all.made.grows value-then

          policy-last : StandsFor v chosen.act (λ x t. Act (policy_of m value x))
          policy-last = stands-grows later b.ok.act

          next-last : StandsFor v ranged.mid (turn_values m span table)
          next-last = stands-grows f.all.made.grows r.ok.mid

          pub value-told : IsPresent v w
          value-told = present-of v w (λ x. Num (value x)) value-last

          pub policy-told : IsPresent v chosen.act
          policy-told = present-of v chosen.act (λ x. Act (policy_of m value x)) policy-last

          pub next-told : IsPresent v ranged.mid
          next-told = present-of v ranged.mid (λ x. Num (value_of_turn m span (suc k) x)) next-last

          pub gap-within : IsWithin (pos (10 ^ 31)) gap.r
          gap-within = subst (IsWithin (pos (10 ^ 31))) (sym f.ok.number) (residual_within m law valid value turn-bounded)

          pub finish-low : IsMade v (greatest_low m span k)
          finish-low = record { ref = chosen.low; stands = stands-grows later b.ok.low }

          module _ (x : Finished) (h : IsToldOf m v k w chosen.act ranged.mid gap x) where
            layout-last : v.sizes ≡ sizes m
            layout-last = gap-made.grows.sizes ∙ ready.layout

            value-is : x.iterate.value ≡ frozen_of (sizes m) (λ x. Num (value x))
            value-is = h.value ∙ list-of v (sizes m) w (λ x. Num (value x)) layout-last value-last

            policy-is : x.iterate.policy ≡ frozen_of (sizes m) (λ x. Act (policy_of m value x))
            policy-is = h.policy ∙ list-of v (sizes m) chosen.act (λ x. Act (policy_of m value x)) layout-last policy-last

            near : gap.action < length m.actions
            near = subst (λ n. n < length m.actions) (sym (ap (λ (p : Place). p.action) f.ok.place)) (place-near m value law.some_actions gap.r)

            finish-fits : FitsModel m x.iterate
            finish-fits =
                let some = sizes_some m law in
                record {
                  value = subst (FitsSizes (sizes m)) (sym value-is) (frozen-fits (sizes m) (λ x. Num (value x)) some);
                  policy = subst (FitsSizes (sizes m)) (sym policy-is) (frozen-fits (sizes m) (λ x. Act (policy_of m value x)) some);
                  values = subst (HasLeaves IsValue) (sym value-is) (frozen-leaves (sizes m) IsValue (λ x. Num (value x)) some turn-bounded);
                  choices = subst (HasLeaves (IsChoice (length m.actions))) (sym policy-is)
                      (frozen-leaves (sizes m) (IsChoice (length m.actions)) (λ x. Act (policy_of m value x)) some (λ x p. policy_near m value law.some_actions x));
                  state = subst (λ (z : Residual). IsState (sizes m) z.at) (sym h.residual) f.ok.state;
                  action = subst (λ (z : Residual). z.action < length m.actions) (sym h.residual) near;
                }

            pub finish-is : IsFinished m span k x
            finish-is = record {
              told = record {
                number = h.number;
                value = value-is;
                policy = policy-is;
                residual = subst (λ (z : Residual). IsResidualOf m value z) (sym h.residual) f.ok;
                error = h.error ∙ ap (error_of m) f.ok.number;
              };
              fits = finish-fits;
              next = h.next ∙ list-of v (sizes m) ranged.mid (λ x. Num (value_of_turn m span (suc k) x)) layout-last next-last;
            }
