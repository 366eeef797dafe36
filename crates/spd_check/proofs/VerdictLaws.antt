-- A verdict is yes exactly where the certificate holds.
use Rattle.std.proofs.Common.{◌≡◌, ◌↔◌, ℕ, ◌<◌, ◌||◌, Bool, false, List, All, length, map, slice_get, find, Option, Some, None, ℤ, pos, ◌≤ℤ◌, int_lt, inl, inr, refl, sym, ◌∙◌, ap, arith}
use Rattle.std.specs.Prelude.{option_map}
use Rattle.std.proofs.lemmas.Bool.{or_from, or_parts}
use Rattle.std.proofs.lemmas.Int.{ints}
use Rattle.std.proofs.lemmas.List.{get_or-map, length-map}
use Rattle.std.proofs.lemmas.Option.{get_or_from_slice_get, slice_get_cases}
use Rattle.spd_scaled.proofs.CallerLemmas.Ring.{int_lt-false}
use Rattle.spd_model.specs.declared.process.Action.{Action}
use Rattle.spd_model.specs.Process.{Process}
use Rattle.spd_model.specs.States.{sizes, states, IsState}
use Rattle.spd_model.specs.Backup.{low_of, high_of, best_high}
use Rattle.spd_model.specs.Turns.{Place}
use Rattle.spd_model.proofs.CallerLemmas.Finds.{find_none, none_passes}
use Rattle.spd_model.proofs.CallerLemmas.Greatest.{greatest_at_least, greatest_reached}
use Rattle.spd_model.proofs.CallerLemmas.Lists.{Contains-map}
use Rattle.spd_model.proofs.CallerLemmas.StateOrder.{All-states, All-states_back}
use Rattle.spd_bellman.specs.Courses.{IsPolicy}
use Rattle.spd_bellman.specs.Certificate.{Holds}
use Rattle.spd_check.specs.declared.verdict.Verdict.{Verdict}
use Rattle.spd_check.specs.declared.verdict.Verdict.TheVariants.{Yes}
use Rattle.spd_check.specs.Certificates.{own_low, fails_above, fails_below, failure_at, first_failure, verdict_of}

not-over : (r x : ℤ) → x ≤ℤ r → int_lt r x ≡ false
not-over r x h = grind (arith, ints, h)

yes-none : {X : Type 0} (k : X → Place) (o : Option X) → verdict_of (option_map k o) ≡ Yes → o ≡ None
yes-none k None e = refl
yes-none k (Some x) e = absurd (cc e)

module _ (m : Process) (w : List ℕ → ℤ) (policy : List ℕ → ℕ) where
  -- the policy's own lower bound is that of its action
  pub own-is : (s : List ℕ) (a : Action) → slice_get m.actions (policy s) ≡ Some a → policy s < length m.actions → own_low m w policy s ≡ low_of m w a s
  own-is s a is near =
      get_or-map (λ b. low_of m w b s) m.actions (policy s) a (pos 0) near ∙ ap (λ b. low_of m w b s) (get_or_from_slice_get m.actions (policy s) a a is)

module _ (m : Process) (w : List ℕ → ℤ) (policy : List ℕ → ℕ) (r : ℤ) where
  abbrev fails : List ℕ → Bool
  fails s = fails_above m w r s || fails_below m w policy r s

  module _ (some : 0 < length m.actions) (named : IsPolicy m policy) where
    module _ (h : Holds m w policy r) where
      above-at : (s : List ℕ) → IsState (sizes m) s → fails_above m w r s ≡ false
      above-at s i =
          let there = greatest_reached (map (λ a. high_of m w a s) m.actions) (omega (arith, some, length-map m.actions (λ a. high_of m w a s))) in
          let near : there.0 < length m.actions = omega (arith, there.1, length-map m.actions (λ a. high_of m w a s)) in
          elim (slice_get_cases m.actions there.0).1 [
            | inl here ↦
                let is : high_of m w here.0 s ≡ best_high m w s =
                ap (λ a. high_of m w a s) (sym here.3) ∙ sym (get_or-map (λ a. high_of m w a s) m.actions there.0 here.0 (best_high m w s) near) ∙ there.2 in
                let under = h.above s i here.0 (there.0, near, here.3) in
                not-over r _ (omega (arith, ints, is, under))
            | inr past ↦ absurd (omega (arith, near, past.0))
          ]

      below-at : (s : List ℕ) → IsState (sizes m) s → fails_below m w policy r s ≡ false
      below-at s i =
          let near = named s i in
          elim (slice_get_cases m.actions (policy s)).1 [
            | inl here ↦
                let is = own-is m w policy s here.0 here.2 near in
                let under = h.below s i here.0 here.2 in
                not-over r _ (omega (arith, ints, is, under))
            | inr past ↦ absurd (omega (arith, near, past.0))
          ]

      holds-yes : verdict_of (first_failure m w policy r) ≡ Yes
      holds-yes =
          ap (λ (o : Option (List ℕ)). verdict_of (option_map (failure_at m w policy r) o))
          (none_passes fails (states (sizes m)) (All-states (λ s. fails s ≡ false) (sizes m) (λ s i. or_from (fails_above m w r s) (fails_below m w policy r s) (above-at s i) (below-at s i))))

    module _ (yes : verdict_of (first_failure m w policy r) ≡ Yes) where
      none-fails : All (λ s. fails s ≡ false) (states (sizes m))
      none-fails = find_none fails (states (sizes m)) (yes-none (failure_at m w policy r) (find fails (states (sizes m))) yes)

      pass : (s : List ℕ) → IsState (sizes m) s → (fails_above m w r s ≡ false) × (fails_below m w policy r s ≡ false)
      pass s i = or_parts (fails_above m w r s) (fails_below m w policy r s) (All-states_back (λ x. fails x ≡ false) (sizes m) none-fails s i)

      yes-holds : Holds m w policy r
      yes-holds = record {
        named = named;
        above = λ s i a offered.
            let most = greatest_at_least (map (λ b. high_of m w b s) m.actions) (high_of m w a s) (Contains-map (λ b. high_of m w b s) m.actions a offered) in
            let under = int_lt-false r _ (pass s i).0 in
            omega (arith, ints, most, under);
        below = λ s i a offered.
            let is = own-is m w policy s a offered (named s i) in
            let under = int_lt-false r _ (pass s i).1 in
            omega (arith, ints, is, under);
      }

    pub yes-exactly : (v : Verdict) → v ≡ verdict_of (first_failure m w policy r) → (v ≡ Yes) ↔ Holds m w policy r
    yes-exactly v is = (λ e. yes-holds (sym is ∙ e), λ h. is ∙ holds-yes h)
