-- The shape of a result: an entry for each state, and a place that is a state.
use Rattle.std.proofs.Common.{◌≡◌, ℕ, Bool, true, false, if◌then◌else◌, List, ℤ, refl, sym, subst, arith}
use Rattle.spd_model.specs.declared.Side.TheVariants.{Above, Below}
use Rattle.spd_model.specs.Process.{Process}
use Rattle.spd_model.specs.Lawful.{IsLawful}
use Rattle.spd_model.specs.States.{sizes, states, IsState}
use Rattle.spd_model.specs.Chances.{IsValid}
use Rattle.spd_model.specs.Turns.{residual_of, state_of_residual, place_of, stop_of, stop_value}
use Rattle.spd_model.proofs.CallerLemmas.Finds.{found}
use Rattle.spd_model.proofs.CallerLemmas.Gaps.{has_gap, not_nowhere}
use Rattle.spd_model.proofs.CallerLemmas.StateOrder.{length-states, length-table_of, All-states, sizes_some, state_count_some}
use Rattle.spd_plain.specs.declared.solve.Plain.{Plain}
use Rattle.spd_plain.specs.Plain.{plain_of, IsShaped}
use Rattle.spd_plain.proofs.Runs.{length-turn}
use Rattle.spd_plain.proofs.SweepLaws.{placed}

-- the place of a residual is a state
residual-placed : (m : Process) → IsLawful m → IsValid m → (w : List ℕ → ℤ) → IsState (sizes m) (state_of_residual m w (residual_of m w))
residual-placed m law valid w =
    found (IsState (sizes m)) (has_gap m w (residual_of m w)) (states (sizes m)) _ (All-states (IsState (sizes m)) (sizes m) (λ s is. is))
    (not_nowhere m valid w (residual_of m w) refl (omega (arith, length-states (sizes m), state_count_some (sizes m) (sizes_some m law))))

pub plain-shaped : (m : Process) → IsLawful m → IsValid m → (turns : ℕ) (span : ℤ) (p : Plain) → p ≡ plain_of m turns span → IsShaped m p
plain-shaped m law valid turns span p is = subst (IsShaped m) (sym is) (record {
  value = length-turn m span (stop_of m turns span).turn;
  policy = length-table_of (sizes m) _;
  place = place_state (stop_value m turns span);
})
  where
    of_side : (b : Bool) (s : List ℕ) (a c : ℕ) → IsState (sizes m) s → IsState (sizes m) (if b then placed s Above a else placed s Below c).state
    of_side true s a c h = h
    of_side false s a c h = h

    place_state : (w : List ℕ → ℤ) → IsState (sizes m) (place_of m w (residual_of m w)).state
    place_state w = of_side _ (state_of_residual m w (residual_of m w)) _ _ (residual-placed m law valid w)
