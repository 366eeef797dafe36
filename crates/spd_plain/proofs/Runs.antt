-- The run of value iteration, turn after turn.
use Rattle.std.proofs.Common.{◌≡◌, ℕ, zero, suc, ◌+◌, ◌-◌, ◌^◌, ◌<◌, Bool, false, if◌then◌else◌, List, length, map, All, ℤ, pos, ap, sym, ◌∙◌, subst, arith}
use Rattle.std.proofs.Math.ListN.{length-map}
use Rattle.spd_scaled.specs.Scaled.{IsWithin}
use Rattle.spd_model.specs.declared.Why.{Why}
use Rattle.spd_model.specs.declared.Why.TheVariants.{Done, Limit}
use Rattle.spd_model.specs.Process.{Process}
use Rattle.spd_model.specs.Numbers.{greatest}
use Rattle.spd_model.specs.States.{sizes, state_count, at}
use Rattle.spd_model.specs.Chances.{IsValid, reward_of}
use Rattle.spd_model.specs.Ranges.{groups_of, in_order, value_in}
use Rattle.spd_model.specs.Stops.{Stop, first_from, first_stop}
use Rattle.spd_model.specs.Turns.{ranges_of, turn, residual_of, value_limit}
use Rattle.spd_model.proofs.CallerLemmas.Bounded.{turn_limited, residual_within, IsBounded-at}
use Rattle.spd_model.proofs.CallerLemmas.Finds.{first_later}
use Rattle.spd_model.proofs.CallerLemmas.StateOrder.{length-table_of}
use Rattle.spd_plain.specs.declared.space.Space.{Space}
use Rattle.spd_plain.specs.inner.Axes.{IsSpace}
use Rattle.spd_plain.specs.inner.Sweeps.{CanSweep}

-- The search for the stop, from turn k on with `left` turns before the limit: it goes on, or ends at the limit.
module _ (rule : ℕ → Bool) (k : ℕ) where
  pub goes_on : (left : ℕ) → 0 < left → rule k ≡ false → first_from rule k left ≡ first_from rule (k + 1) (left - 1)
  goes_on zero p h = absurd (omega arith)
  goes_on (suc left) p h = first_later rule left k h ∙ (let next : suc k ≡ k + 1 = omega arith in let less : left ≡ suc left - 1 = omega arith in λ i. first_from rule (next i) (less i))

  pub first_at_limit : (left : ℕ) → left ≡ 0 → first_from rule k left ≡ k
  first_at_limit left h = ap (first_from rule k) h

  -- where the search from the start ends here, the stop is here
  pub stop_here : (turns : ℕ) (why : Why) → first_from rule 0 turns ≡ k → why ≡ (if rule k then Done else Limit) → record { turn = k; why = why } ≡ first_stop rule turns
  stop_here turns why is is_why =
      let stop : ℕ → Stop = λ j. record { turn = j; why = if rule j then Done else Limit } in
      (λ i. record { turn = k; why = is_why i }) ∙ ap stop (sym is)

-- each turn has one value for each state
pub length-turn : (m : Process) (span : ℤ) (k : ℕ) → length (turn m span k) ≡ state_count (sizes m)
length-turn m span zero = length-table_of (sizes m) (λ s. greatest (map (λ a. reward_of m a s) m.actions))
length-turn m span (suc k) =
    length-map (ranges_of m (at (sizes m) (turn m span k))) (value_in (groups_of span (in_order (ranges_of m (at (sizes m) (turn m span k))))))
    ∙ length-table_of (sizes m) _

-- a turn can be swept, and its residual fits
module _ {m : Process} (valid : IsValid m) {space : Space} (is : IsSpace m space) (span : ℤ) (k : ℕ) {values : List ℤ} (turn_is : values ≡ turn m span k) where
  bounded : All (IsWithin (pos value_limit)) values
  bounded = subst (All (IsWithin (pos value_limit))) (sym turn_is) (turn_limited m is.law valid span k)

  pub can_sweep : CanSweep m space values
  can_sweep = record { valid = valid; space_is = is; count = ap length turn_is ∙ length-turn m span k; bounded = bounded }

  pub residual_small : IsWithin (pos (10 ^ 31)) (residual_of m (at (sizes m) values))
  residual_small = residual_within m is.law valid (at (sizes m) values) (IsBounded-at (sizes m) values bounded)
