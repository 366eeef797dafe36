-- Where a run stops: the first number up to a limit at which a rule holds, else the limit.
use Rattle.std.specs.Prelude.{ℕ, zero, suc, ◌<◌, ◌≤◌, ◌≡◌, Bool, true, false, if◌then◌else◌}
use Rattle.spd_model.specs.declared.Why.{Why}
use Rattle.spd_model.specs.declared.Why.TheVariants.{Done, Limit}

-- the turn at which a run stops, and why
pub record Stop : Type 0 where
  pub turn : ℕ
  pub why : Why

-- the first of the n numbers from k on at which the rule holds; where it holds at none of them, k + n
abbrev pub first_from : (ℕ → Bool) → ℕ → ℕ → ℕ
first_from rule k zero = k
first_from rule k (suc n) = elim (rule k) [ true ↦ k | false ↦ first_from rule (suc k) n ]

-- The stop of a run of at most `turns` turns: at the least turn below that limit at which the rule holds, else at the limit. It is
-- done where the rule holds at its turn.
abbrev pub first_stop : (ℕ → Bool) → ℕ → Stop
first_stop rule turns = let turn = first_from rule 0 turns in record { turn = turn; why = if rule turn then Done else Limit }

-- What a stop means: the rule holds at no turn before. It holds at this one where the run is done; else this is the last turn that
-- the limit allows, and the rule doesn't hold there either.
pub record IsFirstStop (rule : ℕ → Bool) (turns : ℕ) (stop : Stop) : Type 0 where
  pub within : stop.turn ≤ turns
  pub first : (k : ℕ) → k < stop.turn → rule k ≡ false
  pub done : stop.why ≡ Done → rule stop.turn ≡ true
  pub limit : stop.why ≡ Limit → (stop.turn ≡ turns) × (rule stop.turn ≡ false)
