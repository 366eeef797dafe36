-- The causes of refusals: each file has at most one, and one that is as it should be has none.
use Rattle.std.proofs.Common.{◌≡◌, ℕ, ◌<◌, List, ℤ, sym, ap, subst, ◌∙◌, arith}
use Rattle.std.proofs.lemmas.Option.{same_Some, none-some}
use Rattle.spd_model.specs.declared.options.Options.{Options}
use Rattle.spd_model.specs.Process.{Process}
use Rattle.spd_model.specs.States.{sizes, state_count}
use Rattle.spd_model.specs.Chances.{IsValid, Sum, Reward}
use Rattle.spd_plain.specs.Space.{state_limit}
use Rattle.spd_reader.proofs.CallerLemmas.{one_model, not_refused, one_refusal}
use Rattle.spd_solver.specs.declared.command.Way.{Way}
use Rattle.spd_solver.specs.declared.command.Way.TheVariants.{Diagrams, Tables}
use Rattle.spd_solver.specs.declared.status.Stage.{Stage}
use Rattle.spd_solver.specs.declared.status.Status.{Status}
use Rattle.spd_solver.specs.declared.status.Status.TheVariants as S
use Rattle.spd_solver.specs.Solve.{IsFileOf, HasFewStates, TakesStates, Tells, TellsReward, RefusesProcess, RefusesFile, HasMoreNodes, PassesLimit, IsWithinLimits}

-- ---- processes

same_sum : (m : Process) (x y : Sum) (action var state : List ℕ) (sum : ℤ) (action' var' state' : List ℕ) (sum' : ℤ) → x ≡ y
    → Tells m x action var state sum → Tells m y action' var' state' sum' → S.Sum action var state sum ≡ S.Sum action' var' state' sum'
same_sum m x y action var state sum action' var' state' sum' same first second =
    let other = subst (λ (z : Sum). Tells m z action' var' state' sum') (sym same) second in
    λ i. S.Sum ((first.action_is ∙ sym other.action_is) i) ((first.var_is ∙ sym other.var_is) i) ((first.state_is ∙ sym other.state_is) i) ((first.sum_is ∙ sym other.sum_is) i)

same_reward : (m : Process) (x y : Reward) (action state : List ℕ) (value : ℤ) (action' state' : List ℕ) (value' : ℤ) → x ≡ y
    → TellsReward m x action state value → TellsReward m y action' state' value' → S.Range action state value ≡ S.Range action' state' value'
same_reward m x y action state value action' state' value' same first second =
    let other = subst (λ (z : Reward). TellsReward m z action' state' value') (sym same) second in
    λ i. S.Range ((first.action_is ∙ sym other.action_is) i) ((first.state_is ∙ sym other.state_is) i) ((first.value_is ∙ sym other.value_is) i)

module _ (way : Way) where
  -- tables aren't made of more states than tables are made of
  too-many : (m : Process) → way ≡ Tables → state_limit < state_count (sizes m) → TakesStates way m → ⊥
  too-many m over many takes = let few : HasFewStates m = subst (λ w. TakesStates w m) over takes in omega (arith, many, few)

  -- a process is refused in one way
  pub process_once : (m : Process) (s t : Status) → RefusesProcess way m s → RefusesProcess way m t → s ≡ t
  process_once m (S.TooManyStates product) (S.TooManyStates other) h k = ap (λ (n : ℕ). S.TooManyStates n) (same_Some product other (sym h.2 ∙ k.2))
  process_once m (S.TooManyStates product) (S.Sum action var state sum) h k = absurd (too-many m h.0 h.1 k.1)
  process_once m (S.TooManyStates product) (S.Range action state value) h k = absurd (too-many m h.0 h.1 k.1)
  process_once m (S.TooManyStates product) _ h k = absurd k
  process_once m (S.Sum action var state sum) (S.TooManyStates product) h k = absurd (too-many m k.0 k.1 h.1)
  process_once m (S.Sum action var state sum) (S.Sum action' var' state' sum') h k =
      same_sum m h.0 k.0 action var state sum action' var' state' sum' (same_Some h.0 k.0 (sym h.2 ∙ k.2)) h.3 k.3
  process_once m (S.Sum action var state sum) (S.Range action' state' value) h k = absurd (none-some h.0 (sym k.2 ∙ h.2))
  process_once m (S.Sum action var state sum) _ h k = absurd k
  process_once m (S.Range action state value) (S.TooManyStates product) h k = absurd (too-many m k.0 k.1 h.1)
  process_once m (S.Range action state value) (S.Sum action' var' state' sum) h k = absurd (none-some k.0 (sym h.2 ∙ k.2))
  process_once m (S.Range action state value) (S.Range action' state' value') h k =
      same_reward m h.0 k.0 action state value action' state' value' (same_Some h.0 k.0 (sym h.3 ∙ k.3)) h.4 k.4
  process_once m (S.Range action state value) _ h k = absurd k
  process_once m _ t h k = absurd h

  -- a process that is as it should be isn't refused
  pub process_right : (m : Process) → IsValid m → TakesStates way m → (s : Status) → RefusesProcess way m s → ⊥
  process_right m valid takes (S.TooManyStates product) h = too-many m h.0 h.1 takes
  process_right m valid takes (S.Sum action var state sum) h = h.4 valid
  process_right m valid takes (S.Range action state value) h = h.5 valid
  process_right m valid takes _ h = h

-- ---- files

module _ (way : Way) (file bytes : List ℕ) where
  module _ (m : Process) (is : IsFileOf bytes m) where
    -- a file of a process is refused as its process is
    of_process : (s t : Status) → RefusesProcess way m s → RefusesFile way file bytes t → s ≡ t
    of_process s (S.TooLong name) h k = absurd (omega (arith, is.short, k.1))
    of_process s (S.Refused refusal) h k = absurd (not_refused bytes m refusal is.reads k.1)
    of_process s t h k = process_once way m s t h (subst (λ (n : Process). RefusesProcess way n t) (one_model bytes k.0 m k.1.reads is.reads) k.2)

    -- the file of a process that is as it should be isn't refused
    pub file_right : IsValid m → TakesStates way m → (s : Status) → RefusesFile way file bytes s → ⊥
    file_right valid takes (S.TooLong name) k = absurd (omega (arith, is.short, k.1))
    file_right valid takes (S.Refused refusal) k = not_refused bytes m refusal is.reads k.1
    file_right valid takes s k = process_right way m valid takes s (subst (λ (n : Process). RefusesProcess way n s) (one_model bytes k.0 m k.1.reads is.reads) k.2)

  -- a file is refused in one way
  pub file_once : (s t : Status) → RefusesFile way file bytes s → RefusesFile way file bytes t → s ≡ t
  file_once (S.TooLong name) (S.TooLong other) h k = ap (λ (n : List ℕ). S.TooLong n) (h.0 ∙ sym k.0)
  file_once (S.TooLong name) (S.Refused refusal) h k = absurd (omega (arith, h.1, k.0))
  file_once (S.TooLong name) t h k = absurd (omega (arith, h.1, k.1.short))
  file_once (S.Refused refusal) (S.TooLong name) h k = absurd (omega (arith, h.0, k.1))
  file_once (S.Refused refusal) (S.Refused other) h k = ap S.Refused (one_refusal bytes refusal other h.1 k.1)
  file_once (S.Refused refusal) t h k = absurd (not_refused bytes k.0 refusal k.1.reads h.1)
  file_once s t h k = of_process h.0 h.1 s t h.2 k

-- ---- limits

-- a process within the limits of a way has as many states as the way takes
takes-states : (way : Way) (m : Process) (options : Options) → IsWithinLimits way m options → TakesStates way m
takes-states Diagrams m options h = tt
takes-states Tables m options h = h

-- a process within the limits passes none of them
pub stage-within : (options : Options) (m : Process) → IsWithinLimits Diagrams m options → (stage : Stage) → HasMoreNodes m options stage → ⊥
stage-within options m h Stage.Building more = omega (arith, h.0, more)
stage-within options m h (Stage.Turn k) more = let few = h.1 k more.1 in omega (arith, few, more.2)
stage-within options m h Stage.Check more = more

-- the file of a process that is as it should be, within the limits, isn't refused, and passes no limit
module _ (way : Way) (file bytes : List ℕ) (options : Options) (m : Process) (is : IsFileOf bytes m) (valid : IsValid m) (within : IsWithinLimits way m options) where
  pub accepted-right : (s : Status) → RefusesFile way file bytes s → ⊥
  accepted-right = file_right way file bytes m is valid (takes-states way m options within)

  pub accepted-within : (stage : Stage) (limit : ℕ) → PassesLimit way bytes options (S.NodeLimit stage limit) → ⊥
  accepted-within stage limit h =
      stage-within options m (subst (λ w. IsWithinLimits w m options) h.2 within) stage
      (subst (λ (n : Process). HasMoreNodes n options stage) (one_model bytes h.0 m h.1.reads is.reads) h.4)

-- a file of which a turn passes the limit isn't refused
pub turn-right : (way : Way) (file bytes : List ℕ) (options : Options) (k limit : ℕ) → PassesLimit way bytes options (S.NodeLimit (Stage.Turn k) limit) → (s : Status) → RefusesFile way file bytes s → ⊥
turn-right way file bytes options k limit h =
    file_right way file bytes h.0 h.1 h.4.0 (subst (λ w. TakesStates w h.0) (sym h.2) tt)
