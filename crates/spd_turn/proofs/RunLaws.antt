-- A run that begins, and one that goes on.
use Rattle.std.proofs.Common.{◌≡◌, ℕ, suc, ◌+◌, ◌<◌, ◌≤◌, ◌^◌, ◌⊎◌, inl, inr, false, Bool, List, map, ℤ, pos, FitsSigned, to_z, of_z, sym, ◌∙◌, ap, subst, arith}
use Rattle.std.proofs.lemmas.Int.{ints, to_z-of_z}
use mir.Syntax.{w128}
use Rattle.spd_scaled.specs.Scaled.{IsWithin}
use Rattle.spd_model.specs.declared.options.Options.{Options}
use Rattle.spd_model.specs.Process.{Process}
use Rattle.spd_model.specs.Lawful.{IsLawful}
use Rattle.spd_model.specs.Chances.{IsValid, reward_of}
use Rattle.spd_model.specs.Numbers.{greatest}
use Rattle.spd_model.specs.Options.{AreOptions}
use Rattle.spd_model.specs.States.{sizes, IsState, at, rank, table_of}
use Rattle.spd_model.specs.Turns.{rule_at, stops_at}
use Rattle.spd_model.proofs.CallerLemmas.Bounded.{residual_within}
use Rattle.spd_model.proofs.CallerLemmas.StateOrder.{get_or-table_of, get_or-states, rank_below}
use Rattle.spd_nodes.specs.declared.leaf.Leaf.TheVariants.{Num}
use Rattle.spd_frozen.specs.declared.iterate.Iterate.{Iterate}
use Rattle.spd_frozen.specs.Fits.{FitsModel}
use Rattle.spd_frozen.proofs.CallerLemmas.{frozen_of-agree}
use Rattle.spd_build.specs.declared.built.Built.{Built}
use Rattle.spd_build.specs.Built.{IsBuilt, frozen_numbers}
use Rattle.spd_turn.specs.declared.trying.Attempt.{Attempt}
use Rattle.spd_turn.specs.Attempts.{HoldsTurn, IsTurnIn}
use Rattle.spd_turn.specs.Runs.{RunValue, IsRun}
use Rattle.spd_turn.specs.Turn.{IsTurnOf, value_of_turn}
use Rattle.spd_turn.proofs.FinishLaws.{turn-bounded}

-- ---- turn 0

-- what the table of a function has at a state
at-table : (sz : List ℕ) (f : List ℕ → ℤ) (s : List ℕ) → IsState sz s → at sz (table_of sz f) s ≡ f s
at-table sz f s h = get_or-table_of sz f (rank sz s) (pos 0) (rank_below sz s h) ∙ ap f (get_or-states sz s h)

-- the list of the greatest rewards is that of the value of turn 0
pub start-value : (m : Process) (span : ℤ) → frozen_numbers m (λ s. greatest (map (λ a. reward_of m a s) m.actions)) ≡ frozen_numbers m (value_of_turn m span 0)
start-value m span =
    let f : List ℕ → ℤ = λ s. greatest (map (λ a. reward_of m a s) m.actions) in
    frozen_of-agree (sizes m) (λ s. Num (f s)) (λ s. Num (value_of_turn m span 0 s)) (λ s h. ap Num (sym (at-table (sizes m) f s h)))

-- ---- a run at a turn

-- a turn in its table, whose iterate is x, is a run where turn and table are within the limits and the stop rule holds at no turn before
pub run-from : (m : Process) (b : Built) (o : Options) (k : ℕ) (a : Attempt) (x : Iterate) → x ≡ a.finished.iterate → IsValid m → IsBuilt m b → AreOptions o
    → IsTurnIn m o.span k a → a.cons.size.limit ≤ o.nodes → k ≤ o.turns → ((j : ℕ) → j < k → rule_at m o.span j ≡ false)
    → IsRun (record { process = m; built = b; options = o; iterate = x; next = a.finished.next; table = a.cons; seat = a.seat })
run-from m b o k a x same valid built opts t room within before =
    let told : IsTurnOf m o.span k x = subst (IsTurnOf m o.span k) (sym same) t.finished.told in
    let e : k ≡ x.turn = sym told.number in
    record {
      valid = valid;
      built = built;
      options = opts;
      told = subst (λ n. IsTurnOf m o.span n x) e told;
      fits = subst (FitsModel m) (sym same) t.finished.fits;
      next = subst (λ n. a.finished.next ≡ frozen_numbers m (value_of_turn m o.span (suc n))) e t.finished.next;
      within = subst (λ n. n ≤ o.turns) e within;
      before = subst (λ n. (j : ℕ) → j < n → rule_at m o.span j ≡ false) e before;
      holds = subst (λ n. HoldsTurn m o.span n a.cons a.seat) e t.holds;
      room = room;
    }

-- where the rule doesn't hold at the present turn either, it holds at none before the next
pub one-more : (r : RunValue) → IsRun r → rule_at r.process r.options.span r.iterate.turn ≡ false → (j : ℕ) → j < r.iterate.turn + 1 → rule_at r.process r.options.span j ≡ false
one-more r h n j q = go (before-or j r.iterate.turn q)
  where
    before-or : (j k : ℕ) → j < k + 1 → (j < k) ⊎ (j ≡ k)
    before-or j k q = grind arith

    go : (j < r.iterate.turn) ⊎ (j ≡ r.iterate.turn) → rule_at r.process r.options.span j ≡ false
    go (inl a) = h.before j a
    go (inr a) = subst (λ i. rule_at r.process r.options.span i ≡ false) (sym a) n

-- the residual of the present turn is in range
pub run-within : (r : RunValue) → IsLawful r.process → IsRun r → IsWithin (pos (10 ^ 31)) r.iterate.residual.r
run-within r law h =
    subst (IsWithin (pos (10 ^ 31))) (sym h.told.residual.number)
    (residual_within r.process law h.valid (value_of_turn r.process r.options.span r.iterate.turn) (turn-bounded r.process law h.valid r.options.span r.iterate.turn))

-- the residual as the program holds it is that number
pub told-fits : (r : RunValue) (x : Iterate) → IsLawful r.process → IsRun r → x ≡ r.iterate → to_z w128 (of_z w128 x.residual.r) ≡ x.residual.r
told-fits r x law h e =
    let within : IsWithin (pos (10 ^ 31)) x.residual.r = subst (λ (y : Iterate). IsWithin (pos (10 ^ 31)) y.residual.r) (sym e) (run-within r law h) in
    let fits : FitsSigned w128 x.residual.r = omega (arith, ints, within.low, within.high) in
    to_z-of_z w128 x.residual.r fits

-- what is found of the present turn's residual is whether the stop rule holds at that turn
pub rule-told : (r : RunValue) (x : Iterate) → IsRun r → x ≡ r.iterate → (z : ℤ) → z ≡ x.residual.r → (b : Bool) → b ≡ stops_at r.process z
    → b ≡ rule_at r.process r.options.span r.iterate.turn
rule-told r x h e z f b found = found ∙ ap (stops_at r.process) (f ∙ ap (λ (y : Iterate). y.residual.r) e ∙ h.told.residual.number)
