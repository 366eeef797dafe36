-- Where a run stops, and what it then tells.
use Rattle.std.proofs.Common.{◌≡◌, ℕ, ◌<◌, ◌≤◌, ◌⊎◌, inl, inr, Bool, true, false, Ok, refl, sym, ◌∙◌, ap, subst, arith}
use Rattle.std.proofs.lemmas.Bool.{true≢false}
use Rattle.spd_model.specs.declared.Why.{Why}
use Rattle.spd_model.specs.ResultText.{iterate_of, result_of}
use Rattle.spd_model.specs.Stops.{Stop, first_stop, IsFirstStop}
use Rattle.spd_model.specs.Turns.{rule_at, stop_of}
use Rattle.spd_frozen.specs.Told.{told}
use Rattle.spd_turn.specs.declared.running.Advance.TheVariants as A
use Rattle.spd_turn.specs.Runs.{RunValue, IsRun, AnswersRun}
use Rattle.spd_turn.specs.Turn.{value_of_turn}
use Rattle.spd_turn.proofs.TurnLaws.{turn-told}

three : (a b : ℕ) → (a < b) ⊎ (a ≡ b) ⊎ (b < a)
three a b = grind arith

module _ (rule : ℕ → Bool) (turns : ℕ) (stop : Stop) (is : IsFirstStop rule turns stop) (k : ℕ) (within : k ≤ turns) (before : (j : ℕ) → j < k → rule j ≡ false) where
  -- it isn't before a turn up to which the rule holds at none
  not-before : stop.turn < k → (why : Why) → stop.why ≡ why → ⊥
  not-before less Why.Done e = true≢false (sym (is.done e) ∙ before stop.turn less)
  not-before less Why.Limit e = let last = is.limit e in omega (arith, last.0)

  stops-here : (k < stop.turn → ⊥) → stop.turn ≡ k
  stops-here later = elim (three stop.turn k) [
    | inl less ↦ absurd (not-before less stop.why refl)
    | inr (inl same) ↦ same
    | inr (inr more) ↦ absurd (later more)
  ]

  done-why : rule k ≡ true → stop.turn ≡ k → (why : Why) → stop.why ≡ why → why ≡ Why.Done
  done-why holds turn Why.Done e = refl
  done-why holds turn Why.Limit e = let last = is.limit e in absurd (true≢false (sym holds ∙ ap rule (sym turn) ∙ last.1))

  limit-why : rule k ≡ false → stop.turn ≡ k → (why : Why) → stop.why ≡ why → why ≡ Why.Limit
  limit-why fails turn Why.Done e = absurd (true≢false (sym (is.done e) ∙ ap rule turn ∙ fails))
  limit-why fails turn Why.Limit e = refl

  -- it is at the turn where the rule holds, and where it doesn't hold at the limit, there
  stops-done : rule k ≡ true → stop ≡ record { turn = k; why = Why.Done }
  stops-done holds =
      let turn : stop.turn ≡ k = stops-here (λ more. true≢false (sym holds ∙ is.first k more)) in
      let why : stop.why ≡ Why.Done = done-why holds turn stop.why refl in
      λ i. record { turn = turn i; why = why i }

  stops-limit : rule k ≡ false → k ≡ turns → stop ≡ record { turn = k; why = Why.Limit }
  stops-limit fails last =
      let turn : stop.turn ≡ k = stops-here (λ more. let inside = is.within in omega (arith, inside, last)) in
      let why : stop.why ≡ Why.Limit = limit-why fails turn stop.why refl in
      λ i. record { turn = turn i; why = why i }

-- a run that going on stops, stops where it stands
module _ (law : (rule : ℕ → Bool) (turns : ℕ) → IsFirstStop rule turns (first_stop rule turns)) (old new : RunValue) (run : IsRun old) where
  abbrev rule : ℕ → Bool
  rule = rule_at old.process old.options.span

  abbrev StopsAs : Why → RunValue → Type 0
  StopsAs why r = stop_of r.process r.options.turns r.options.span ≡ record { turn = r.iterate.turn; why = why }

  pub answer-stops : (why : Why) → AnswersRun old new (Ok (A.Stopped why)) → stop_of new.process new.options.turns new.options.span ≡ record { turn = new.iterate.turn; why = why }
  answer-stops Why.Done h =
      subst (StopsAs Why.Done) (sym h.0) (stops-done rule old.options.turns (first_stop rule old.options.turns) (law rule old.options.turns) old.iterate.turn run.within run.before h.1)
  answer-stops Why.Limit h =
      subst (StopsAs Why.Limit) (sym h.0) (stops-limit rule old.options.turns (first_stop rule old.options.turns) (law rule old.options.turns) old.iterate.turn run.within run.before h.1 h.2)

-- where it stops, it tells the result of its process
pub stop-told : (r : RunValue) → IsRun r → (why : Why) → stop_of r.process r.options.turns r.options.span ≡ record { turn = r.iterate.turn; why = why }
    → told r.iterate ≡ result_of r.process r.options.turns r.options.span
stop-told r run why stops =
    turn-told r.process r.options.span r.iterate.turn r.iterate run.told
    ∙ ap (λ (s : Stop). iterate_of r.process s.turn (value_of_turn r.process r.options.span s.turn)) (sym stops)
