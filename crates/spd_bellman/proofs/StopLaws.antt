-- The stop of a run is the first turn at which its rule holds, or its last one.
use Rattle.std.proofs.Common.{◌≡◌, ℕ, Bool, true, false, if◌then◌else◌, refl, sym, ◌∙◌, inl, inr, arith}
use Rattle.std.proofs.lemmas.Bool.{cases_lt, false≢true}
use Rattle.spd_model.specs.declared.Why.TheVariants.{Done, Limit}
use Rattle.spd_model.specs.Stops.{first_from, first_stop, IsFirstStop}
use Rattle.spd_model.proofs.CallerLemmas.Finds.{first_from_within, first_from_before, first_from_holds}

done_by : (b : Bool) → (if b then Done else Limit) ≡ Done → b ≡ true
done_by true h = refl
done_by false h = cc

limit_by : (b : Bool) → (if b then Done else Limit) ≡ Limit → b ≡ false
limit_by true h = cc
limit_by false h = refl

pub is_first_stop : (rule : ℕ → Bool) (turns : ℕ) → IsFirstStop rule turns (first_stop rule turns)
is_first_stop rule turns =
    let turn = first_from rule 0 turns in
    let within = first_from_within rule turns 0 in
    record {
      within = omega arith;
      first = λ k below. first_from_before rule turns 0 k (omega arith) below;
      done = λ is. done_by (rule turn) is;
      limit = λ is.
          let fails = limit_by (rule turn) is in (
            elim (cases_lt turn turns) [
              | inl near ↦ absurd (false≢true (sym fails ∙ first_from_holds rule turns 0 (omega arith)))
              | inr far ↦ omega arith
            ],
            fails,
          );
    }
