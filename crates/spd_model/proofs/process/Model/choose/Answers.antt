use Rattle.std.proofs.Common.{◌≡◌, ℕ, Option, Some, None, true, false, slice_index_or, refl, sym, ◌∙◌}
use Rattle.std.specs.Option.{is_some}
use Rattle.std.proofs.lemmas.Option.{slice_get-get_or}
use Rattle.std.proofs.lemmas.Bool.{false≢true}
use Rattle.spd_model.proofs.Pairs.{none_chosen, stands_before, one_more}
use Rattle.spd_model.proofs.process.Model.choose.Goals as goal

-- an option that is some, and one that isn't
some_value : (o : Option ℕ) → is_some o ≡ true → (value : ℕ) × (o ≡ Some value)
some_value None h = absurd (false≢true h)
some_value (Some value) h = (value, refl)

no_value : (o : Option ℕ) → is_some o ≡ false → o ≡ None
no_value None h = refl
no_value (Some value) h = absurd (false≢true (sym h))

pub loop-place-init : goal.loop-place-init
loop-place-init c = none_chosen c.args.self.now

pub returns-then-not-is_known-clause-fault : goal.returns-then-not-is_known-clause-fault
returns-then-not-is_known-clause-fault c = (
  c.loop-place.invariant.fine,
  slice_index_or c.args.pairs.now c.loop-place.place (0, 0),
  slice_get-get_or c.args.pairs.now c.loop-place.place (0, 0) c.loop-place-test.true,
  λ known. false≢true (sym c.if-not-is_known.true ∙ c.is_known.ensures.known.1 known),
)

pub bounds-chosen-var : goal.bounds-chosen-var
bounds-chosen-var c = c.is_known.ensures.few c.if-not-is_known.false

pub returns-then-is_some-clause-fault : goal.returns-then-is_some-clause-fault
returns-then-is_some-clause-fault c =
    let before = c.loop-place.invariant in
    let value = some_value _ (sym c.is_some.ensures ∙ c.if-is_some.true) in (
      before.fine,
      slice_index_or c.args.pairs.now c.loop-place.place (0, 0),
      slice_get-get_or c.args.pairs.now c.loop-place.place (0, 0) c.loop-place-test.true,
      c.is_known.ensures.known.0 c.if-not-is_known.false,
      stands_before c.args.self.now c.args.pairs.now c.loop-place.place c.loop-place-test.true c.loop-place.chosen before value.0 value.1,
    )

pub bounds-chosen-var-in-loop-place : goal.bounds-chosen-var-in-loop-place
bounds-chosen-var-in-loop-place c = c.is_known.ensures.few c.if-not-is_known.false

pub loop-place-preserved : goal.loop-place-preserved
loop-place-preserved c =
    one_more c.args.self.now c.args.pairs.now c.loop-place.place c.loop-place-test.true c.loop-place.chosen c.loop-place.invariant
    (c.is_known.ensures.known.0 c.if-not-is_known.false) (c.is_known.ensures.few c.if-not-is_known.false)
    (no_value _ (sym c.is_some.ensures ∙ c.if-is_some.false))
