use Rattle.std.proofs.Common.{◌≡◌, ℕ, ◌*◌, ◌^◌, pos, ◌-ℤ◌, unsigned_abs, ◌∙◌, ap, sym, arith}
use Rattle.std.proofs.lemmas.Int.{ints}
use Rattle.spd_scaled.specs.DecimalReading.{units_from, divided_by, limited}
use Rattle.spd_scaled.proofs.DecimalUnits.{units_from-none, units_from-large, units_from-finer, units_from-coarser}
use Rattle.spd_scaled.proofs.unit.units.Goals as goal

pub returns-then-digits-eq0-clause-value : goal.returns-then-digits-eq0-clause-value
returns-then-digits-eq0-clause-value c = units_from-none c.args.unit c.args.places ∙ ap (λ (n : ℕ). units_from c.args.unit n c.args.places) (sym c.if-digits-eq0.true)

pub returns-then-places-ltminus30-clause-value : goal.returns-then-places-ltminus30-clause-value
returns-then-places-ltminus30-clause-value c = units_from-large c.args.unit c.args.digits c.args.places (omega arith) (omega (arith, ints))

pub returns-then-finer-gt0-clause-value : goal.returns-then-finer-gt0-clause-value
returns-then-finer-gt0-clause-value c =
    let same : c.unsigned_abs.result ≡ unsigned_abs (c.args.places -ℤ pos c.args.unit) = omega (arith, ints) in
    c.divided.ensures ∙ ap (λ (k : ℕ). divided_by c.args.digits k) same ∙ units_from-finer c.args.unit c.args.digits c.args.places (omega (arith, ints))

pub returns-else-finer-gt0-clause-value : goal.returns-else-finer-gt0-clause-value
returns-else-finer-gt0-clause-value c =
    let same : c.unsigned_abs-else-finer-gt0.result ≡ unsigned_abs (c.args.places -ℤ pos c.args.unit) = omega (arith, ints) in
    c.multiplied.ensures ∙ ap (λ (k : ℕ). limited (c.args.digits * 10 ^ k)) same ∙ units_from-coarser c.args.unit c.args.digits c.args.places (omega (arith, ints))
