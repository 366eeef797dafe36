use Rattle.std.proofs.Common.{ap, subst, sym, ◌∙◌, Result, ℕ, ℤ}
use Rattle.spd_scaled.specs.declared.decimal.Scale.{Scale}
use Rattle.spd_scaled.specs.Decimal.{IsScaled}
use Rattle.spd_scaled.specs.DecimalReading.{scaled_of, signed_step}
use Rattle.spd_scaled.proofs.DecimalUnits.{scaled_told, units_from-AreUnits}
use Rattle.spd_scaled.proofs.unit.scale.Goals as goal

pub returns-clause-reads : goal.returns-clause-reads
unfolding scaled_of
returns-clause-reads c = c.scaled.ensures

pub returns-clause-told : goal.returns-clause-told
returns-clause-told c = subst (λ (r : Result ℤ Scale). IsScaled c.args.places c.args.d.now r) (sym c.scaled.ensures) (scaled_told c.args.places c.args.d.now)

pub returns-clause-whole : goal.returns-clause-whole
returns-clause-whole c n are =
    c.scaled.ensures ∙ ap (λ (r : Result ℕ Scale). signed_step c.args.d.now.negative r) (units_from-AreUnits c.args.places n c.args.d.now.digits c.args.d.now.places are)
