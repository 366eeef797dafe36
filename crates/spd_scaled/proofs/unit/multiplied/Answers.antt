use Rattle.std.proofs.Common.{◌^◌, sym, arith}
use Rattle.spd_scaled.proofs.DecimalUnits.{ten_up, limited-product, limited-above, passes_quotient}
use Rattle.spd_scaled.proofs.CallerLemmas.UnitsLaws.{ten_above}
use Rattle.spd_scaled.proofs.unit.multiplied.Goals as goal

pub returns-then-power-gt30 : goal.returns-then-power-gt30
returns-then-power-gt30 c = sym (limited-product c.args.digits c.args.power c.requires c.if-power-gt30.true)

pub pow-factor-requires : goal.pow-factor-requires
pow-factor-requires c = omega (arith, ten_up c.args.power 30 c.if-power-gt30.false)

pub nonzero_div-factor : goal.nonzero_div-factor
nonzero_div-factor c = omega (arith, ten_above c.args.power)

pub returns-then-digits-factor : goal.returns-then-digits-factor
returns-then-digits-factor c = sym (limited-above _ (passes_quotient c.args.digits c.pow-factor.result (10 ^ c.args.power) c.pow-factor.ensures (ten_above c.args.power) c.if-digits-factor.true))
