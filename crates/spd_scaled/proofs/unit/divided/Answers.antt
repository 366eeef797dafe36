use Rattle.std.proofs.Common.{sym, arith}
use Rattle.spd_scaled.proofs.DecimalUnits.{ten_up, divided_by-none}
use Rattle.spd_scaled.proofs.CallerLemmas.UnitsLaws.{ten_above}
use Rattle.spd_scaled.proofs.unit.divided.Goals as goal

pub returns-then-power-gt38 : goal.returns-then-power-gt38
returns-then-power-gt38 c = sym (divided_by-none c.args.digits c.args.power c.requires (omega (arith, ten_up 39 c.args.power c.if-power-gt38.true)))

pub pow-divisor-requires : goal.pow-divisor-requires
pow-divisor-requires c = omega (arith, ten_up c.args.power 38 c.if-power-gt38.false)

pub nonzero_rem-digits : goal.nonzero_rem-digits
nonzero_rem-digits c = omega (arith, ten_above c.args.power)
