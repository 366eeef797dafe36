use Rattle.std.proofs.Common.{pos, ◌-ℤ◌, FitsSigned, arith, ◌∙◌, sym, subst, int_div}
use Rattle.std.proofs.lemmas.Int.{ints, quot_is, rem_is, quot_fits, to_z-of_z}
use Rattle.spd_scaled.proofs.TowardZero.{floor_div_from_quot, floor_div_from_quot_less, floor_div_fits, at_most_from, next_above_from, within_from_floor}
use Rattle.spd_scaled.proofs.division.floor_div.Goals as goal

pub returns-else-n-d-lt0-clause-quotient : goal.returns-else-n-d-lt0-clause-quotient
returns-else-n-d-lt0-clause-quotient c =
    let fits = quot_fits _ c.args.n c.args.d c.ranges.n c.requires in
    let rem = rem_is _ c.args.n c.args.d c.ranges.n c.ranges.d in
    quot_is _ c.args.n c.args.d c.ranges.n c.ranges.d fits ∙ floor_div_from_quot c.args.n c.args.d c.requires (omega (arith, ints))

pub returns-else-n-d-lt0-clause-at_most : goal.returns-else-n-d-lt0-clause-at_most
returns-else-n-d-lt0-clause-at_most c = at_most_from _ _ _ c.requires (returns-else-n-d-lt0-clause-quotient c)

pub returns-else-n-d-lt0-clause-next_above : goal.returns-else-n-d-lt0-clause-next_above
returns-else-n-d-lt0-clause-next_above c = next_above_from _ _ _ c.requires (returns-else-n-d-lt0-clause-quotient c)

pub returns-then-n-d-lt0-clause-quotient : goal.returns-then-n-d-lt0-clause-quotient
returns-then-n-d-lt0-clause-quotient c =
    let fits = quot_fits _ c.args.n c.args.d c.ranges.n c.requires in
    let quot = quot_is _ c.args.n c.args.d c.ranges.n c.ranges.d fits in
    let rem = rem_is _ c.args.n c.args.d c.ranges.n c.ranges.d in
    let is = floor_div_from_quot_less c.args.n c.args.d c.requires (omega (arith, ints)) in
    rw quot (to_z-of_z _ (int_div c.args.n c.args.d -ℤ pos 1) (subst (FitsSigned _) (sym is) (floor_div_fits _ c.args.n c.args.d c.ranges.n c.requires)) ∙ is)

pub returns-then-n-d-lt0-clause-at_most : goal.returns-then-n-d-lt0-clause-at_most
returns-then-n-d-lt0-clause-at_most c = at_most_from _ _ _ c.requires (returns-then-n-d-lt0-clause-quotient c)

pub returns-then-n-d-lt0-clause-next_above : goal.returns-then-n-d-lt0-clause-next_above
returns-then-n-d-lt0-clause-next_above c = next_above_from _ _ _ c.requires (returns-then-n-d-lt0-clause-quotient c)

pub returns-else-n-d-lt0-clause-within : goal.returns-else-n-d-lt0-clause-within
returns-else-n-d-lt0-clause-within c k h = within_from_floor _ _ _ k c.requires (returns-else-n-d-lt0-clause-quotient c) h

pub returns-then-n-d-lt0-clause-within : goal.returns-then-n-d-lt0-clause-within
returns-then-n-d-lt0-clause-within c k h = within_from_floor _ _ _ k c.requires (returns-then-n-d-lt0-clause-quotient c) h
