use Rattle.std.proofs.Common.{pos, ◌<ℤ◌, ◌+ℤ◌, arith, ◌∙◌, int_div, int_rem}
use Rattle.std.proofs.lemmas.Int.{ints, quot_is, rem_is, quot_fits, to_z-of_z}
use mir.Syntax.{w128}
use Rattle.spd_scaled.proofs.TowardZero.{ceil_div_from_quot, ceil_div_from_quot_more, quot_more_fits, at_least_from, last_below_from, within_from_ceil}
use Rattle.spd_scaled.proofs.division.ceil_div.Goals as goal

pub returns-else-n-d-gt0-clause-quotient : goal.returns-else-n-d-gt0-clause-quotient
returns-else-n-d-gt0-clause-quotient c =
    let fits = quot_fits _ c.args.n c.args.d c.ranges.n c.requires in
    let rem = rem_is _ c.args.n c.args.d c.ranges.n c.ranges.d in
    quot_is _ c.args.n c.args.d c.ranges.n c.ranges.d fits ∙ ceil_div_from_quot c.args.n c.args.d c.requires (omega (arith, ints))

pub returns-else-n-d-gt0-clause-at_least : goal.returns-else-n-d-gt0-clause-at_least
returns-else-n-d-gt0-clause-at_least c = at_least_from _ _ _ c.requires (returns-else-n-d-gt0-clause-quotient c)

pub returns-else-n-d-gt0-clause-last_below : goal.returns-else-n-d-gt0-clause-last_below
returns-else-n-d-gt0-clause-last_below c = last_below_from _ _ _ c.requires (returns-else-n-d-gt0-clause-quotient c)

pub returns-then-n-d-gt0-clause-quotient : goal.returns-then-n-d-gt0-clause-quotient
returns-then-n-d-gt0-clause-quotient c =
    let fits = quot_fits _ c.args.n c.args.d c.ranges.n c.requires in
    let quot = quot_is _ c.args.n c.args.d c.ranges.n c.ranges.d fits in
    let rem = rem_is _ c.args.n c.args.d c.ranges.n c.ranges.d in
    let above : pos 0 <ℤ int_rem c.args.n c.args.d = omega (arith, ints) in
    rw quot (to_z-of_z w128 (int_div c.args.n c.args.d +ℤ pos 1) (quot_more_fits _ c.args.n c.args.d c.ranges.n c.requires above)
    ∙ ceil_div_from_quot_more c.args.n c.args.d c.requires above)

pub returns-then-n-d-gt0-clause-at_least : goal.returns-then-n-d-gt0-clause-at_least
returns-then-n-d-gt0-clause-at_least c = at_least_from _ _ _ c.requires (returns-then-n-d-gt0-clause-quotient c)

pub returns-then-n-d-gt0-clause-last_below : goal.returns-then-n-d-gt0-clause-last_below
returns-then-n-d-gt0-clause-last_below c = last_below_from _ _ _ c.requires (returns-then-n-d-gt0-clause-quotient c)

pub returns-else-n-d-gt0-clause-within : goal.returns-else-n-d-gt0-clause-within
returns-else-n-d-gt0-clause-within c k h = within_from_ceil _ _ _ k c.requires (returns-else-n-d-gt0-clause-quotient c) h

pub returns-then-n-d-gt0-clause-within : goal.returns-then-n-d-gt0-clause-within
returns-then-n-d-gt0-clause-within c k h = within_from_ceil _ _ _ k c.requires (returns-then-n-d-gt0-clause-quotient c) h
