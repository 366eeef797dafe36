use Rattle.std.proofs.Common.{ℕ, zero, suc, ◌*◌, ◌^◌, ◌<◌, ◌≤◌, ◌∙◌, arith}
use Rattle.spd_cons_core.proofs.CallerLemmas.{power_between}
use Rattle.spd_cons.proofs.cons.Cons.new.Goals as goal

some_bits : (r n : ℕ) → 34 ≤ n → n < 2 * 2 ^ r → 1 ≤ r
some_bits zero n h k = absurd (omega arith)
some_bits (suc r) n h k = omega arith

pub open-requires-clause-bits : goal.open-requires-clause-bits
open-requires-clause-bits c =
    let low = c.ilog2.ensures.power_le in
    let high = c.ilog2.ensures.next_power_gt in
    let bound = c.ilog2.ensures.bound in
    let least = c.next_power_of_two-count.ensures.lower_bound in
    let limit = c.requires.limit_low in
    let seats = c.requires.seats_low in (
      c.from.ensures ∙ power_between c.next_power_of_two-count.result c.ilog2.result c.next_power_of_two-count.ensures.power (omega arith) (omega arith),
      some_bits c.ilog2.result c.next_power_of_two-count.result (omega arith) (omega arith),
      omega arith,
    )
