use Rattle.std.proofs.Common.{◌≡◌, ap, arith, length}
use Rattle.spd_cons_core.specs.Seats.{bucket_count}
use Rattle.spd_cons_core.proofs.Bounds.{power_between}
use Rattle.spd_cons_core.proofs.table.Core.bucket_bits.Goals as goal

pub returns-clause-bits : goal.returns-clause-bits
returns-clause-bits c =
    let now = c.args.self.now in
    let same : length c.self.inside.buckets.items ≡ bucket_count now = ap bucket_count c.self.view_is in
    let len : length c.self.inside.buckets.items ≡ c.len.result = omega (arith, c.self.inside.buckets.ok.0) in
    let low = c.ilog2.ensures.power_le in
    let high = c.ilog2.ensures.next_power_gt in
    power_between (bucket_count now) c.ilog2.result c.requires.buckets.0 (omega arith) (omega arith)
