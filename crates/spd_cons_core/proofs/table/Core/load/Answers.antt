use Rattle.std.proofs.Common.{◌≡◌, length, ap, arith, get_or}
use Rattle.std.proofs.lemmas.List.{get_or_read}
use Rattle.spd_cons_core.specs.Views.{Machine}
use Rattle.spd_cons_core.specs.Seats.{bucket, bucket_count}
use Rattle.spd_cons_core.proofs.Bounds.{bucket_small}
use Rattle.spd_cons_core.proofs.table.Core.load.Goals as goal

pub index-requires : goal.index-requires
index-requires c =
    let same : length c.self.inside.buckets.items ≡ bucket_count c.args.self.now = ap bucket_count c.self.view_is in
    let within = c.requires.within in
    omega (arith, c.self.inside.buckets.ok.0)

pub returns-clause-small : goal.returns-clause-small
returns-clause-small c =
    let same : get_or c.self.inside.buckets.items c.args.at 0 ≡ bucket c.args.self.now c.args.at = ap (λ (m : Machine). bucket m c.args.at) c.self.view_is in
    let count : length c.self.inside.buckets.items ≡ bucket_count c.args.self.now = ap bucket_count c.self.view_is in
    let within = c.requires.within in
    let read = get_or_read c.self.inside.buckets.items c.args.at c.index.result.now (omega arith) c.index.ensures 0 in
    let small = bucket_small c.args.self.now c.requires.sized c.requires.sound c.args.at in
    omega arith
