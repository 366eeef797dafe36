use Rattle.std.proofs.Common.{arith, rules, ◌≡◌, ◌<◌, length}
use Rattle.spd_gather.proofs.PlaceLaws.{rows-write}
use Rattle.spd_gather.proofs.rows.Rows.write.Goals as goal

pub returns : goal.returns
returns c =
    let i = c.self.inside in
    let same : length c.args.list.now ≡ i.width = search (rules, arith) in
    let near : c.place-at.result < length i.answers.items = search (rules, arith) in
    rows-write i.width c.args.list.now i.keys.items c.write_at.new.keys.items i.answers.items c.args.self.now c.place-at.result c.args.r same near c.self.invariant c.write_at.ensures c.self.view_is
