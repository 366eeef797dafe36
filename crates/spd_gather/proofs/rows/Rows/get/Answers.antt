use Rattle.std.proofs.Common.{sym, ◌∙◌, arith, rules, ◌≡◌, ◌<◌, length, take, drop, ◌*◌, Some}
use Rattle.spd_gather.proofs.PlaceLaws.{row-found}
use Rattle.spd_gather.proofs.rows.Rows.get.Goals as goal

pub returns-then-is_same : goal.returns-then-is_same
returns-then-is_same c =
    let i = c.self.inside in
    let key : take i.width (drop (c.place-at.result * i.width) i.keys.items) ≡ c.args.list.now = sym (rw c.as_slice.ensures.value at c.list_at.ensures) ∙ c.is_same.ensures c.if-is_same.true in
    let near : c.place-at.result < length i.answers.items = search (rules, arith) in
    let some : c.index.result.now ≡ Some c.in_ok-r.r = search rules in
    row-found i.width i.keys.items i.answers.items c.args.self.now c.place-at.result c.index.result.now c.args.list.now c.in_ok-r.r c.self.view_is near (search rules) some key
