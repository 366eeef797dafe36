use Rattle.std.proofs.Common.{◌≡◌, length, sym, ap, ◌∙◌, arith}
use Rattle.spd_cons_core.specs.Views.{Seat}
use Rattle.spd_cons_core.specs.Seats.{bucket_count}
use Rattle.spd_cons_core.proofs.Taken.{exchange_at}
use Rattle.spd_cons_core.proofs.table.Core.exchange_bucket.Goals as goal

pub load-found-requires-clause-within : goal.load-found-requires-clause-within
load-found-requires-clause-within c =
    exchange_at c.args.self.now c.requires.sound c.args.seat c.in-Some.mind.now c.in-Some-Some.call c.can_exchange.result c.in-Some.ensures.seat c.can_exchange.ensures c.if-not-can_exchange.false
    (ap (λ (s : Seat). s.call) (sym c.mind.view_is) ∙ c.in-Some-Some.is-0)

pub index_mut-requires : goal.index_mut-requires
index_mut-requires c =
    let same : length c.self.inside.buckets.items ≡ bucket_count c.args.self.now = ap bucket_count c.self.view_is in
    let within = exchange_at c.args.self.now c.requires.sound c.args.seat c.in-Some.mind.now c.in-Some-Some.call c.can_exchange.result c.in-Some.ensures.seat c.can_exchange.ensures c.if-not-can_exchange.false
    (ap (λ (s : Seat). s.call) (sym c.mind.view_is) ∙ c.in-Some-Some.is-0) in
    omega (arith, c.self.inside.buckets.ok.0)
