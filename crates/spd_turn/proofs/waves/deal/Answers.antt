use Rattle.std.proofs.Common.{◌≡◌, ℕ, ◌+◌, ◌-◌, [], ◌∷◌, ◌++◌, length, sym, ap, ◌∙◌, subst, arith}
use Rattle.std.proofs.lemmas.List.{length-append}
use Rattle.std.specs.Vec.Iter.{into_iter_len}
use Rattle.std.proofs.lemmas.Iterator.Adapters.{YieldsList-from_vec}
use Rattle.std.proofs.lemmas.Iterator.Consumers.{YieldsList-turn}
use Rattle.spd_cons.specs.Values.{TableValue}
use Rattle.spd_nodes.specs.Grove.{StandingValue, shown_of}
use Rattle.spd_nodes.specs.Shown.{Shown}
use Rattle.spd_turn.specs.Jobs.{HoldFor}
use Rattle.spd_turn.specs.Waves.{EachFrom, IsDealt}
use Rattle.spd_turn.proofs.WaveLaws.{each-push, stand}
use Rattle.spd_turn.proofs.waves.deal.Goals as goal

pub loop-tables-preserved : goal.loop-tables-preserved
loop-tables-preserved c =
    let here = c.loop-tables.invariant in
    let g = c.args.grove.now in
    let longer = length-append c.loop-tables.yielded (c.in-Some.tables ∷ []) in
    let more : c.push_reserved.new.self.items ≡ c.loop-tables.jobs.items ++ c.job_of.result ∷ [] = c.push_reserved.ensures.items in
    let table : c.loop-tables.grove.seat.table ≡ g.seat.table = ap (λ (z : StandingValue). z.table) here.standing in
    let place : c.loop-tables.action ≡ c.args.first + length c.loop-tables.jobs.items = omega (arith, here.action, here.count) in
    let splits : g.seat.mind.splits - length c.loop-tables.yielded - 1 ≡ g.seat.mind.splits - length (c.loop-tables.yielded ++ c.in-Some.tables ∷ []) = omega (arith, longer) in
    let P : ℕ → _ → Type 0 = IsDealt g.seat.table (shown_of g) c.args.thawed.now c.args.w in
    let dealt = subst (λ (p : TableValue × Shown × ℕ). IsDealt p.0 p.1 c.args.thawed.now c.args.w p.2 c.job_of.result) (λ i. (table i, here.shows i, place i)) c.job_of.ensures.dealt in
    record {
      shows = c.job_of.ensures.shows ∙ here.shows;
      sizes = c.job_of.ensures.sizes ∙ here.sizes;
      standing = c.job_of.ensures.standing ∙ (λ i. let z : StandingValue = here.standing i in stand z.table z.stands (z.splits - 1)) ∙ (λ i. stand g.seat.table g.seat.mind.stands (splits i));
      count = omega (arith, ap length more, length-append c.loop-tables.jobs.items (c.job_of.result ∷ []), here.count, longer);
      room = omega (arith, here.room, c.push_reserved.ensures.capacity);
      action = omega (arith, here.action, longer);
      dealt = subst (EachFrom P c.args.first) (sym more) (each-push P c.args.first c.loop-tables.jobs.items c.job_of.result here.dealt dealt);
    }

pub job_of-requires-clause-tables : goal.job_of-requires-clause-tables
job_of-requires-clause-tables c =
    let gives = c.into_iter-tables-iterator.ensures.into_iter_gives in
    let long : into_iter_len c.into_iter-tables-iterator.result ≡ length c.args.lanes.items = gives.1 ∙ c.args.lanes.ok.0 in
    let list = YieldsList-from_vec {s = c.into_iter-tables-iterator.result} c.args.lanes.items gives.0 long in
    let turn = YieldsList-turn list c.loop-tables.yielded c.loop-tables.tables-iterator c.loop-tables.yielded_by c.next.result c.next.new.self c.in-Some.tables c.in-Some.is c.next.ensures.steps in
    let x = c.args.thawed.now in
    let here : HoldFor x (shown_of c.args.grove.now) c.in-Some.tables = subst (HoldFor x (shown_of c.args.grove.now)) (sym turn.1) (c.requires.tables (length c.loop-tables.yielded) c.in-Some.tables turn.0) in
    subst (λ (s : Shown). HoldFor x s c.in-Some.tables) (sym c.loop-tables.invariant.shows) here
