use Rattle.std.proofs.Common.{refl, subst}
use Rattle.spd_cons.specs.Shown.{shown, view_of}
use Rattle.spd_cons.specs.Values.{SeatValue, TableValue, IsSeatOf, Finds, Lacks}
use Rattle.spd_cons.proofs.Facts.{rest_facts, seat_facts}
use Rattle.spd_cons.proofs.Passing.{finds-from, lacks-from}
use Rattle.spd_cons.proofs.cons.Cons.find.Goals as goal
use Rattle.spd_cons.proofs.cons.Cons.find.Goals.{in-Some, in-None}

abbrev table : goal.Joined-search_on → TableValue
table c = record { id = c.search_on.new.active.token.table_id; size = (view_of c.search_on.new.active).size }

after : (c : goal.Joined-search_on) → IsSeatOf (record { table = table c; mind = (view_of c.search_on.new.active).mind })
after c = seat_facts (view_of c.search_on.new.active) (table c) c.search_on.ensures.active.sees refl

pub returns-clause-ok : goal.returns-clause-ok
returns-clause-ok c =
    let new : SeatValue = record { table = table c; mind = (view_of c.search_on.new.active).mind } in
    elim c.match-search_on.branch [
      | in-Some w ↦ rw w.result-is (subst (λ (v : SeatValue). Finds v new c.args.key w.in-Some.e) c.seat.view_is
          (finds-from (shown c.seat.inside).table (table c) (view_of c.seat.inside.active) (view_of c.search_on.new.active) _ w.in-Some.e w.in-Some.ensures.some w.in-Some.ensures.listed (after c)))
      | in-None w ↦ rw w.result-is tt
    ]

pub returns-clause-full : goal.returns-clause-full
returns-clause-full c =
    let new : SeatValue = record { table = table c; mind = (view_of c.search_on.new.active).mind } in
    elim c.match-search_on.branch [
      | in-Some w ↦ rw w.result-is tt
      | in-None w ↦ rw w.result-is (subst (λ (v : SeatValue). Lacks v new c.args.key) c.seat.view_is
          (lacks-from (shown c.seat.inside).table (table c) (view_of c.seat.inside.active) (view_of c.search_on.new.active) c.args.key refl c.search_on.ensures.active.sees w.in-None.ensures.none.0 w.in-None.ensures.none.1 w.in-None.ensures.none.2))
    ]

pub returns-clause-before : goal.returns-clause-before
returns-clause-before c = subst (λ (v : SeatValue). IsSeatOf v) c.seat.view_is (rest_facts _ c.seat.invariant)

pub returns-clause-after : goal.returns-clause-after
returns-clause-after c = after c
