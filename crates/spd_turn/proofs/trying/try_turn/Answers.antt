use Rattle.std.proofs.Common.{◌≡◌, ◌+◌, rules, sym, subst, ap, ◌∙◌, length, IfErr}
use Rattle.spd_model.specs.Lawful.{IsLawful}
use Rattle.spd_model.proofs.CallerLemmas.Results.{err_is}
use Rattle.spd_turn.specs.Attempts.{IsTooSmall}
use Rattle.spd_turn.specs.Parts.{IsValueList}
use Rattle.spd_turn.specs.Turn.{IsFinished, value_of_turn}
use Rattle.spd_turn.proofs.AttemptLaws.{IsTableFor, ok-of, on-of, parts-few, parts-ready, parts-small, turn-holds, turn-small}
use Rattle.spd_turn.proofs.FinishLaws.{turn-bounded}
use Rattle.spd_turn.proofs.trying.try_turn.Goals as goal

pub thaw_in-begun-requires-clause-value : goal.thaw_in-begun-requires-clause-value
thaw_in-begun-requires-clause-value g c =
    let m = c.args.model.now in
    let span = c.args.options.span in
    let k = c.args.turn in
    let law : IsLawful m = subst IsLawful c.model.view_is c.model.invariant in
    let is : IsValueList m (value_of_turn m span k) c.args.value.now = record { bounded = turn-bounded m law c.requires.valid span k; list = c.requires.value } in
    record { value = value_of_turn m span k; is = is }

pub returns-in_err-parts-clause-fault : goal.returns-in_err-parts-clause-fault
returns-in_err-parts-clause-fault g c =
    let m = c.args.model.now in
    let span = c.args.options.span in
    let k = c.args.turn in
    let law : IsLawful m = subst IsLawful c.model.view_is c.model.invariant in
    let is : IsValueList m (value_of_turn m span k) c.args.value.now = record { bounded = turn-bounded m law c.requires.valid span k; list = c.requires.value } in
    let table = c.in-Ok-new.opened.0 in
    let for : IsTableFor m c.args.room table = record { limit = c.in-Ok-new.ensures.limit; most = c.in-Ok-new.ensures.most ∙ c.seats_of.ensures.count } in
    let made = c.thaw_in-begun.ensures.made (value_of_turn m span k) is in
    subst (λ r. IfErr r (IsTooSmall m span k c.args.room)) (sym (err_is c.from_residual.result c.in_err-parts.field-0.0 c.from_residual.ensures.1))
    (parts-small m span k c.args.room c.in-Ok.layout c.in-Ok.ensures table for c.in-Ok-new.opened.1 c.in-Ok-new.ensures.seat c.thaw_in-begun.result.0 c.thaw_in-begun.ensures.standing c.facts.ensures c.thaw_in-begun.result.1 made c.in_err-parts.field-0.0 c.in_err-parts.was)

pub turn_in-seat-requires-clause-ready : goal.turn_in-seat-requires-clause-ready
turn_in-seat-requires-clause-ready g c κs within =
    let m = c.args.model.now in
    let span = c.args.options.span in
    let k = c.args.turn in
    let law : IsLawful m = subst IsLawful c.model.view_is c.model.invariant in
    let is : IsValueList m (value_of_turn m span k) c.args.value.now = record { bounded = turn-bounded m law c.requires.valid span k; list = c.requires.value } in
    let table = c.in-Ok-new.opened.0 in
    let for : IsTableFor m c.args.room table = record { limit = c.in-Ok-new.ensures.limit; most = c.in-Ok-new.ensures.most ∙ c.seats_of.ensures.count } in
    let made = c.thaw_in-begun.ensures.made (value_of_turn m span k) is in
    parts-ready m span k c.args.room c.in-Ok.layout c.in-Ok.ensures table for c.in-Ok-new.opened.1 c.in-Ok-new.ensures.seat c.thaw_in-begun.result.0 c.thaw_in-begun.ensures.standing c.facts.ensures c.thaw_in-begun.result.1 made c.in_ok-parts.parts c.in_ok-parts.was

pub turn_in-seat-requires-clause-splits : goal.turn_in-seat-requires-clause-splits
turn_in-seat-requires-clause-splits g c κs within =
    let m = c.args.model.now in
    let span = c.args.options.span in
    let k = c.args.turn in
    let law : IsLawful m = subst IsLawful c.model.view_is c.model.invariant in
    let is : IsValueList m (value_of_turn m span k) c.args.value.now = record { bounded = turn-bounded m law c.requires.valid span k; list = c.requires.value } in
    let table = c.in-Ok-new.opened.0 in
    let for : IsTableFor m c.args.room table = record { limit = c.in-Ok-new.ensures.limit; most = c.in-Ok-new.ensures.most ∙ c.seats_of.ensures.count } in
    let made = c.thaw_in-begun.ensures.made (value_of_turn m span k) is in
    parts-few m span k c.args.room c.in-Ok.layout c.in-Ok.ensures table for c.in-Ok-new.opened.1 c.in-Ok-new.ensures.seat c.thaw_in-begun.result.0 c.thaw_in-begun.ensures.standing c.facts.ensures c.thaw_in-begun.result.1 made c.in_ok-parts.parts c.in_ok-parts.was

pub returns-in_err-finished-clause-fault : goal.returns-in_err-finished-clause-fault
returns-in_err-finished-clause-fault g c =
    let m = c.args.model.now in
    let span = c.args.options.span in
    let k = c.args.turn in
    let law : IsLawful m = subst IsLawful c.model.view_is c.model.invariant in
    let is : IsValueList m (value_of_turn m span k) c.args.value.now = record { bounded = turn-bounded m law c.requires.valid span k; list = c.requires.value } in
    let table = c.in-Ok-new.opened.0 in
    let for : IsTableFor m c.args.room table = record { limit = c.in-Ok-new.ensures.limit; most = c.in-Ok-new.ensures.most ∙ c.seats_of.ensures.count } in
    let made = c.thaw_in-begun.ensures.made (value_of_turn m span k) is in
    subst (λ r. IfErr r (IsTooSmall m span k c.args.room)) (sym (err_is c.from_residual-in_err-finished.result c.in_err-finished.field-0.0 c.from_residual-in_err-finished.ensures.1))
    (turn-small m span k c.args.room c.in-Ok.layout c.in-Ok.ensures table for c.in-Ok-new.opened.1 c.in-Ok-new.ensures.seat c.thaw_in-begun.result.0 c.thaw_in-begun.ensures.standing c.facts.ensures c.thaw_in-begun.result.1 made c.in_ok-parts.parts c.in_ok-parts.was c.turn_in-seat.result.0 c.facts-2.ensures c.turn_in-seat.ensures.table c.turn_in-seat.ensures.shares c.turn_in-seat.ensures.made c.turn_in-seat.result.1 c.turn_in-seat.ensures.full c.in_err-finished.field-0.0 c.in_err-finished.was)

pub returns-clause-ok : goal.returns-clause-ok
returns-clause-ok g c =
    let m = c.args.model.now in
    let span = c.args.options.span in
    let k = c.args.turn in
    let law : IsLawful m = subst IsLawful c.model.view_is c.model.invariant in
    let is : IsValueList m (value_of_turn m span k) c.args.value.now = record { bounded = turn-bounded m law c.requires.valid span k; list = c.requires.value } in
    let table = c.in-Ok-new.opened.0 in
    let for : IsTableFor m c.args.room table = record { limit = c.in-Ok-new.ensures.limit; most = c.in-Ok-new.ensures.most ∙ c.seats_of.ensures.count } in
    let made = c.thaw_in-begun.ensures.made (value_of_turn m span k) is in
    record {
      finished = ok-of (IsFinished m span k) c.turn_in-seat.result.1 c.turn_in-seat.ensures.finished c.in_ok-finished.was;
      holds = turn-holds m span k c.args.room c.in-Ok.layout c.in-Ok.ensures table for c.in-Ok-new.opened.1 c.in-Ok-new.ensures.seat c.thaw_in-begun.result.0 c.thaw_in-begun.ensures.standing c.facts.ensures c.thaw_in-begun.result.1 made c.in_ok-parts.parts c.in_ok-parts.was c.turn_in-seat.result.0 c.facts-2.ensures c.turn_in-seat.ensures.table c.turn_in-seat.ensures.shares c.turn_in-seat.ensures.made
          (on-of c.turn_in-seat.result.1 c.turn_in-seat.ensures.splits c.in_ok-finished.was)
          (on-of c.turn_in-seat.result.1 c.turn_in-seat.ensures.knows c.in_ok-finished.was);
    }
