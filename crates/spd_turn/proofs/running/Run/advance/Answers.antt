use Rattle.std.proofs.Common.{◌≡◌, suc, ◌+◌, ◌<◌, ◌^◌, true, false, pos, to_z, of_z, refl, sym, ◌∙◌, ap, subst, arith}
use mir.Syntax.{w128}
use Rattle.std.specs.Arc.{arc_value}
use Rattle.spd_scaled.specs.Scaled.{IsWithin}
use Rattle.spd_model.specs.Lawful.{IsLawful}
use Rattle.spd_model.specs.Turns.{rule_at}
use Rattle.spd_model.proofs.CallerLemmas.Results.{err_is}
use Rattle.spd_frozen.specs.declared.iterate.Iterate.{Iterate}
use Rattle.spd_build.specs.Built.{frozen_numbers}
use Rattle.spd_turn.specs.Runs.{RunValue, IsFaultOf, AnswersRun}
use Rattle.spd_turn.specs.Turn.{value_of_turn}
use Rattle.spd_turn.proofs.RunLaws.{one-more, rule-told, run-from, run-within, told-fits}
use Rattle.spd_turn.proofs.running.Run.advance.Goals as goal

pub is_done-requires : goal.is_done-requires
is_done-requires g c =
    let r : RunValue = record { process = c.self.inside.model.now; built = c.self.inside.built.now; options = c.self.inside.options; iterate = arc_value c.self.inside.iterate; next = c.self.inside.next; table = c.self.inside.cons; seat = c.self.inside.seat } in
    let law : IsLawful c.self.inside.model.now = subst IsLawful c.model.view_is c.model.invariant in
    let fits = told-fits r c.deref.result.now law c.self.invariant c.deref.ensures in
    let own : IsWithin (pos (10 ^ 31)) c.deref.result.now.residual.r =
    subst (λ (y : Iterate). IsWithin (pos (10 ^ 31)) y.residual.r) (sym c.deref.ensures) (run-within r law c.self.invariant) in
    subst (IsWithin (pos (10 ^ 31))) (sym fits) own

pub returns-then-is_done : goal.returns-then-is_done
returns-then-is_done g c =
    let r : RunValue = record { process = c.self.inside.model.now; built = c.self.inside.built.now; options = c.self.inside.options; iterate = arc_value c.self.inside.iterate; next = c.self.inside.next; table = c.self.inside.cons; seat = c.self.inside.seat } in
    let law : IsLawful c.self.inside.model.now = subst IsLawful c.model.view_is c.model.invariant in
    let fits = told-fits r c.deref.result.now law c.self.invariant c.deref.ensures in
    let rule : c.is_done.result ≡ rule_at r.process r.options.span r.iterate.turn = rule-told r c.deref.result.now c.self.invariant c.deref.ensures (to_z w128 (of_z w128 c.deref.result.now.residual.r)) fits c.is_done.result c.is_done.ensures in
    (refl, subst (λ (r : RunValue). rule_at r.process r.options.span r.iterate.turn ≡ true) c.self.view_is (sym rule ∙ c.if-is_done.true))

pub returns-then-turn-self : goal.returns-then-turn-self
returns-then-turn-self g c =
    let r : RunValue = record { process = c.self.inside.model.now; built = c.self.inside.built.now; options = c.self.inside.options; iterate = arc_value c.self.inside.iterate; next = c.self.inside.next; table = c.self.inside.cons; seat = c.self.inside.seat } in
    let law : IsLawful c.self.inside.model.now = subst IsLawful c.model.view_is c.model.invariant in
    let fits = told-fits r c.deref.result.now law c.self.invariant c.deref.ensures in
    let rule : c.is_done.result ≡ rule_at r.process r.options.span r.iterate.turn = rule-told r c.deref.result.now c.self.invariant c.deref.ensures (to_z w128 (of_z w128 c.deref.result.now.residual.r)) fits c.is_done.result c.is_done.ensures in
    let no : rule_at r.process r.options.span r.iterate.turn ≡ false = sym rule ∙ c.if-is_done.false in
    let now : c.deref-2.result.now.turn ≡ r.iterate.turn = ap (λ (x : Iterate). x.turn) c.deref-2.ensures in
    let last : r.iterate.turn ≡ r.options.turns = sym now ∙ c.if-turn-self.true in (
      refl,
      subst (λ (r : RunValue). rule_at r.process r.options.span r.iterate.turn ≡ false) c.self.view_is no,
      subst (λ (r : RunValue). r.iterate.turn ≡ r.options.turns) c.self.view_is last,
    )

pub make_turn-requires-clause-value : goal.make_turn-requires-clause-value
make_turn-requires-clause-value g c κs within =
    let r : RunValue = record { process = c.self.inside.model.now; built = c.self.inside.built.now; options = c.self.inside.options; iterate = arc_value c.self.inside.iterate; next = c.self.inside.next; table = c.self.inside.cons; seat = c.self.inside.seat } in
    let now : c.deref-2.result.now.turn ≡ r.iterate.turn = ap (λ (x : Iterate). x.turn) c.deref-2.ensures in
    let up : suc r.iterate.turn ≡ c.deref-2.result.now.turn + 1 = omega (arith, now) in
    c.self.invariant.next ∙ ap (λ n. frozen_numbers r.process (value_of_turn r.process r.options.span n)) up

pub returns-in_err-finished : goal.returns-in_err-finished
returns-in_err-finished g c =
    let r : RunValue = record { process = c.self.inside.model.now; built = c.self.inside.built.now; options = c.self.inside.options; iterate = arc_value c.self.inside.iterate; next = c.self.inside.next; table = c.self.inside.cons; seat = c.self.inside.seat } in
    let law : IsLawful c.self.inside.model.now = subst IsLawful c.model.view_is c.model.invariant in
    let fits = told-fits r c.deref.result.now law c.self.invariant c.deref.ensures in
    let rule : c.is_done.result ≡ rule_at r.process r.options.span r.iterate.turn = rule-told r c.deref.result.now c.self.invariant c.deref.ensures (to_z w128 (of_z w128 c.deref.result.now.residual.r)) fits c.is_done.result c.is_done.ensures in
    let no : rule_at r.process r.options.span r.iterate.turn ≡ false = sym rule ∙ c.if-is_done.false in
    let now : c.deref-2.result.now.turn ≡ r.iterate.turn = ap (λ (x : Iterate). x.turn) c.deref-2.ensures in
    let i = c.self.invariant in
    let less : r.iterate.turn < r.options.turns = omega (arith, i.within, now, c.if-turn-self.false) in
    let e = c.in_err-finished.field-0.0 in
    let own : IsFaultOf r.process r.options.span r.options.nodes (r.iterate.turn + 1) e =
    subst (λ n. IsFaultOf r.process r.options.span r.options.nodes (n + 1) e) now c.in_err-finished.ensures.fault in
    subst (λ a. AnswersRun c.args.self.now c.args.self.now a) (sym (err_is c.from_residual.result e c.from_residual.ensures.1)) (
      refl,
      subst (λ (r : RunValue). rule_at r.process r.options.span r.iterate.turn ≡ false) c.self.view_is no,
      subst (λ (r : RunValue). r.iterate.turn < r.options.turns) c.self.view_is less,
      subst (λ (r : RunValue). IsFaultOf r.process r.options.span r.options.nodes (r.iterate.turn + 1) e) c.self.view_is own,
    )

pub returns-in-Err : goal.returns-in-Err
returns-in-Err g c =
    let r : RunValue = record { process = c.self.inside.model.now; built = c.self.inside.built.now; options = c.self.inside.options; iterate = arc_value c.self.inside.iterate; next = c.self.inside.next; table = c.self.inside.cons; seat = c.self.inside.seat } in
    let law : IsLawful c.self.inside.model.now = subst IsLawful c.model.view_is c.model.invariant in
    let fits = told-fits r c.deref.result.now law c.self.invariant c.deref.ensures in
    let rule : c.is_done.result ≡ rule_at r.process r.options.span r.iterate.turn = rule-told r c.deref.result.now c.self.invariant c.deref.ensures (to_z w128 (of_z w128 c.deref.result.now.residual.r)) fits c.is_done.result c.is_done.ensures in
    let no : rule_at r.process r.options.span r.iterate.turn ≡ false = sym rule ∙ c.if-is_done.false in
    let now : c.deref-2.result.now.turn ≡ r.iterate.turn = ap (λ (x : Iterate). x.turn) c.deref-2.ensures in
    let i = c.self.invariant in
    let less : r.iterate.turn < r.options.turns = omega (arith, i.within, now, c.if-turn-self.false) in (
      refl,
      subst (λ (r : RunValue). rule_at r.process r.options.span r.iterate.turn ≡ false) c.self.view_is no,
      subst (λ (r : RunValue). r.iterate.turn < r.options.turns) c.self.view_is less,
      tt,
    )

pub invariant_of-self : goal.invariant_of-self
invariant_of-self g c =
    let r : RunValue = record { process = c.self.inside.model.now; built = c.self.inside.built.now; options = c.self.inside.options; iterate = arc_value c.self.inside.iterate; next = c.self.inside.next; table = c.self.inside.cons; seat = c.self.inside.seat } in
    let law : IsLawful c.self.inside.model.now = subst IsLawful c.model.view_is c.model.invariant in
    let fits = told-fits r c.deref.result.now law c.self.invariant c.deref.ensures in
    let rule : c.is_done.result ≡ rule_at r.process r.options.span r.iterate.turn = rule-told r c.deref.result.now c.self.invariant c.deref.ensures (to_z w128 (of_z w128 c.deref.result.now.residual.r)) fits c.is_done.result c.is_done.ensures in
    let no : rule_at r.process r.options.span r.iterate.turn ≡ false = sym rule ∙ c.if-is_done.false in
    let now : c.deref-2.result.now.turn ≡ r.iterate.turn = ap (λ (x : Iterate). x.turn) c.deref-2.ensures in
    let i = c.self.invariant in
    run-from r.process r.built r.options (c.deref-2.result.now.turn + 1) c.in_ok-finished.field-0 (arc_value c.in-Ok.iterate) c.in-Ok.ensures.ok i.valid i.built i.options
    c.in_ok-finished.ensures.ok c.in_ok-finished.ensures.room (omega (arith, i.within, now, c.if-turn-self.false)) (λ j h. one-more r i no j (omega (arith, now)))

pub returns : goal.returns
returns g c =
    let r : RunValue = record { process = c.self.inside.model.now; built = c.self.inside.built.now; options = c.self.inside.options; iterate = arc_value c.self.inside.iterate; next = c.self.inside.next; table = c.self.inside.cons; seat = c.self.inside.seat } in
    let law : IsLawful c.self.inside.model.now = subst IsLawful c.model.view_is c.model.invariant in
    let fits = told-fits r c.deref.result.now law c.self.invariant c.deref.ensures in
    let rule : c.is_done.result ≡ rule_at r.process r.options.span r.iterate.turn = rule-told r c.deref.result.now c.self.invariant c.deref.ensures (to_z w128 (of_z w128 c.deref.result.now.residual.r)) fits c.is_done.result c.is_done.ensures in
    let no : rule_at r.process r.options.span r.iterate.turn ≡ false = sym rule ∙ c.if-is_done.false in
    let now : c.deref-2.result.now.turn ≡ r.iterate.turn = ap (λ (x : Iterate). x.turn) c.deref-2.ensures in
    let i = c.self.invariant in
    let next : (arc_value c.in-Ok.iterate).turn ≡ r.iterate.turn + 1 =
    ap (λ (x : Iterate). x.turn) c.in-Ok.ensures.ok ∙ c.in_ok-finished.ensures.ok.finished.told.number ∙ ap (λ n. n + 1) now in
    let less : r.iterate.turn < r.options.turns = omega (arith, i.within, now, c.if-turn-self.false) in (
      record {
        same = ap (λ (r : RunValue). r.process) c.self.view_is;
        set = ap (λ (r : RunValue). r.options) c.self.view_is;
        turn = next ∙ ap (λ (r : RunValue). r.iterate.turn + 1) c.self.view_is;
      },
      subst (λ (r : RunValue). rule_at r.process r.options.span r.iterate.turn ≡ false) c.self.view_is no,
      subst (λ (r : RunValue). r.iterate.turn < r.options.turns) c.self.view_is less,
    )
