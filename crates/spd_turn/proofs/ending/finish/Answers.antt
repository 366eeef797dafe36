use Rattle.std.proofs.Common.{sym, subst, arith, Ok, Err}
use Rattle.std.proofs.lemmas.Int.{to_z-of_z}
use mir.Syntax.{w128}
use Rattle.spd_model.specs.Lawful.{IsLawful}
use Rattle.spd_model.specs.Turns.{turn as table_of_turn}
use Rattle.spd_model.proofs.CallerLemmas.Results.{err_is}
use Rattle.spd_nodes.specs.declared.forest.StoreFault.TheVariants as Fault
use Rattle.spd_nodes.specs.Made.{MakesAll}
use Rattle.spd_ranges.specs.Merging.{MergesTurn}
use Rattle.spd_turn.specs.declared.ending.Finished.{Finished}
use Rattle.spd_backup.specs.Expected.{IsMade}
use Rattle.spd_turn.specs.Turn.{finish_functions, greatest_low, value_of_turn}
use Rattle.spd_turn.proofs.FinishLaws.{best-fails, best-fit, best-have, best-then, bounds-fit, bounds-then, finish-is, finish-low, finish-made, finish-out, gap-fails, gap-within, layout-then, merge-fails, next-told, numbers-then, policy-told, ready-count, ready-numeric, value-fits, value-told}
use Rattle.spd_turn.proofs.ending.finish.Goals as goal

pub best-requires-clause-bounds : goal.best-requires-clause-bounds
best-requires-clause-bounds g c =
    let m = c.args.model.now in
    let law : IsLawful m = subst IsLawful c.model.view_is c.model.invariant in
    let s = g.F.Forest.shows c.args.forest.now in
    ready-numeric m law c.requires.valid c.args.span c.args.turn s c.args.w c.args.bounds.now c.requires.ready

pub best-requires-clause-some : goal.best-requires-clause-some
best-requires-clause-some g c =
    let m = c.args.model.now in
    let law : IsLawful m = subst IsLawful c.model.view_is c.model.invariant in
    let s = g.F.Forest.shows c.args.forest.now in
    omega (arith, ready-count m law c.requires.valid c.args.span c.args.turn s c.args.w c.args.bounds.now c.requires.ready, law.some_actions)

pub best-requires-clause-few : goal.best-requires-clause-few
best-requires-clause-few g c =
    let m = c.args.model.now in
    let law : IsLawful m = subst IsLawful c.model.view_is c.model.invariant in
    let s = g.F.Forest.shows c.args.forest.now in
    omega (arith, ready-count m law c.requires.valid c.args.span c.args.turn s c.args.w c.args.bounds.now c.requires.ready, law.few_actions)

pub returns-in_err-chosen-clause-made : goal.returns-in_err-chosen-clause-made
returns-in_err-chosen-clause-made g c =
    let m = c.args.model.now in
    let law : IsLawful m = subst IsLawful c.model.view_is c.model.invariant in
    let value = value_of_turn m c.args.span c.args.turn in
    let table = table_of_turn m c.args.span c.args.turn in
    let s = g.F.Forest.shows c.args.forest.now in
    let t = g.F.Forest.shows c.best.new.forest in
    subst (MakesAll {A = Finished} s t (finish_functions m c.args.span table)) (sym (err_is c.from_residual.result c.in_err-chosen.field-0.0 c.from_residual.ensures.1))
    (best-fails m law c.requires.valid c.args.span c.args.turn s c.args.w c.args.bounds.now c.requires.ready t c.in_err-chosen.field-0.0 (c.in_err-chosen.ensures.policy m value c.requires.ready.bounds))

pub merge-requires-clause-ordered : goal.merge-requires-clause-ordered
merge-requires-clause-ordered g c =
    let m = c.args.model.now in
    let law : IsLawful m = subst IsLawful c.model.view_is c.model.invariant in
    let value = value_of_turn m c.args.span c.args.turn in
    let table = table_of_turn m c.args.span c.args.turn in
    let s = g.F.Forest.shows c.args.forest.now in
    let t = g.F.Forest.shows c.best.new.forest in
    best-fit m law c.requires.valid c.args.span c.args.turn s c.args.w c.args.bounds.now c.requires.ready t c.in_ok-chosen.chosen (c.in_ok-chosen.ensures.policy m value c.requires.ready.bounds) c.in_ok-chosen.ensures.made

pub returns-in_err-ranged-clause-made : goal.returns-in_err-ranged-clause-made
returns-in_err-ranged-clause-made g c =
    let m = c.args.model.now in
    let law : IsLawful m = subst IsLawful c.model.view_is c.model.invariant in
    let value = value_of_turn m c.args.span c.args.turn in
    let table = table_of_turn m c.args.span c.args.turn in
    let s = g.F.Forest.shows c.args.forest.now in
    let t = g.F.Forest.shows c.best.new.forest in
    let u = g.F.Forest.shows c.merge.new.forest in
    subst (MakesAll {A = Finished} s u (finish_functions m c.args.span table)) (sym (err_is c.from_residual-in_err-ranged.result c.in_err-ranged.field-0.0 c.from_residual-in_err-ranged.ensures.1))
    (merge-fails m law c.requires.valid c.args.span c.args.turn s c.args.w c.args.bounds.now c.requires.ready t c.in_ok-chosen.chosen (c.in_ok-chosen.ensures.policy m value c.requires.ready.bounds) c.in_ok-chosen.ensures.made u c.in_err-ranged.field-0.0 (subst (λ z. MergesTurn m z table t u (Err c.in_err-ranged.field-0.0)) (to_z-of_z w128 c.args.span c.ranges.span) (c.in_err-ranged.ensures.turn m table (best-have m law c.requires.valid c.args.span c.args.turn s c.args.w c.args.bounds.now c.requires.ready t c.in_ok-chosen.chosen (c.in_ok-chosen.ensures.policy m value c.requires.ready.bounds) c.in_ok-chosen.ensures.made))))

pub residual-requires-clause-value : goal.residual-requires-clause-value
residual-requires-clause-value g c =
    let m = c.args.model.now in
    let law : IsLawful m = subst IsLawful c.model.view_is c.model.invariant in
    let value = value_of_turn m c.args.span c.args.turn in
    let table = table_of_turn m c.args.span c.args.turn in
    let s = g.F.Forest.shows c.args.forest.now in
    let t = g.F.Forest.shows c.best.new.forest in
    let u = g.F.Forest.shows c.merge.new.forest in
    value-fits m law c.requires.valid c.args.span c.args.turn s c.args.w c.args.bounds.now c.requires.ready t c.in_ok-chosen.chosen (c.in_ok-chosen.ensures.policy m value c.requires.ready.bounds) c.in_ok-chosen.ensures.made u c.in_ok-ranged.ranged (subst (λ z. MergesTurn m z table t u (Ok c.in_ok-ranged.ranged)) (to_z-of_z w128 c.args.span c.ranges.span) (c.in_ok-ranged.ensures.turn m table (best-have m law c.requires.valid c.args.span c.args.turn s c.args.w c.args.bounds.now c.requires.ready t c.in_ok-chosen.chosen (c.in_ok-chosen.ensures.policy m value c.requires.ready.bounds) c.in_ok-chosen.ensures.made)))

pub residual-requires-clause-bounds : goal.residual-requires-clause-bounds
residual-requires-clause-bounds g c =
    let m = c.args.model.now in
    let law : IsLawful m = subst IsLawful c.model.view_is c.model.invariant in
    let value = value_of_turn m c.args.span c.args.turn in
    let table = table_of_turn m c.args.span c.args.turn in
    let s = g.F.Forest.shows c.args.forest.now in
    let t = g.F.Forest.shows c.best.new.forest in
    let u = g.F.Forest.shows c.merge.new.forest in
    bounds-fit m law c.requires.valid c.args.span c.args.turn s c.args.w c.args.bounds.now c.requires.ready t c.in_ok-chosen.chosen (c.in_ok-chosen.ensures.policy m value c.requires.ready.bounds) c.in_ok-chosen.ensures.made u c.in_ok-ranged.ranged (subst (λ z. MergesTurn m z table t u (Ok c.in_ok-ranged.ranged)) (to_z-of_z w128 c.args.span c.ranges.span) (c.in_ok-ranged.ensures.turn m table (best-have m law c.requires.valid c.args.span c.args.turn s c.args.w c.args.bounds.now c.requires.ready t c.in_ok-chosen.chosen (c.in_ok-chosen.ensures.policy m value c.requires.ready.bounds) c.in_ok-chosen.ensures.made)))

pub residual-requires-clause-some : goal.residual-requires-clause-some
residual-requires-clause-some g c =
    let m = c.args.model.now in
    let law : IsLawful m = subst IsLawful c.model.view_is c.model.invariant in
    let s = g.F.Forest.shows c.args.forest.now in
    omega (arith, ready-count m law c.requires.valid c.args.span c.args.turn s c.args.w c.args.bounds.now c.requires.ready, law.some_actions)

pub residual-requires-clause-few : goal.residual-requires-clause-few
residual-requires-clause-few g c =
    let m = c.args.model.now in
    let law : IsLawful m = subst IsLawful c.model.view_is c.model.invariant in
    let s = g.F.Forest.shows c.args.forest.now in
    omega (arith, ready-count m law c.requires.valid c.args.span c.args.turn s c.args.w c.args.bounds.now c.requires.ready, law.few_actions)

pub residual-requires-clause-best : goal.residual-requires-clause-best
residual-requires-clause-best g c =
    let m = c.args.model.now in
    let law : IsLawful m = subst IsLawful c.model.view_is c.model.invariant in
    let value = value_of_turn m c.args.span c.args.turn in
    let table = table_of_turn m c.args.span c.args.turn in
    let s = g.F.Forest.shows c.args.forest.now in
    let t = g.F.Forest.shows c.best.new.forest in
    let u = g.F.Forest.shows c.merge.new.forest in
    best-then m law c.requires.valid c.args.span c.args.turn s c.args.w c.args.bounds.now c.requires.ready t c.in_ok-chosen.chosen (c.in_ok-chosen.ensures.policy m value c.requires.ready.bounds) c.in_ok-chosen.ensures.made u c.in_ok-ranged.ranged (subst (λ z. MergesTurn m z table t u (Ok c.in_ok-ranged.ranged)) (to_z-of_z w128 c.args.span c.ranges.span) (c.in_ok-ranged.ensures.turn m table (best-have m law c.requires.valid c.args.span c.args.turn s c.args.w c.args.bounds.now c.requires.ready t c.in_ok-chosen.chosen (c.in_ok-chosen.ensures.policy m value c.requires.ready.bounds) c.in_ok-chosen.ensures.made)))

pub returns-in_err-gap-clause-made : goal.returns-in_err-gap-clause-made
returns-in_err-gap-clause-made g c =
    let m = c.args.model.now in
    let law : IsLawful m = subst IsLawful c.model.view_is c.model.invariant in
    let value = value_of_turn m c.args.span c.args.turn in
    let table = table_of_turn m c.args.span c.args.turn in
    let s = g.F.Forest.shows c.args.forest.now in
    let t = g.F.Forest.shows c.best.new.forest in
    let u = g.F.Forest.shows c.merge.new.forest in
    let v = g.F.Forest.shows c.residual.new.forest in
    subst (MakesAll {A = Finished} s v (finish_functions m c.args.span table)) (sym (err_is c.from_residual-in_err-gap.result c.in_err-gap.field-0.0 c.from_residual-in_err-gap.ensures.1))
    (gap-fails m law c.requires.valid c.args.span c.args.turn s c.args.w c.args.bounds.now c.requires.ready t c.in_ok-chosen.chosen (c.in_ok-chosen.ensures.policy m value c.requires.ready.bounds) c.in_ok-chosen.ensures.made u c.in_ok-ranged.ranged (subst (λ z. MergesTurn m z table t u (Ok c.in_ok-ranged.ranged)) (to_z-of_z w128 c.args.span c.ranges.span) (c.in_ok-ranged.ensures.turn m table (best-have m law c.requires.valid c.args.span c.args.turn s c.args.w c.args.bounds.now c.requires.ready t c.in_ok-chosen.chosen (c.in_ok-chosen.ensures.policy m value c.requires.ready.bounds) c.in_ok-chosen.ensures.made))) v c.in_err-gap.field-0.0 (c.in_err-gap.ensures.process m value (layout-then m law c.requires.valid c.args.span c.args.turn s c.args.w c.args.bounds.now c.requires.ready t c.in_ok-chosen.chosen (c.in_ok-chosen.ensures.policy m value c.requires.ready.bounds) c.in_ok-chosen.ensures.made u c.in_ok-ranged.ranged (subst (λ z. MergesTurn m z table t u (Ok c.in_ok-ranged.ranged)) (to_z-of_z w128 c.args.span c.ranges.span) (c.in_ok-ranged.ensures.turn m table (best-have m law c.requires.valid c.args.span c.args.turn s c.args.w c.args.bounds.now c.requires.ready t c.in_ok-chosen.chosen (c.in_ok-chosen.ensures.policy m value c.requires.ready.bounds) c.in_ok-chosen.ensures.made)))) (numbers-then m law c.requires.valid c.args.span c.args.turn s c.args.w c.args.bounds.now c.requires.ready t c.in_ok-chosen.chosen (c.in_ok-chosen.ensures.policy m value c.requires.ready.bounds) c.in_ok-chosen.ensures.made u c.in_ok-ranged.ranged (subst (λ z. MergesTurn m z table t u (Ok c.in_ok-ranged.ranged)) (to_z-of_z w128 c.args.span c.ranges.span) (c.in_ok-ranged.ensures.turn m table (best-have m law c.requires.valid c.args.span c.args.turn s c.args.w c.args.bounds.now c.requires.ready t c.in_ok-chosen.chosen (c.in_ok-chosen.ensures.policy m value c.requires.ready.bounds) c.in_ok-chosen.ensures.made)))) (bounds-then m law c.requires.valid c.args.span c.args.turn s c.args.w c.args.bounds.now c.requires.ready t c.in_ok-chosen.chosen (c.in_ok-chosen.ensures.policy m value c.requires.ready.bounds) c.in_ok-chosen.ensures.made u c.in_ok-ranged.ranged (subst (λ z. MergesTurn m z table t u (Ok c.in_ok-ranged.ranged)) (to_z-of_z w128 c.args.span c.ranges.span) (c.in_ok-ranged.ensures.turn m table (best-have m law c.requires.valid c.args.span c.args.turn s c.args.w c.args.bounds.now c.requires.ready t c.in_ok-chosen.chosen (c.in_ok-chosen.ensures.policy m value c.requires.ready.bounds) c.in_ok-chosen.ensures.made))))))

pub tell-requires-clause-value : goal.tell-requires-clause-value
tell-requires-clause-value g c =
    let m = c.args.model.now in
    let law : IsLawful m = subst IsLawful c.model.view_is c.model.invariant in
    let value = value_of_turn m c.args.span c.args.turn in
    let table = table_of_turn m c.args.span c.args.turn in
    let s = g.F.Forest.shows c.args.forest.now in
    let t = g.F.Forest.shows c.best.new.forest in
    let u = g.F.Forest.shows c.merge.new.forest in
    let v = g.F.Forest.shows c.residual.new.forest in
    value-told m law c.requires.valid c.args.span c.args.turn s c.args.w c.args.bounds.now c.requires.ready t c.in_ok-chosen.chosen (c.in_ok-chosen.ensures.policy m value c.requires.ready.bounds) c.in_ok-chosen.ensures.made u c.in_ok-ranged.ranged (subst (λ z. MergesTurn m z table t u (Ok c.in_ok-ranged.ranged)) (to_z-of_z w128 c.args.span c.ranges.span) (c.in_ok-ranged.ensures.turn m table (best-have m law c.requires.valid c.args.span c.args.turn s c.args.w c.args.bounds.now c.requires.ready t c.in_ok-chosen.chosen (c.in_ok-chosen.ensures.policy m value c.requires.ready.bounds) c.in_ok-chosen.ensures.made))) v c.in_ok-gap.gap (c.in_ok-gap.ensures.process m value (layout-then m law c.requires.valid c.args.span c.args.turn s c.args.w c.args.bounds.now c.requires.ready t c.in_ok-chosen.chosen (c.in_ok-chosen.ensures.policy m value c.requires.ready.bounds) c.in_ok-chosen.ensures.made u c.in_ok-ranged.ranged (subst (λ z. MergesTurn m z table t u (Ok c.in_ok-ranged.ranged)) (to_z-of_z w128 c.args.span c.ranges.span) (c.in_ok-ranged.ensures.turn m table (best-have m law c.requires.valid c.args.span c.args.turn s c.args.w c.args.bounds.now c.requires.ready t c.in_ok-chosen.chosen (c.in_ok-chosen.ensures.policy m value c.requires.ready.bounds) c.in_ok-chosen.ensures.made)))) (numbers-then m law c.requires.valid c.args.span c.args.turn s c.args.w c.args.bounds.now c.requires.ready t c.in_ok-chosen.chosen (c.in_ok-chosen.ensures.policy m value c.requires.ready.bounds) c.in_ok-chosen.ensures.made u c.in_ok-ranged.ranged (subst (λ z. MergesTurn m z table t u (Ok c.in_ok-ranged.ranged)) (to_z-of_z w128 c.args.span c.ranges.span) (c.in_ok-ranged.ensures.turn m table (best-have m law c.requires.valid c.args.span c.args.turn s c.args.w c.args.bounds.now c.requires.ready t c.in_ok-chosen.chosen (c.in_ok-chosen.ensures.policy m value c.requires.ready.bounds) c.in_ok-chosen.ensures.made)))) (bounds-then m law c.requires.valid c.args.span c.args.turn s c.args.w c.args.bounds.now c.requires.ready t c.in_ok-chosen.chosen (c.in_ok-chosen.ensures.policy m value c.requires.ready.bounds) c.in_ok-chosen.ensures.made u c.in_ok-ranged.ranged (subst (λ z. MergesTurn m z table t u (Ok c.in_ok-ranged.ranged)) (to_z-of_z w128 c.args.span c.ranges.span) (c.in_ok-ranged.ensures.turn m table (best-have m law c.requires.valid c.args.span c.args.turn s c.args.w c.args.bounds.now c.requires.ready t c.in_ok-chosen.chosen (c.in_ok-chosen.ensures.policy m value c.requires.ready.bounds) c.in_ok-chosen.ensures.made)))))

pub tell-requires-clause-policy : goal.tell-requires-clause-policy
tell-requires-clause-policy g c =
    let m = c.args.model.now in
    let law : IsLawful m = subst IsLawful c.model.view_is c.model.invariant in
    let value = value_of_turn m c.args.span c.args.turn in
    let table = table_of_turn m c.args.span c.args.turn in
    let s = g.F.Forest.shows c.args.forest.now in
    let t = g.F.Forest.shows c.best.new.forest in
    let u = g.F.Forest.shows c.merge.new.forest in
    let v = g.F.Forest.shows c.residual.new.forest in
    policy-told m law c.requires.valid c.args.span c.args.turn s c.args.w c.args.bounds.now c.requires.ready t c.in_ok-chosen.chosen (c.in_ok-chosen.ensures.policy m value c.requires.ready.bounds) c.in_ok-chosen.ensures.made u c.in_ok-ranged.ranged (subst (λ z. MergesTurn m z table t u (Ok c.in_ok-ranged.ranged)) (to_z-of_z w128 c.args.span c.ranges.span) (c.in_ok-ranged.ensures.turn m table (best-have m law c.requires.valid c.args.span c.args.turn s c.args.w c.args.bounds.now c.requires.ready t c.in_ok-chosen.chosen (c.in_ok-chosen.ensures.policy m value c.requires.ready.bounds) c.in_ok-chosen.ensures.made))) v c.in_ok-gap.gap (c.in_ok-gap.ensures.process m value (layout-then m law c.requires.valid c.args.span c.args.turn s c.args.w c.args.bounds.now c.requires.ready t c.in_ok-chosen.chosen (c.in_ok-chosen.ensures.policy m value c.requires.ready.bounds) c.in_ok-chosen.ensures.made u c.in_ok-ranged.ranged (subst (λ z. MergesTurn m z table t u (Ok c.in_ok-ranged.ranged)) (to_z-of_z w128 c.args.span c.ranges.span) (c.in_ok-ranged.ensures.turn m table (best-have m law c.requires.valid c.args.span c.args.turn s c.args.w c.args.bounds.now c.requires.ready t c.in_ok-chosen.chosen (c.in_ok-chosen.ensures.policy m value c.requires.ready.bounds) c.in_ok-chosen.ensures.made)))) (numbers-then m law c.requires.valid c.args.span c.args.turn s c.args.w c.args.bounds.now c.requires.ready t c.in_ok-chosen.chosen (c.in_ok-chosen.ensures.policy m value c.requires.ready.bounds) c.in_ok-chosen.ensures.made u c.in_ok-ranged.ranged (subst (λ z. MergesTurn m z table t u (Ok c.in_ok-ranged.ranged)) (to_z-of_z w128 c.args.span c.ranges.span) (c.in_ok-ranged.ensures.turn m table (best-have m law c.requires.valid c.args.span c.args.turn s c.args.w c.args.bounds.now c.requires.ready t c.in_ok-chosen.chosen (c.in_ok-chosen.ensures.policy m value c.requires.ready.bounds) c.in_ok-chosen.ensures.made)))) (bounds-then m law c.requires.valid c.args.span c.args.turn s c.args.w c.args.bounds.now c.requires.ready t c.in_ok-chosen.chosen (c.in_ok-chosen.ensures.policy m value c.requires.ready.bounds) c.in_ok-chosen.ensures.made u c.in_ok-ranged.ranged (subst (λ z. MergesTurn m z table t u (Ok c.in_ok-ranged.ranged)) (to_z-of_z w128 c.args.span c.ranges.span) (c.in_ok-ranged.ensures.turn m table (best-have m law c.requires.valid c.args.span c.args.turn s c.args.w c.args.bounds.now c.requires.ready t c.in_ok-chosen.chosen (c.in_ok-chosen.ensures.policy m value c.requires.ready.bounds) c.in_ok-chosen.ensures.made)))))

pub tell-requires-clause-next : goal.tell-requires-clause-next
tell-requires-clause-next g c =
    let m = c.args.model.now in
    let law : IsLawful m = subst IsLawful c.model.view_is c.model.invariant in
    let value = value_of_turn m c.args.span c.args.turn in
    let table = table_of_turn m c.args.span c.args.turn in
    let s = g.F.Forest.shows c.args.forest.now in
    let t = g.F.Forest.shows c.best.new.forest in
    let u = g.F.Forest.shows c.merge.new.forest in
    let v = g.F.Forest.shows c.residual.new.forest in
    next-told m law c.requires.valid c.args.span c.args.turn s c.args.w c.args.bounds.now c.requires.ready t c.in_ok-chosen.chosen (c.in_ok-chosen.ensures.policy m value c.requires.ready.bounds) c.in_ok-chosen.ensures.made u c.in_ok-ranged.ranged (subst (λ z. MergesTurn m z table t u (Ok c.in_ok-ranged.ranged)) (to_z-of_z w128 c.args.span c.ranges.span) (c.in_ok-ranged.ensures.turn m table (best-have m law c.requires.valid c.args.span c.args.turn s c.args.w c.args.bounds.now c.requires.ready t c.in_ok-chosen.chosen (c.in_ok-chosen.ensures.policy m value c.requires.ready.bounds) c.in_ok-chosen.ensures.made))) v c.in_ok-gap.gap (c.in_ok-gap.ensures.process m value (layout-then m law c.requires.valid c.args.span c.args.turn s c.args.w c.args.bounds.now c.requires.ready t c.in_ok-chosen.chosen (c.in_ok-chosen.ensures.policy m value c.requires.ready.bounds) c.in_ok-chosen.ensures.made u c.in_ok-ranged.ranged (subst (λ z. MergesTurn m z table t u (Ok c.in_ok-ranged.ranged)) (to_z-of_z w128 c.args.span c.ranges.span) (c.in_ok-ranged.ensures.turn m table (best-have m law c.requires.valid c.args.span c.args.turn s c.args.w c.args.bounds.now c.requires.ready t c.in_ok-chosen.chosen (c.in_ok-chosen.ensures.policy m value c.requires.ready.bounds) c.in_ok-chosen.ensures.made)))) (numbers-then m law c.requires.valid c.args.span c.args.turn s c.args.w c.args.bounds.now c.requires.ready t c.in_ok-chosen.chosen (c.in_ok-chosen.ensures.policy m value c.requires.ready.bounds) c.in_ok-chosen.ensures.made u c.in_ok-ranged.ranged (subst (λ z. MergesTurn m z table t u (Ok c.in_ok-ranged.ranged)) (to_z-of_z w128 c.args.span c.ranges.span) (c.in_ok-ranged.ensures.turn m table (best-have m law c.requires.valid c.args.span c.args.turn s c.args.w c.args.bounds.now c.requires.ready t c.in_ok-chosen.chosen (c.in_ok-chosen.ensures.policy m value c.requires.ready.bounds) c.in_ok-chosen.ensures.made)))) (bounds-then m law c.requires.valid c.args.span c.args.turn s c.args.w c.args.bounds.now c.requires.ready t c.in_ok-chosen.chosen (c.in_ok-chosen.ensures.policy m value c.requires.ready.bounds) c.in_ok-chosen.ensures.made u c.in_ok-ranged.ranged (subst (λ z. MergesTurn m z table t u (Ok c.in_ok-ranged.ranged)) (to_z-of_z w128 c.args.span c.ranges.span) (c.in_ok-ranged.ensures.turn m table (best-have m law c.requires.valid c.args.span c.args.turn s c.args.w c.args.bounds.now c.requires.ready t c.in_ok-chosen.chosen (c.in_ok-chosen.ensures.policy m value c.requires.ready.bounds) c.in_ok-chosen.ensures.made)))))

pub tell-requires-clause-residual : goal.tell-requires-clause-residual
tell-requires-clause-residual g c =
    let m = c.args.model.now in
    let law : IsLawful m = subst IsLawful c.model.view_is c.model.invariant in
    let value = value_of_turn m c.args.span c.args.turn in
    let table = table_of_turn m c.args.span c.args.turn in
    let s = g.F.Forest.shows c.args.forest.now in
    let t = g.F.Forest.shows c.best.new.forest in
    let u = g.F.Forest.shows c.merge.new.forest in
    let v = g.F.Forest.shows c.residual.new.forest in
    gap-within m law c.requires.valid c.args.span c.args.turn s c.args.w c.args.bounds.now c.requires.ready t c.in_ok-chosen.chosen (c.in_ok-chosen.ensures.policy m value c.requires.ready.bounds) c.in_ok-chosen.ensures.made u c.in_ok-ranged.ranged (subst (λ z. MergesTurn m z table t u (Ok c.in_ok-ranged.ranged)) (to_z-of_z w128 c.args.span c.ranges.span) (c.in_ok-ranged.ensures.turn m table (best-have m law c.requires.valid c.args.span c.args.turn s c.args.w c.args.bounds.now c.requires.ready t c.in_ok-chosen.chosen (c.in_ok-chosen.ensures.policy m value c.requires.ready.bounds) c.in_ok-chosen.ensures.made))) v c.in_ok-gap.gap (c.in_ok-gap.ensures.process m value (layout-then m law c.requires.valid c.args.span c.args.turn s c.args.w c.args.bounds.now c.requires.ready t c.in_ok-chosen.chosen (c.in_ok-chosen.ensures.policy m value c.requires.ready.bounds) c.in_ok-chosen.ensures.made u c.in_ok-ranged.ranged (subst (λ z. MergesTurn m z table t u (Ok c.in_ok-ranged.ranged)) (to_z-of_z w128 c.args.span c.ranges.span) (c.in_ok-ranged.ensures.turn m table (best-have m law c.requires.valid c.args.span c.args.turn s c.args.w c.args.bounds.now c.requires.ready t c.in_ok-chosen.chosen (c.in_ok-chosen.ensures.policy m value c.requires.ready.bounds) c.in_ok-chosen.ensures.made)))) (numbers-then m law c.requires.valid c.args.span c.args.turn s c.args.w c.args.bounds.now c.requires.ready t c.in_ok-chosen.chosen (c.in_ok-chosen.ensures.policy m value c.requires.ready.bounds) c.in_ok-chosen.ensures.made u c.in_ok-ranged.ranged (subst (λ z. MergesTurn m z table t u (Ok c.in_ok-ranged.ranged)) (to_z-of_z w128 c.args.span c.ranges.span) (c.in_ok-ranged.ensures.turn m table (best-have m law c.requires.valid c.args.span c.args.turn s c.args.w c.args.bounds.now c.requires.ready t c.in_ok-chosen.chosen (c.in_ok-chosen.ensures.policy m value c.requires.ready.bounds) c.in_ok-chosen.ensures.made)))) (bounds-then m law c.requires.valid c.args.span c.args.turn s c.args.w c.args.bounds.now c.requires.ready t c.in_ok-chosen.chosen (c.in_ok-chosen.ensures.policy m value c.requires.ready.bounds) c.in_ok-chosen.ensures.made u c.in_ok-ranged.ranged (subst (λ z. MergesTurn m z table t u (Ok c.in_ok-ranged.ranged)) (to_z-of_z w128 c.args.span c.ranges.span) (c.in_ok-ranged.ensures.turn m table (best-have m law c.requires.valid c.args.span c.args.turn s c.args.w c.args.bounds.now c.requires.ready t c.in_ok-chosen.chosen (c.in_ok-chosen.ensures.policy m value c.requires.ready.bounds) c.in_ok-chosen.ensures.made)))))

pub returns-in-Ok-clause-made : goal.returns-in-Ok-clause-made
returns-in-Ok-clause-made g c =
    let m = c.args.model.now in
    let law : IsLawful m = subst IsLawful c.model.view_is c.model.invariant in
    let value = value_of_turn m c.args.span c.args.turn in
    let table = table_of_turn m c.args.span c.args.turn in
    let s = g.F.Forest.shows c.args.forest.now in
    let t = g.F.Forest.shows c.best.new.forest in
    let u = g.F.Forest.shows c.merge.new.forest in
    let v = g.F.Forest.shows c.residual.new.forest in
    subst (λ z. MakesAll {A = Finished} s z (finish_functions m c.args.span table) (Ok c.in-Ok.finished)) (sym c.tell.ensures.same) (finish-made m law c.requires.valid c.args.span c.args.turn s c.args.w c.args.bounds.now c.requires.ready t c.in_ok-chosen.chosen (c.in_ok-chosen.ensures.policy m value c.requires.ready.bounds) c.in_ok-chosen.ensures.made u c.in_ok-ranged.ranged (subst (λ z. MergesTurn m z table t u (Ok c.in_ok-ranged.ranged)) (to_z-of_z w128 c.args.span c.ranges.span) (c.in_ok-ranged.ensures.turn m table (best-have m law c.requires.valid c.args.span c.args.turn s c.args.w c.args.bounds.now c.requires.ready t c.in_ok-chosen.chosen (c.in_ok-chosen.ensures.policy m value c.requires.ready.bounds) c.in_ok-chosen.ensures.made))) v c.in_ok-gap.gap (c.in_ok-gap.ensures.process m value (layout-then m law c.requires.valid c.args.span c.args.turn s c.args.w c.args.bounds.now c.requires.ready t c.in_ok-chosen.chosen (c.in_ok-chosen.ensures.policy m value c.requires.ready.bounds) c.in_ok-chosen.ensures.made u c.in_ok-ranged.ranged (subst (λ z. MergesTurn m z table t u (Ok c.in_ok-ranged.ranged)) (to_z-of_z w128 c.args.span c.ranges.span) (c.in_ok-ranged.ensures.turn m table (best-have m law c.requires.valid c.args.span c.args.turn s c.args.w c.args.bounds.now c.requires.ready t c.in_ok-chosen.chosen (c.in_ok-chosen.ensures.policy m value c.requires.ready.bounds) c.in_ok-chosen.ensures.made)))) (numbers-then m law c.requires.valid c.args.span c.args.turn s c.args.w c.args.bounds.now c.requires.ready t c.in_ok-chosen.chosen (c.in_ok-chosen.ensures.policy m value c.requires.ready.bounds) c.in_ok-chosen.ensures.made u c.in_ok-ranged.ranged (subst (λ z. MergesTurn m z table t u (Ok c.in_ok-ranged.ranged)) (to_z-of_z w128 c.args.span c.ranges.span) (c.in_ok-ranged.ensures.turn m table (best-have m law c.requires.valid c.args.span c.args.turn s c.args.w c.args.bounds.now c.requires.ready t c.in_ok-chosen.chosen (c.in_ok-chosen.ensures.policy m value c.requires.ready.bounds) c.in_ok-chosen.ensures.made)))) (bounds-then m law c.requires.valid c.args.span c.args.turn s c.args.w c.args.bounds.now c.requires.ready t c.in_ok-chosen.chosen (c.in_ok-chosen.ensures.policy m value c.requires.ready.bounds) c.in_ok-chosen.ensures.made u c.in_ok-ranged.ranged (subst (λ z. MergesTurn m z table t u (Ok c.in_ok-ranged.ranged)) (to_z-of_z w128 c.args.span c.ranges.span) (c.in_ok-ranged.ensures.turn m table (best-have m law c.requires.valid c.args.span c.args.turn s c.args.w c.args.bounds.now c.requires.ready t c.in_ok-chosen.chosen (c.in_ok-chosen.ensures.policy m value c.requires.ready.bounds) c.in_ok-chosen.ensures.made))))) c.in-Ok.finished)

pub returns-in-Ok-clause-finished : goal.returns-in-Ok-clause-finished
returns-in-Ok-clause-finished g c =
    let m = c.args.model.now in
    let law : IsLawful m = subst IsLawful c.model.view_is c.model.invariant in
    let value = value_of_turn m c.args.span c.args.turn in
    let table = table_of_turn m c.args.span c.args.turn in
    let s = g.F.Forest.shows c.args.forest.now in
    let t = g.F.Forest.shows c.best.new.forest in
    let u = g.F.Forest.shows c.merge.new.forest in
    let v = g.F.Forest.shows c.residual.new.forest in
    finish-is m law c.requires.valid c.args.span c.args.turn s c.args.w c.args.bounds.now c.requires.ready t c.in_ok-chosen.chosen (c.in_ok-chosen.ensures.policy m value c.requires.ready.bounds) c.in_ok-chosen.ensures.made u c.in_ok-ranged.ranged (subst (λ z. MergesTurn m z table t u (Ok c.in_ok-ranged.ranged)) (to_z-of_z w128 c.args.span c.ranges.span) (c.in_ok-ranged.ensures.turn m table (best-have m law c.requires.valid c.args.span c.args.turn s c.args.w c.args.bounds.now c.requires.ready t c.in_ok-chosen.chosen (c.in_ok-chosen.ensures.policy m value c.requires.ready.bounds) c.in_ok-chosen.ensures.made))) v c.in_ok-gap.gap (c.in_ok-gap.ensures.process m value (layout-then m law c.requires.valid c.args.span c.args.turn s c.args.w c.args.bounds.now c.requires.ready t c.in_ok-chosen.chosen (c.in_ok-chosen.ensures.policy m value c.requires.ready.bounds) c.in_ok-chosen.ensures.made u c.in_ok-ranged.ranged (subst (λ z. MergesTurn m z table t u (Ok c.in_ok-ranged.ranged)) (to_z-of_z w128 c.args.span c.ranges.span) (c.in_ok-ranged.ensures.turn m table (best-have m law c.requires.valid c.args.span c.args.turn s c.args.w c.args.bounds.now c.requires.ready t c.in_ok-chosen.chosen (c.in_ok-chosen.ensures.policy m value c.requires.ready.bounds) c.in_ok-chosen.ensures.made)))) (numbers-then m law c.requires.valid c.args.span c.args.turn s c.args.w c.args.bounds.now c.requires.ready t c.in_ok-chosen.chosen (c.in_ok-chosen.ensures.policy m value c.requires.ready.bounds) c.in_ok-chosen.ensures.made u c.in_ok-ranged.ranged (subst (λ z. MergesTurn m z table t u (Ok c.in_ok-ranged.ranged)) (to_z-of_z w128 c.args.span c.ranges.span) (c.in_ok-ranged.ensures.turn m table (best-have m law c.requires.valid c.args.span c.args.turn s c.args.w c.args.bounds.now c.requires.ready t c.in_ok-chosen.chosen (c.in_ok-chosen.ensures.policy m value c.requires.ready.bounds) c.in_ok-chosen.ensures.made)))) (bounds-then m law c.requires.valid c.args.span c.args.turn s c.args.w c.args.bounds.now c.requires.ready t c.in_ok-chosen.chosen (c.in_ok-chosen.ensures.policy m value c.requires.ready.bounds) c.in_ok-chosen.ensures.made u c.in_ok-ranged.ranged (subst (λ z. MergesTurn m z table t u (Ok c.in_ok-ranged.ranged)) (to_z-of_z w128 c.args.span c.ranges.span) (c.in_ok-ranged.ensures.turn m table (best-have m law c.requires.valid c.args.span c.args.turn s c.args.w c.args.bounds.now c.requires.ready t c.in_ok-chosen.chosen (c.in_ok-chosen.ensures.policy m value c.requires.ready.bounds) c.in_ok-chosen.ensures.made))))) c.in-Ok.finished c.in-Ok.ensures.told

pub returns-in-Ok-clause-low : goal.returns-in-Ok-clause-low
returns-in-Ok-clause-low g c =
    let m = c.args.model.now in
    let law : IsLawful m = subst IsLawful c.model.view_is c.model.invariant in
    let value = value_of_turn m c.args.span c.args.turn in
    let table = table_of_turn m c.args.span c.args.turn in
    let s = g.F.Forest.shows c.args.forest.now in
    let t = g.F.Forest.shows c.best.new.forest in
    let u = g.F.Forest.shows c.merge.new.forest in
    let v = g.F.Forest.shows c.residual.new.forest in
    subst (λ z. IsMade z (greatest_low m c.args.span c.args.turn)) (sym c.tell.ensures.same) (finish-low m law c.requires.valid c.args.span c.args.turn s c.args.w c.args.bounds.now c.requires.ready t c.in_ok-chosen.chosen (c.in_ok-chosen.ensures.policy m value c.requires.ready.bounds) c.in_ok-chosen.ensures.made u c.in_ok-ranged.ranged (subst (λ z. MergesTurn m z table t u (Ok c.in_ok-ranged.ranged)) (to_z-of_z w128 c.args.span c.ranges.span) (c.in_ok-ranged.ensures.turn m table (best-have m law c.requires.valid c.args.span c.args.turn s c.args.w c.args.bounds.now c.requires.ready t c.in_ok-chosen.chosen (c.in_ok-chosen.ensures.policy m value c.requires.ready.bounds) c.in_ok-chosen.ensures.made))) v c.in_ok-gap.gap (c.in_ok-gap.ensures.process m value (layout-then m law c.requires.valid c.args.span c.args.turn s c.args.w c.args.bounds.now c.requires.ready t c.in_ok-chosen.chosen (c.in_ok-chosen.ensures.policy m value c.requires.ready.bounds) c.in_ok-chosen.ensures.made u c.in_ok-ranged.ranged (subst (λ z. MergesTurn m z table t u (Ok c.in_ok-ranged.ranged)) (to_z-of_z w128 c.args.span c.ranges.span) (c.in_ok-ranged.ensures.turn m table (best-have m law c.requires.valid c.args.span c.args.turn s c.args.w c.args.bounds.now c.requires.ready t c.in_ok-chosen.chosen (c.in_ok-chosen.ensures.policy m value c.requires.ready.bounds) c.in_ok-chosen.ensures.made)))) (numbers-then m law c.requires.valid c.args.span c.args.turn s c.args.w c.args.bounds.now c.requires.ready t c.in_ok-chosen.chosen (c.in_ok-chosen.ensures.policy m value c.requires.ready.bounds) c.in_ok-chosen.ensures.made u c.in_ok-ranged.ranged (subst (λ z. MergesTurn m z table t u (Ok c.in_ok-ranged.ranged)) (to_z-of_z w128 c.args.span c.ranges.span) (c.in_ok-ranged.ensures.turn m table (best-have m law c.requires.valid c.args.span c.args.turn s c.args.w c.args.bounds.now c.requires.ready t c.in_ok-chosen.chosen (c.in_ok-chosen.ensures.policy m value c.requires.ready.bounds) c.in_ok-chosen.ensures.made)))) (bounds-then m law c.requires.valid c.args.span c.args.turn s c.args.w c.args.bounds.now c.requires.ready t c.in_ok-chosen.chosen (c.in_ok-chosen.ensures.policy m value c.requires.ready.bounds) c.in_ok-chosen.ensures.made u c.in_ok-ranged.ranged (subst (λ z. MergesTurn m z table t u (Ok c.in_ok-ranged.ranged)) (to_z-of_z w128 c.args.span c.ranges.span) (c.in_ok-ranged.ensures.turn m table (best-have m law c.requires.valid c.args.span c.args.turn s c.args.w c.args.bounds.now c.requires.ready t c.in_ok-chosen.chosen (c.in_ok-chosen.ensures.policy m value c.requires.ready.bounds) c.in_ok-chosen.ensures.made))))))

pub returns-in-Err-clause-made : goal.returns-in-Err-clause-made
returns-in-Err-clause-made g c =
    let m = c.args.model.now in
    let law : IsLawful m = subst IsLawful c.model.view_is c.model.invariant in
    let value = value_of_turn m c.args.span c.args.turn in
    let table = table_of_turn m c.args.span c.args.turn in
    let s = g.F.Forest.shows c.args.forest.now in
    let t = g.F.Forest.shows c.best.new.forest in
    let u = g.F.Forest.shows c.merge.new.forest in
    let v = g.F.Forest.shows c.residual.new.forest in
    subst (λ z. MakesAll {A = Finished} s z (finish_functions m c.args.span table) (Err Fault.Memory)) (sym c.tell.ensures.same) (finish-out m law c.requires.valid c.args.span c.args.turn s c.args.w c.args.bounds.now c.requires.ready t c.in_ok-chosen.chosen (c.in_ok-chosen.ensures.policy m value c.requires.ready.bounds) c.in_ok-chosen.ensures.made u c.in_ok-ranged.ranged (subst (λ z. MergesTurn m z table t u (Ok c.in_ok-ranged.ranged)) (to_z-of_z w128 c.args.span c.ranges.span) (c.in_ok-ranged.ensures.turn m table (best-have m law c.requires.valid c.args.span c.args.turn s c.args.w c.args.bounds.now c.requires.ready t c.in_ok-chosen.chosen (c.in_ok-chosen.ensures.policy m value c.requires.ready.bounds) c.in_ok-chosen.ensures.made))) v c.in_ok-gap.gap (c.in_ok-gap.ensures.process m value (layout-then m law c.requires.valid c.args.span c.args.turn s c.args.w c.args.bounds.now c.requires.ready t c.in_ok-chosen.chosen (c.in_ok-chosen.ensures.policy m value c.requires.ready.bounds) c.in_ok-chosen.ensures.made u c.in_ok-ranged.ranged (subst (λ z. MergesTurn m z table t u (Ok c.in_ok-ranged.ranged)) (to_z-of_z w128 c.args.span c.ranges.span) (c.in_ok-ranged.ensures.turn m table (best-have m law c.requires.valid c.args.span c.args.turn s c.args.w c.args.bounds.now c.requires.ready t c.in_ok-chosen.chosen (c.in_ok-chosen.ensures.policy m value c.requires.ready.bounds) c.in_ok-chosen.ensures.made)))) (numbers-then m law c.requires.valid c.args.span c.args.turn s c.args.w c.args.bounds.now c.requires.ready t c.in_ok-chosen.chosen (c.in_ok-chosen.ensures.policy m value c.requires.ready.bounds) c.in_ok-chosen.ensures.made u c.in_ok-ranged.ranged (subst (λ z. MergesTurn m z table t u (Ok c.in_ok-ranged.ranged)) (to_z-of_z w128 c.args.span c.ranges.span) (c.in_ok-ranged.ensures.turn m table (best-have m law c.requires.valid c.args.span c.args.turn s c.args.w c.args.bounds.now c.requires.ready t c.in_ok-chosen.chosen (c.in_ok-chosen.ensures.policy m value c.requires.ready.bounds) c.in_ok-chosen.ensures.made)))) (bounds-then m law c.requires.valid c.args.span c.args.turn s c.args.w c.args.bounds.now c.requires.ready t c.in_ok-chosen.chosen (c.in_ok-chosen.ensures.policy m value c.requires.ready.bounds) c.in_ok-chosen.ensures.made u c.in_ok-ranged.ranged (subst (λ z. MergesTurn m z table t u (Ok c.in_ok-ranged.ranged)) (to_z-of_z w128 c.args.span c.ranges.span) (c.in_ok-ranged.ensures.turn m table (best-have m law c.requires.valid c.args.span c.args.turn s c.args.w c.args.bounds.now c.requires.ready t c.in_ok-chosen.chosen (c.in_ok-chosen.ensures.policy m value c.requires.ready.bounds) c.in_ok-chosen.ensures.made))))))
