use Rattle.std.proofs.Common.{◌≡◌, rules, sym, subst, FitsSigned, to_z, of_z, ℤ, List}
use Rattle.std.proofs.lemmas.Int.{to_z-of_z}
use mir.Syntax.{w128}
use Rattle.spd_model.specs.Turns.{turn as table_of_turn}
use Rattle.spd_nodes.specs.Grove.{shown_of}
use Rattle.spd_nodes.specs.Made.{MakesAll}
use Rattle.spd_backup.specs.declared.backing.Bounds.{Bounds}
use Rattle.spd_backup.specs.Expected.{IsMade}
use Rattle.spd_turn.specs.Turn.{CanFinish, finish_functions, greatest_low, value_of_turn}
use Rattle.spd_turn.proofs.AttemptLaws.{backups-made, can-finish, on-ok, turn-known, turn-made}
use Rattle.spd_turn.proofs.trying.turn_on.Goals as goal

pub returns-in_err-bounds-clause-made : goal.returns-in_err-bounds-clause-made
returns-in_err-bounds-clause-made g c =
    let m = c.args.model.now in
    let span = c.args.options.span in
    let k = c.args.turn in
    let s = shown_of c.args.grove.now in
    let t = shown_of c.backup_actions.new.grove in
    backups-made m span k s c.args.parts.now c.requires.ready t (c.in_err-bounds.ensures.made m (value_of_turn m span k) c.requires.ready.can)

pub finish-requires-clause-ready : goal.finish-requires-clause-ready
finish-requires-clause-ready g c =
    let m = c.args.model.now in
    let span = c.args.options.span in
    let k = c.args.turn in
    let s = shown_of c.args.grove.now in
    let t = shown_of c.backup_actions.new.grove in
    let fits : FitsSigned w128 span = search rules in
    let e : to_z w128 (of_z w128 span) ≡ span = to_z-of_z w128 span fits in
    let value = value_of_turn m span k in
    subst (λ (l : List Bounds). CanFinish m (to_z w128 (of_z w128 span)) k t c.args.parts.now.w l) (sym c.as_slice.ensures.value)
    (subst (λ (z : ℤ). CanFinish m z k t c.args.parts.now.w c.in_ok-bounds.bounds.items) (sym e)
    (can-finish m span k s c.args.parts.now c.requires.ready t (c.in_ok-bounds.ensures.made m value c.requires.ready.can) c.in_ok-bounds.bounds.items (c.in_ok-bounds.ensures.ok m value c.requires.ready.can)))

pub returns-clause-made : goal.returns-clause-made
returns-clause-made g c =
    let m = c.args.model.now in
    let span = c.args.options.span in
    let k = c.args.turn in
    let s = shown_of c.args.grove.now in
    let t = shown_of c.backup_actions.new.grove in
    let u = shown_of c.finish.new.forest in
    let fits : FitsSigned w128 span = search rules in
    let e : to_z w128 (of_z w128 span) ≡ span = to_z-of_z w128 span fits in
    let value = value_of_turn m span k in
    turn-made m span k s c.args.parts.now c.requires.ready t (c.in_ok-bounds.ensures.made m value c.requires.ready.can) c.in_ok-bounds.bounds.items (c.in_ok-bounds.ensures.ok m value c.requires.ready.can) u c.finish.result
    (subst (λ (z : ℤ). MakesAll t u (finish_functions m z (table_of_turn m z k)) c.finish.result) e c.finish.ensures.made)

pub returns-clause-knows : goal.returns-clause-knows
returns-clause-knows g c =
    let m = c.args.model.now in
    let span = c.args.options.span in
    let k = c.args.turn in
    let s = shown_of c.args.grove.now in
    let t = shown_of c.backup_actions.new.grove in
    let u = shown_of c.finish.new.forest in
    let fits : FitsSigned w128 span = search rules in
    let e : to_z w128 (of_z w128 span) ≡ span = to_z-of_z w128 span fits in
    let value = value_of_turn m span k in
    on-ok c.finish.result (λ low.
    turn-known m span k s c.args.parts.now c.requires.ready t (c.in_ok-bounds.ensures.made m value c.requires.ready.can) c.in_ok-bounds.bounds.items (c.in_ok-bounds.ensures.ok m value c.requires.ready.can) u c.finish.result
    (subst (λ (z : ℤ). MakesAll t u (finish_functions m z (table_of_turn m z k)) c.finish.result) e c.finish.ensures.made)
    (subst (λ (z : ℤ). IsMade u (greatest_low m z k)) e low)) c.finish.ensures.low
