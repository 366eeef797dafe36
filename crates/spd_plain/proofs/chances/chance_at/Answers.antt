use Rattle.std.proofs.Common.{rules, ◌∙◌, ◌^◌, ◌++◌, pos, List, take, drop, get_or, Some, None, ap, sym, subst, arith, FitsSigned}
use Rattle.std.proofs.lemmas.Int.{to_z-of_z}
use Rattle.std.proofs.lemmas.List.Elements.{All-contains}
use Rattle.std.proofs.lemmas.Option.{slice_get_read}
use mir.Syntax.{w128}
use Rattle.spd_scaled.specs.Scaled.{IsWithin}
use Rattle.spd_model.specs.declared.tree.Tree.{Tree}
use Rattle.spd_model.specs.Trees.{value_of}
use Rattle.spd_model.specs.Lawful.{IsAction, IsTable}
use Rattle.spd_model.specs.States.{sizes}
use Rattle.spd_model.proofs.CallerLemmas.StateOrder.{length-IsState, length-sizes}
use Rattle.spd_model.proofs.CallerLemmas.TreeValues.{value_within}
use Rattle.spd_plain.specs.inner.Chances.{chance_of}
use Rattle.spd_plain.proofs.TableValues.{value-from}
use Rattle.spd_plain.proofs.Tables.{near_all, own_state, state_is, state_read}
use Rattle.spd_plain.proofs.chances.chance_at.Goals as goal

pub bounds-as_slice-place : goal.bounds-as_slice-place
bounds-as_slice-place c = near_all c.requires.space c.as_slice.ensures c.args.axis.now c.requires.axis c.args.place c.requires.place

pub value-requires-clause-next : goal.value-requires-clause-next
value-requires-clause-next c =
    state_read c.requires.space c.as_slice.ensures c.args.place (near_all c.requires.space c.as_slice.ensures c.args.axis.now c.requires.axis c.args.place c.requires.place) c.index-as_slice-place.is

-- the table that is read
is_table : (c : goal.After-value) → IsTable c.args.model.now c.args.axis.now.var c.index-as_slice-axis.result
is_table c =
    let m = c.args.model.now in
    let i = c.args.axis.now.var in
    let action = All-contains (IsAction m) m.actions c.args.action.now c.requires.space.law.actions c.requires.action in
    let tree = c.index-as_slice-axis.result in
    subst (IsTable m i) (sym (c.index-as_slice-axis.is ∙ ap (λ (l : List Tree). get_or l i tree) c.as_slice-2.ensures)) (action.tables i tree c.requires.axis.near)

pub returns-clause-within : goal.returns-clause-within
returns-clause-within c =
    let fits : FitsSigned w128 c.value.result = search rules in
    simp to_z-of_z (subst (IsWithin (pos (10 ^ 30))) (sym c.value.ensures)
    (value_within c.args.model.now c.index-as_slice-axis.result c.args.s.now c.index-as_slice-place.result (is_table c).form.fits))

pub returns-clause-value : goal.returns-clause-value
returns-clause-value c =
    let m = c.args.model.now in
    let s = c.args.s.now in
    let axis = c.args.axis.now in
    let i = axis.var in
    let a = c.args.action.now in
    let action = All-contains (IsAction m) m.actions a c.requires.space.law.actions c.requires.action in
    let tree = c.index-as_slice-axis.result in
    let found = slice_get_read a.tables _ i tree (sym action.one_each) c.requires.axis.near
    (c.index-as_slice-axis.is ∙ ap (λ (l : List Tree). get_or l i tree) c.as_slice-2.ensures) in
    let next = c.index-as_slice-place.result in
    let near = near_all c.requires.space c.as_slice.ensures axis c.requires.axis c.args.place c.requires.place in
    let is = state_is c.requires.space c.as_slice.ensures c.args.place near c.index-as_slice-place.is in
    let there = state_read c.requires.space c.as_slice.ensures c.args.place near c.index-as_slice-place.is in
    let fits : FitsSigned w128 c.value.result = search rules in
    let from = value-from m i tree (is_table c).table s (omega (arith, length-IsState (sizes m) s c.requires.state, length-sizes m)) next
    (omega (arith, length-IsState (sizes m) next there, length-sizes m)) in
    simp to_z-of_z (c.value.ensures ∙ from ∙ sym (ap (λ o. elim o [ None ↦ pos 0 | Some tree ↦ value_of m tree s (take i s ++ drop i next) ]) found)
    ∙ ap (chance_of m a s i) (ap (drop i) is ∙ own_state m axis c.requires.axis c.args.place c.requires.place))
