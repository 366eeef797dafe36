use Rattle.std.proofs.Common.{◌∙◌, ℕ, ℤ, List, map, refl, ap, subst, FitsSigned, rules}
use Rattle.std.specs.Int.{w128}
use Rattle.std.proofs.lemmas.Int.{to_z-of_z}
use Rattle.spd_model.specs.Lawful.{IsLawful}
use Rattle.spd_model.specs.States.{sizes}
use Rattle.spd_nodes.specs.declared.leaf.Leaf.{Leaf}
use Rattle.spd_nodes.specs.declared.leaf.Leaf.TheVariants.{Num, Act}
use Rattle.spd_frozen.specs.Frozen.{entry_at, frozen_of}
use Rattle.spd_solver.proofs.TableLaws.{iterate_told, iterate_fits}
use Rattle.spd_solver.proofs.tables.iterate_of.Goals as goal

pub returns-clause-told : goal.returns-clause-told
returns-clause-told c =
    let m = c.args.model.now in
    let list = λ (leaves : List Leaf). frozen_of (sizes m) (entry_at (sizes m) leaves) in
    let residual : FitsSigned w128 c.args.plain.residual = search rules in
    let error : FitsSigned w128 c.args.plain.error = search rules in
    iterate_told m c.args.plain _ c.requires.shaped
    (c.in_ok-of_table.ensures.reduced ∙ ap list (c.deref.ensures.value ∙ c.in_ok-values.ensures ∙ ap (map (λ (x : ℤ). Num x)) c.as_slice.ensures))
    (c.in_ok-of_table-2.ensures.reduced ∙ ap list (c.deref-2.ensures.value ∙ c.in_ok-choices.ensures ∙ ap (map (λ (a : ℕ). Act a)) c.as_slice-2.ensures))
    refl (to_z-of_z w128 c.args.plain.residual residual) refl refl refl (to_z-of_z w128 c.args.plain.error error)

pub returns-clause-fits : goal.returns-clause-fits
returns-clause-fits c =
    let m = c.args.model.now in
    let list = λ (leaves : List Leaf). frozen_of (sizes m) (entry_at (sizes m) leaves) in
    iterate_fits m c.args.plain _ c.requires.shaped
    (c.in_ok-of_table.ensures.reduced ∙ ap list (c.deref.ensures.value ∙ c.in_ok-values.ensures ∙ ap (map (λ (x : ℤ). Num x)) c.as_slice.ensures))
    (c.in_ok-of_table-2.ensures.reduced ∙ ap list (c.deref-2.ensures.value ∙ c.in_ok-choices.ensures ∙ ap (map (λ (a : ℕ). Act a)) c.as_slice-2.ensures))
    (subst IsLawful c.model.view_is c.model.invariant)
    c.in_ok-of_table.ensures.fits c.in_ok-of_table-2.ensures.fits c.requires.values c.requires.choices c.requires.shaped.place c.requires.action
