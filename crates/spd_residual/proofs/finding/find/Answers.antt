use Rattle.std.proofs.Common.{rules, ◌≡◌, Some, None, refl, sym, ◌∙◌, subst, to_z, of_z}
use mir.Syntax.{w128}
use Rattle.std.proofs.lemmas.Int.{to_z-of_z}
use Rattle.spd_nodes.specs.Shown.{Shown, meaning}
use Rattle.spd_nodes.specs.Trees.{leaf_eq}
use Rattle.spd_search.specs.Found.{first_found}
use Rattle.spd_residual.specs.inner.Finding.{TellGaps}
use Rattle.spd_residual.proofs.PlaceLaws.{found-in, found-some, is-number, residual-is}
use Rattle.spd_residual.proofs.finding.find.Goals as goal

pub side_at-side-requires-clause-state : goal.side_at-side-requires-clause-state
side_at-side-requires-clause-state g c =
    let s : Shown = g.F.Forest.shows c.args.forest.now in
    let found : first_found s.sizes (leaf_eq c.in_ok-leaf.leaf) (meaning s c.args.gaps.now.greater) ≡ Some c.in-Some.found = sym (rw c.last_leaf.ensures.same at c.in_ok-found.ensures.found) ∙ c.in-Some.is in
    rw (c.first_found.ensures.same ∙ c.last_leaf.ensures.same)
    (found-in s c.layout.ensures.sound c.args.bounds.now c.args.best.now c.args.gaps.now c.in_ok-leaf.leaf c.in_ok-leaf.ensures.last c.in-Some.found found)

pub unreachable-requires : goal.unreachable-requires
unreachable-requires g c =
    let s : Shown = g.F.Forest.shows c.args.forest.now in
    let found : first_found s.sizes (leaf_eq c.in_ok-leaf.leaf) (meaning s c.args.gaps.now.greater) ≡ None = sym (rw c.last_leaf.ensures.same at c.in_ok-found.ensures.found) ∙ c.in-None.is in
    found-some s c.layout.ensures.sound c.args.bounds.now c.args.best.now c.args.gaps.now c.in_ok-leaf.leaf c.in_ok-leaf.ensures.last found

pub side_at-side-requires-clause-number : goal.side_at-side-requires-clause-number
side_at-side-requires-clause-number g c =
    is-number (g.F.Forest.shows c.args.forest.now) c.layout.ensures.sound c.args.bounds.now c.args.best.now c.args.gaps.now c.in_ok-leaf.leaf c.in_ok-leaf.ensures.last c.requires.tell.gaps c.requires.tell.tell

pub returns-clause-found : goal.returns-clause-found
returns-clause-found g c = λ gaps tell.
    let s : Shown = g.F.Forest.shows c.args.forest.now in
    let same : g.F.Forest.shows c.first_found.new.forest ≡ s = c.first_found.ensures.same ∙ c.last_leaf.ensures.same in
    let found : first_found s.sizes (leaf_eq c.in_ok-leaf.leaf) (meaning s c.args.gaps.now.greater) ≡ Some c.in-Some.found = sym (rw c.last_leaf.ensures.same at c.in_ok-found.ensures.found) ∙ c.in-Some.is in
    let value : to_z w128 (of_z w128 c.number_of.result) ≡ c.number_of.result = search (rules, to_z-of_z) in
    residual-is s c.layout.ensures.sound c.args.bounds.now c.args.best.now c.args.gaps.now c.in_ok-leaf.leaf c.in_ok-leaf.ensures.last gaps tell c.in-Some.found found
    (record { r = to_z w128 (of_z w128 c.number_of.result); at = c.in-Some.found.state; side = c.side_at-side.result.0; action = c.side_at-side.result.1 }) (value ∙ c.number_of.ensures) refl
    (c.side_at-side.ensures.place gaps (subst (λ (t : Shown). TellGaps gaps t c.args.bounds.now c.args.best.now c.args.gaps.now) (sym same) tell))
