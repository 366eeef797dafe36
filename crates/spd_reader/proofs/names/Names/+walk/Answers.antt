use Rattle.std.proofs.Common.{◌∙◌, ap, sym, length, arith}
use Rattle.std.specs.Prelude.{is_none}
use Rattle.std.specs.List.{list_any}
use Rattle.spd_syntax.specs.declared.file.Shape.{Choice}
use Rattle.spd_reader.specs.Faults.{least}
use Rattle.spd_reader.specs.Trees.{no_trees, values_of, place_faults}
use Rattle.spd_reader.specs.Scopes.{scope_of, branches_by, faults_by}
use Rattle.spd_reader.proofs.TreeLaws.{branch_means, branch_notes, branches_noted, choice_means, choice_notes, number_notes}
use Rattle.spd_reader.proofs.names.Names.+walk.Goals as goal

pub branches-loop-branch-preserved : goal.branches-loop-branch-preserved
branches-loop-branch-preserved t c =
    let file = c.args.self.now.file.now in
    let s = scope_of c.args.self.now in
    let values = values_of s c.args.var in
    let at = c.loop-branch.branch-index in
    let b = c.branch-item.result in
    record {
      means = branch_means file s values c.loop-branch.places.items c.put.new.places.items c.args.branches.now at b b c.value-value.result c.in_ok-tree.tree
          c.loop-branch-test.true c.branch-item.is c.value-value.ensures c.in_ok-tree.ensures.means c.put.ensures (branches_by file s values (no_trees (length values)) c.args.branches.now) c.loop-branch.invariant.means;
      notes = branch_notes file s values c.loop-branch.places.items c.put.new.places.items c.args.branches.now at b b c.value-value.result c.in_ok-tree.tree
          c.loop-branch-test.true c.branch-item.is c.value-value.ensures c.in_ok-tree.ensures.means c.put.ensures
          c.args.purpose c.args.depth c.loop-branch.found c.note_place.new.found c.tree.new.found (least c.args.found.now (faults_by file s c.args.purpose c.args.depth values (no_trees (length values)) c.args.branches.now))
          (c.note_place.ensures ∙ ap (λ places. least c.loop-branch.found (place_faults places b.value.from c.value-value.result)) c.as_slice.ensures.value)
          c.in_ok-tree.ensures.notes c.loop-branch.invariant.notes;
    }

pub branches-returns-clause-notes : goal.branches-returns-clause-notes
branches-returns-clause-notes t c =
    branches_noted c.args.self.now.file.now (scope_of c.args.self.now) c.args.purpose c.args.depth (values_of (scope_of c.args.self.now) c.args.var)
    c.loop-branch.places.items c.loop-branch.found _ c.args.branches.now c.loop-branch.branch-index (omega arith) c.loop-branch.invariant.notes

pub tree-returns-in-Number-clause-notes : goal.tree-returns-in-Number-clause-notes
tree-returns-in-Number-clause-notes t c =
    number_notes c.args.self.now.file.now (scope_of c.args.self.now) c.args.purpose c.args.depth c.in-Number.word c.in-Number.units c.args.shape.now c.args.found.now c.in-Number.is

pub tree-returns-in_ok-kids-in-Choice-clause-means : goal.tree-returns-in_ok-kids-in-Choice-clause-means
tree-returns-in_ok-kids-in-Choice-clause-means t c =
    choice_means c.args.self.now.file.now (scope_of c.args.self.now) c.in-Choice.name c.in-Choice.primed c.as_slice.result.now c.args.shape.now
    c.variable-var.result c.unwrap_or-var.result c.in_ok-places-in-Choice.places.items c.in_ok-kids-in-Choice.kids
    (c.in-Choice.is ∙ ap (Choice c.in-Choice.name c.in-Choice.primed) (sym c.as_slice.ensures)) c.variable-var.ensures c.unwrap_or-var.ensures
    c.in_ok-places-in-Choice.ensures.means c.in_ok-kids-in-Choice.ensures

pub tree-returns-in_ok-kids-in-Choice-clause-notes : goal.tree-returns-in_ok-kids-in-Choice-clause-notes
tree-returns-in_ok-kids-in-Choice-clause-notes t c =
    choice_notes c.args.self.now.file.now (scope_of c.args.self.now) c.in-Choice.name c.in-Choice.primed c.as_slice.result.now c.args.purpose c.args.depth c.saturating_sub-inside.result
    c.args.shape.now c.variable-var.result c.in_ok-places-in-Choice.places.items c.has_gap-missing.result
    c.args.found.now c.note_name.new.found c.branches.new.found c.note_if.new.found
    (c.in-Choice.is ∙ ap (Choice c.in-Choice.name c.in-Choice.primed) (sym c.as_slice.ensures)) c.variable-var.ensures c.saturating_sub-inside.ensures
    c.in_ok-places-in-Choice.ensures.means (c.has_gap-missing.ensures ∙ ap (list_any is_none) c.as_slice-in-Choice.ensures.value)
    c.note_name.ensures c.in_ok-places-in-Choice.ensures.notes c.note_if.ensures
