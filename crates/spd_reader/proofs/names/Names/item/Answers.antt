use Rattle.std.proofs.Common.{◌∙◌, ap}
use Rattle.spd_reader.specs.Faults.{least}
use Rattle.spd_reader.specs.Trees.{place_faults}
use Rattle.spd_reader.specs.Scopes.{scope_of, filled_of}
use Rattle.spd_reader.proofs.ActionLaws.{table_notes, cost_notes}
use Rattle.spd_reader.proofs.names.Names.item.Goals as goal

pub returns-in_ok-table-in-Table-clause-notes : goal.returns-in_ok-table-in-Table-clause-notes
returns-in_ok-table-in-Table-clause-notes c =
    let w = c.in-Table.name in
    let found = c.args.found.now in
    table_notes c.args.self.now.file.now (scope_of c.args.self.now) (filled_of c.args.filled.now) w c.in-Table.tree c.args.item.now c.variable-var.result c.unwrap_or.result
    found c.note_place.new.found c.tree.new.found c.in-Table.is c.variable-var.ensures c.unwrap_or.ensures
    (c.note_place.ensures ∙ ap (λ places. least found (place_faults places w.from c.variable-var.result)) c.as_slice.ensures.value) c.in_ok-table-in-Table.ensures.notes

pub returns-in_ok-amounts-in-Cost-clause-notes : goal.returns-in_ok-amounts-in-Cost-clause-notes
returns-in_ok-amounts-in-Cost-clause-notes c =
    cost_notes c.args.self.now.file.now (scope_of c.args.self.now) (filled_of c.args.filled.now) c.in-Cost.word c.as_slice-in-Cost.result.now c.in-Cost.parts c.args.item.now c.is_some-twice.result
    c.args.found.now c.note_if.new.found c.amounts.new.found c.in-Cost.is c.as_slice-in-Cost.ensures c.is_some-twice.ensures c.note_if.ensures c.in_ok-amounts-in-Cost.ensures.notes
