use Rattle.std.proofs.Common.{◌∙◌, ◌≡◌, List, Option, ap}
use Rattle.std.specs.Prelude.{position, is_none}
use Rattle.spd_model.specs.declared.tree.Tree.{Tree}
use Rattle.spd_reader.specs.Faults.{least}
use Rattle.spd_reader.specs.Models.{Filled, no_items, items_of, items_faults, missing_faults}
use Rattle.spd_reader.specs.Scopes.{scope_of}
use Rattle.spd_reader.proofs.LeastLaws.{least_two}
use Rattle.spd_reader.proofs.names.Names.action.Goals as goal

pub returns-clause-notes : goal.returns-clause-notes
returns-clause-notes c =
    let file = c.args.self.now.file.now in
    let s = scope_of c.args.self.now in
    let its = c.args.items.now in
    let t = items_of file s (no_items s) its in
    let tables : c.as_slice.result.now ≡ t.tables = c.as_slice.ensures.value ∙ ap (λ (f : Filled). f.tables) c.in_ok-tables.ensures.means in
    let gap = c.first_gap.ensures.at ∙ ap (λ (l : List (Option Tree)). position is_none l) tables in
    least_two c.args.found.now c.items.new.found c.note_missing.new.found (items_faults file s (no_items s) its) (missing_faults c.args.end.from (position is_none t.tables))
    c.in_ok-tables.ensures.notes (c.note_missing.ensures ∙ ap (λ g. least c.items.new.found (missing_faults c.args.end.from g)) gap)
