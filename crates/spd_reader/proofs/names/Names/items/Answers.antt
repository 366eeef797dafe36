use Rattle.std.proofs.Common.{◌∙◌, ◌≡◌, ap, length, arith}
use Rattle.spd_reader.specs.Models.{Filled}
use Rattle.spd_reader.specs.Scopes.{scope_of, filled_of}
use Rattle.spd_reader.proofs.ActionLaws.{item_means, item_notes, items_noted, length-with_item}
use Rattle.spd_reader.proofs.names.Names.items.Goals as goal

pub loop-item-preserved : goal.loop-item-preserved
loop-item-preserved c =
    let file = c.args.self.now.file.now in
    let s = scope_of c.args.self.now in
    let its = c.args.items.now in
    let i = c.loop-item.item-index in
    let item = c.item-item.result in
    let t = filled_of c.loop-item.filled in
    let more = filled_of c.item.new.filled in
    let kept : length c.item.new.filled.tables.items ≡ length c.loop-item.filled.tables.items =
    ap (λ (f : Filled). length f.tables) c.in_ok-item.ensures.means ∙ length-with_item file s t item in
    record {
      means = item_means file s t more its i item item c.loop-item-test.true c.item-item.is c.in_ok-item.ensures.means _ c.loop-item.invariant.means;
      notes = item_notes file s t more its i item item c.loop-item-test.true c.item-item.is c.in_ok-item.ensures.means c.loop-item.found c.item.new.found _ c.in_ok-item.ensures.notes c.loop-item.invariant.notes;
      few = omega (arith, kept, c.loop-item.invariant.few);
    }

pub returns-clause-notes : goal.returns-clause-notes
returns-clause-notes c =
    items_noted c.args.self.now.file.now (scope_of c.args.self.now) (filled_of c.loop-item.filled) c.args.items.now c.loop-item.item-index c.loop-item.found _ (omega arith) c.loop-item.invariant.notes
