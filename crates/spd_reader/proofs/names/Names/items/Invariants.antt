use Rattle.std.proofs.Common.{◌≡◌, ◌<◌, ◌^◌, length, drop}
use Rattle.spd_reader.specs.Faults.{least}
use Rattle.spd_reader.specs.Models.{no_items, items_of, items_faults}
use Rattle.spd_reader.specs.Scopes.{scope_of, filled_of}
use Rattle.spd_reader.proofs.names.Names.items.Given as goal

abbrev pub invariant-loop-item : goal.invariant-loop-item
invariant-loop-item l =
    record {
      means : items_of l.self.file.now (scope_of l.self) (filled_of l.filled) (drop l.item-index l.items) ≡ items_of l.self.file.now (scope_of l.self) (no_items (scope_of l.self)) l.items;
      notes : least l.found (items_faults l.self.file.now (scope_of l.self) (filled_of l.filled) (drop l.item-index l.items))
          ≡ least l.fn.found (items_faults l.self.file.now (scope_of l.self) (no_items (scope_of l.self)) l.items);
      few : length l.filled.tables.items < 2 ^ 32;
    }
