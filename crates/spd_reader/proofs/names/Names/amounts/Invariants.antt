use Rattle.std.proofs.Common.{◌≡◌, ◌++◌, drop}
use Rattle.spd_reader.specs.Faults.{least}
use Rattle.spd_reader.specs.Models.{amounts_of, amounts_faults}
use Rattle.spd_reader.specs.Scopes.{scope_of}
use Rattle.spd_reader.proofs.names.Names.amounts.Given as goal

abbrev pub invariant-loop-shape : goal.invariant-loop-shape
invariant-loop-shape l =
    record {
      means : l.amounts ++ amounts_of l.self.file.now (scope_of l.self) (drop l.shape-index l.trees) ≡ amounts_of l.self.file.now (scope_of l.self) l.trees;
      notes : least l.found (amounts_faults l.self.file.now (scope_of l.self) (drop l.shape-index l.trees)) ≡ least l.fn.found (amounts_faults l.self.file.now (scope_of l.self) l.trees);
    }
