use Rattle.std.proofs.Common.{◌≡◌, length, drop}
use Rattle.spd_reader.specs.Faults.{least}
use Rattle.spd_reader.specs.Trees.{no_trees, values_of}
use Rattle.spd_reader.specs.Scopes.{scope_of, branches_by, faults_by}
use Rattle.spd_reader.proofs.names.Names.+walk.Given as goal

abbrev pub invariant-branches-loop-branch : goal.invariant-branches-loop-branch
invariant-branches-loop-branch l =
    record {
      means : branches_by l.self.file.now (scope_of l.self) (values_of (scope_of l.self) l.var) l.places.items (drop l.branch-index l.branches)
          ≡ branches_by l.self.file.now (scope_of l.self) (values_of (scope_of l.self) l.var) (no_trees (length (values_of (scope_of l.self) l.var))) l.branches;
      notes : least l.found (faults_by l.self.file.now (scope_of l.self) l.purpose l.depth (values_of (scope_of l.self) l.var) l.places.items (drop l.branch-index l.branches))
          ≡ least l.fn.found (faults_by l.self.file.now (scope_of l.self) l.purpose l.depth (values_of (scope_of l.self) l.var) (no_trees (length (values_of (scope_of l.self) l.var))) l.branches);
    }
