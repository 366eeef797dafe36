-- When a tree fits a process of which the first decision diagrams are there.
use Rattle.std.specs.Prelude.{ℕ, List, [], map, take, All}
use Rattle.spd_cons_core.specs.declared.key.Entry.{Entry}
use Rattle.spd_model.specs.declared.tree.Tree.{Tree}
use Rattle.spd_model.specs.Process.{Process}
use Rattle.spd_model.specs.Lawful.{Fits}
use Rattle.spd_model.specs.Trees.{parts, read_tree, read_diagrams}
use Rattle.std.specs.List.{AllZip}
use Rattle.spd_nodes.specs.Shown.{Shown, StandsFor}
use Rattle.spd_build.specs.Functions.{tree_function}

-- All parts of a tree fit a process, of whose decision diagrams it names only the first k.
abbrev pub FitsWith : Process → ℕ → Tree → Type 0
FitsWith m k tree = All (Fits m) (read_tree parts (take k (read_diagrams parts [] m.dds)) tree)

-- entries stand for the trees of a list
abbrev pub StandForTrees : Shown → Process → List Tree → List Entry → Type 0
StandForTrees s m trees refs = AllZip (StandsFor s) refs (map (tree_function m) trees)
