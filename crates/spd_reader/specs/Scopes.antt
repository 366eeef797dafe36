-- What the names of the code stand for, and what is said of trees branch by branch.
use Rattle.std.specs.Prelude.{ℕ, List, [], ◌∷◌, ◌++◌, map, Option}
use Rattle.spd_model.specs.declared.tree.Tree.{Tree}
use Rattle.spd_model.specs.declared.process.Var.{Var}
use Rattle.spd_syntax.specs.declared.file.Branch.{Branch}
use Rattle.spd_syntax.specs.declared.refusal.Refusal.{Refusal}
use Rattle.spd_syntax.specs.Words.{text_of}
use Rattle.spd_reader.specs.declared.purpose.Purpose.{Purpose}
use Rattle.spd_reader.specs.declared.dd.Dd.{Dd}
use Rattle.spd_reader.specs.declared.names.Names.{Names}
use Rattle.spd_reader.specs.declared.tables.Tables.{Tables}
use Rattle.spd_reader.specs.Models.{Filled}
use Rattle.spd_reader.specs.Trees.{Scope, number_in, put, place_faults, meaning, tree_faults}

abbrev pub scope_of : Names → Scope
scope_of n = record { vars = n.vars; dd_names = n.dd_index; dds = map (λ (d : Dd). d.tree) n.dds.items }

-- variables alone
abbrev pub with_variables : List Var → Scope
with_variables vars = record { vars = vars; dd_names = []; dds = [] }

abbrev pub filled_of : Tables → Filled
filled_of t = record { tables = t.tables.items; cost = t.cost }

-- the trees of a list of branches in their places
abbrev pub branches_by : List ℕ → Scope → List (List ℕ) → List (Option Tree) → List Branch → List (Option Tree)
branches_by file s values places [] = places
branches_by file s values places (b ∷ bs) = branches_by file s values (put places (number_in values (text_of file b.value)) (meaning file s b.tree)) bs

abbrev pub faults_by : List ℕ → Scope → Purpose → ℕ → List (List ℕ) → List (Option Tree) → List Branch → List Refusal
faults_by file s p depth values places [] = []
faults_by file s p depth values places (b ∷ bs) =
    place_faults places b.value.from (number_in values (text_of file b.value))
    ++ tree_faults file s p depth b.tree
    ++ faults_by file s p depth values (put places (number_in values (text_of file b.value)) (meaning file s b.tree)) bs
