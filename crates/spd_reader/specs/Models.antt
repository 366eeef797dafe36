-- The model that a file means, and all faults of its names.
use Rattle.std.specs.Prelude.{ℕ, if◌then◌else◌, List, [], ◌∷◌, ◌++◌, length, map, flat_map, Option, Some, None, is_some, is_none, unwrap_or, position, ℤ, pos, unsigned_abs}
use Rattle.std.specs.Option.{option_map}
use Rattle.spd_model.specs.declared.tree.Tree.{Tree}
use Rattle.spd_model.specs.declared.process.Var.{Var}
use Rattle.spd_model.specs.declared.process.Action.{Action}
use Rattle.spd_model.specs.Process.{Process}
use Rattle.spd_syntax.specs.declared.file.Word.{Word}
use Rattle.spd_syntax.specs.declared.file.Shape.{Shape}
use Rattle.spd_syntax.specs.declared.file.Quantity.{Quantity}
use Rattle.spd_syntax.specs.declared.file.Quantity.TheVariants as quantities
use Rattle.spd_syntax.specs.declared.file.Variable.{Variable}
use Rattle.spd_syntax.specs.declared.file.Item.{Item}
use Rattle.spd_syntax.specs.declared.file.Item.TheVariants as items
use Rattle.spd_syntax.specs.declared.file.Section.{Section}
use Rattle.spd_syntax.specs.declared.file.Section.TheVariants as sections
use Rattle.spd_syntax.specs.declared.file.File.{File}
use Rattle.spd_syntax.specs.declared.refusal.Refusal.{Refusal}
use Rattle.spd_syntax.specs.declared.refusal.Refusal.TheVariants.{Twice, MissingVariable}
use Rattle.spd_syntax.specs.Words.{text_of}
use Rattle.spd_reader.specs.declared.purpose.Purpose.TheVariants.{Diagram, Table, Reward}
use Rattle.spd_reader.specs.Faults.{when}
use Rattle.spd_reader.specs.Trees.{is_among, with_name, Scope, var_names, var_number, no_trees, put, trees_of, place_faults, meaning, tree_faults}

-- ---- variables

-- the names of values, in order
abbrev pub value_names : List ℕ → List (List ℕ) → List Word → List (List ℕ)
value_names file names [] = names
value_names file names (w ∷ ws) = value_names file (with_name names (text_of file w)) ws

-- a value that is declared a second time is Twice at its word
abbrev pub value_faults : List ℕ → List (List ℕ) → List Word → List Refusal
value_faults file names [] = []
value_faults file names (w ∷ ws) = when (is_among names (text_of file w)) (Twice w.from) ++ value_faults file (with_name names (text_of file w)) ws

abbrev pub var_of : List ℕ → Variable → Var
var_of file v = record { name = text_of file v.name; values = value_names file [] v.values }

-- one variable more, which counts once however often it is declared
abbrev pub with_variable : List ℕ → List Var → Variable → List Var
with_variable file vars v = if is_among (var_names vars) (text_of file v.name) then vars else vars ++ var_of file v ∷ []

abbrev pub variables_of : List ℕ → List Var → List Variable → List Var
variables_of file vars [] = vars
variables_of file vars (v ∷ vs) = variables_of file (with_variable file vars v) vs

-- a variable that is declared a second time is Twice at its word
abbrev pub variables_faults : List ℕ → List Var → List Variable → List Refusal
variables_faults file vars [] = []
variables_faults file vars (v ∷ vs) =
    when (is_among (var_names vars) (text_of file v.name)) (Twice v.name.from)
    ++ value_faults file [] v.values
    ++ variables_faults file (with_variable file vars v) vs

-- ---- rewards and costs

abbrev pub amounts_of : List ℕ → Scope → List Shape → List Tree
amounts_of file s trees = map (meaning file s) trees

abbrev pub amounts_faults : List ℕ → Scope → List Shape → List Refusal
amounts_faults file s trees = flat_map (tree_faults file s Reward 300) trees

-- ---- actions: a table for each variable, and at most one cost

pub record Filled : Type 0 where
  pub tables : List (Option Tree)
  pub cost : Option (List Tree)

abbrev pub no_items : Scope → Filled
no_items s = record { tables = no_trees (length s.vars); cost = None }

abbrev pub with_item : List ℕ → Scope → Filled → Item → Filled
with_item file s t (items.Table w tree) = record t { tables = put t.tables (var_number s (text_of file w)) (meaning file s tree) }
with_item file s t (items.Cost w trees) = record t { cost = Some (amounts_of file s trees) }

-- the variable of a table is declared and has no other table; a second cost is Twice at its word
abbrev pub item_faults : List ℕ → Scope → Filled → Item → List Refusal
item_faults file s t (items.Table w tree) =
    let var = var_number s (text_of file w) in
    place_faults t.tables w.from var ++ tree_faults file s (Table (unwrap_or var 0)) 300 tree
item_faults file s t (items.Cost w trees) = when (is_some t.cost) (Twice w.from) ++ amounts_faults file s trees

abbrev pub items_of : List ℕ → Scope → Filled → List Item → Filled
items_of file s t [] = t
items_of file s t (item ∷ rest) = items_of file s (with_item file s t item) rest

abbrev pub items_faults : List ℕ → Scope → Filled → List Item → List Refusal
items_faults file s t [] = []
items_faults file s t (item ∷ rest) = item_faults file s t item ++ items_faults file s (with_item file s t item) rest

-- the first variable without a table, where there is one
abbrev pub missing_faults : ℕ → Option ℕ → List Refusal
missing_faults at None = []
missing_faults at (Some v) = MissingVariable at v ∷ []

abbrev pub action_of : List ℕ → Scope → Word → List Item → Action
action_of file s name its =
    let t = items_of file s (no_items s) its in
    record { name = text_of file name; tables = trees_of t.tables; cost = unwrap_or t.cost [] }

abbrev pub action_faults : List ℕ → Scope → List Item → Word → List Refusal
action_faults file s its end =
    items_faults file s (no_items s) its ++ missing_faults end.from (position is_none (items_of file s (no_items s) its).tables)

abbrev pub action_names : List Action → List (List ℕ)
action_names actions = map (λ (a : Action). a.name) actions

-- ---- sections

-- what the sections before a place say
pub record Said : Type 0 where
  pub scope : Scope
  pub actions : List Action
  pub reward : Option (List Tree)
  pub discount : Option ℤ
  pub tolerance : Option ℤ
  pub horizon : Option ℤ

abbrev pub with_dd : Scope → List ℕ → Tree → Scope
with_dd s name tree = if is_among s.dd_names name then s else record s { dd_names = s.dd_names ++ name ∷ []; dds = s.dds ++ tree ∷ [] }

abbrev pub with_action : List Action → Action → List Action
with_action actions action = if is_among (action_names actions) action.name then actions else actions ++ action ∷ []

abbrev pub setting_of : Said → Quantity → Option ℤ
setting_of said quantities.Discount = said.discount
setting_of said quantities.Tolerance = said.tolerance
setting_of said quantities.Horizon = said.horizon
setting_of said q = None

abbrev pub with_setting : Said → Quantity → ℤ → Said
with_setting said quantities.Discount units = record said { discount = Some units }
with_setting said quantities.Tolerance units = record said { tolerance = Some units }
with_setting said quantities.Horizon units = record said { horizon = Some units }
with_setting said q units = said

abbrev pub with_section : List ℕ → Said → Section → Said
with_section file said (sections.Dd w tree) = record said { scope = with_dd said.scope (text_of file w) (meaning file said.scope tree) }
with_section file said (sections.Action w its end) = record said { actions = with_action said.actions (action_of file said.scope w its) }
with_section file said (sections.Reward w trees) = record said { reward = Some (amounts_of file said.scope trees) }
with_section file said (sections.Setting w q units) = with_setting said q units

-- decision diagrams and actions are declared once each, and a reward, a discount, a tolerance and a horizon stand once; the second is Twice at its word
abbrev pub section_faults : List ℕ → Said → Section → List Refusal
section_faults file said (sections.Dd w tree) =
    when (is_among said.scope.dd_names (text_of file w)) (Twice w.from) ++ tree_faults file said.scope Diagram 300 tree
section_faults file said (sections.Action w its end) =
    when (is_among (action_names said.actions) (text_of file w)) (Twice w.from) ++ action_faults file said.scope its end
section_faults file said (sections.Reward w trees) = when (is_some said.reward) (Twice w.from) ++ amounts_faults file said.scope trees
section_faults file said (sections.Setting w q units) = when (is_some (setting_of said q)) (Twice w.from)

abbrev pub sections_of : List ℕ → Said → List Section → Said
sections_of file said [] = said
sections_of file said (section ∷ rest) = sections_of file (with_section file said section) rest

abbrev pub sections_faults : List ℕ → Said → List Section → List Refusal
sections_faults file said [] = []
sections_faults file said (section ∷ rest) = section_faults file said section ++ sections_faults file (with_section file said section) rest

-- ---- files

abbrev pub nothing_said : List Var → Said
nothing_said vars = record { scope = record { vars = vars; dd_names = []; dds = [] }; actions = []; reward = None; discount = None; tolerance = None; horizon = None }

-- all that a file says
abbrev pub said_of : List ℕ → File → Said
said_of file f = sections_of file (nothing_said (variables_of file [] f.variables)) f.sections

-- all faults of the names of a file
abbrev pub faults_of : List ℕ → File → List Refusal
faults_of file f = variables_faults file [] f.variables ++ sections_faults file (nothing_said (variables_of file [] f.variables)) f.sections

-- the model that was said: the tolerance is 0 where none stands
abbrev pub process_of : Said → Process
process_of said = record {
  vars = said.scope.vars;
  dds = said.scope.dds;
  actions = said.actions;
  reward = unwrap_or said.reward [];
  discount = unsigned_abs (unwrap_or said.discount (pos 0));
  tolerance = unwrap_or said.tolerance (pos 0);
  horizon = option_map unsigned_abs said.horizon;
}

-- the model that a file means
abbrev pub model_of : List ℕ → File → Process
model_of file f = process_of (said_of file f)
