-- What the names of a tree mean, and the faults of its names.
use Rattle.std.specs.Prelude.{ℕ, ◌-◌, ◌%◌, ◌==◌, nat_lt, nat_le, ◌&&◌, not, if◌then◌else◌, Bool, true, false, List, [], ◌∷◌, ◌++◌, length, map, replicate, slice_index_or, slice_set, Option, Some, None, is_none, is_some, unwrap_or, pos, unsigned_abs, int_lt, position}
use Rattle.std.specs.List.{list_any}
use Rattle.std.specs.Str.{bytes_eq}
use Rattle.spd_model.specs.declared.tree.Tree.{Tree, Leaf, Named, Branch}
use Rattle.spd_model.specs.declared.process.Var.{Var}
use Rattle.spd_model.specs.Trees.{Part, number, choice, missing, parts, nesting, read_diagrams}
use Rattle.spd_syntax.specs.declared.file.Shape.{Shape, Number, Use, Choice', Row_of-Branch, end_of-Branch, more_of-Branch}
use Rattle.spd_syntax.specs.declared.refusal.Refusal.{Refusal}
use Rattle.spd_syntax.specs.declared.refusal.Refusal.TheVariants as refusals
use Rattle.spd_syntax.specs.declared.refusal.What.TheVariants.{Nesting}
use Rattle.spd_syntax.specs.Words.{text_of}
use Rattle.spd_reader.specs.declared.purpose.Purpose.{Purpose}
use Rattle.spd_reader.specs.declared.purpose.Purpose.TheVariants.{Diagram, Table, Reward}
use Rattle.spd_reader.specs.Faults.{when}

-- ---- names that are declared

-- the number of a name, where it is one of these
abbrev pub number_in : List (List ℕ) → List ℕ → Option ℕ
number_in names name = position (bytes_eq name) names

abbrev pub is_among : List (List ℕ) → List ℕ → Bool
is_among names name = list_any (bytes_eq name) names

-- one name more, which counts once however often it is declared
abbrev pub with_name : List (List ℕ) → List ℕ → List (List ℕ)
with_name names name = if is_among names name then names else names ++ name ∷ []

-- What is declared where a tree stands: the variables, and the decision diagrams before it, by their names and their trees.
pub record Scope : Type 0 where
  pub vars : List Var
  pub dd_names : List (List ℕ)
  pub dds : List Tree

abbrev pub var_names : List Var → List (List ℕ)
var_names vars = map (λ (v : Var). v.name) vars

abbrev pub var_number : Scope → List ℕ → Option ℕ
var_number s name = number_in (var_names s.vars) name

-- the names of a variable's values
abbrev pub values_of : Scope → Option ℕ → List (List ℕ)
values_of s None = []
values_of s (Some v) = slice_index_or (map (λ (x : Var). x.values) s.vars) v []

-- ---- Trees in their places: a choice has a place for each value of its variable, an action one for each variable.

abbrev pub no_trees : ℕ → List (Option Tree)
no_trees count = replicate count None

abbrev pub put : List (Option Tree) → Option ℕ → Tree → List (Option Tree)
put places None tree = places
put places (Some v) tree = slice_set places v (Some tree)

-- the trees, and a number where none stands
abbrev pub trees_of : List (Option Tree) → List Tree
trees_of places = map (λ (place : Option Tree). unwrap_or place (Leaf (pos 0))) places

-- the faults of a name for whose place a tree follows: it isn't declared; its tree stands already
abbrev pub place_faults : List (Option Tree) → ℕ → Option ℕ → List Refusal
place_faults places at None = refusals.Unknown at ∷ []
place_faults places at (Some v) = when (is_some (slice_index_or places v None)) (refusals.Twice at)

-- ---- What a tree means. Where a name isn't declared any tree will do, since the file has a fault there.

abbrev mutual
  pub meaning : List ℕ → Scope → Shape → Tree
  meaning file s (Number w units) = Leaf units
  meaning file s (Use w) = Named (unwrap_or (number_in s.dd_names (text_of file w)) 0)
  meaning file s (Choice' w primed shape row) =
      let var = var_number s (text_of file w) in
      let values = values_of s var in
      Branch (unwrap_or var 0) primed (trees_of (branches_of file s values (no_trees (length values)) row))

  -- each branch's tree in the place of its value
  pub branches_of : List ℕ → Scope → List (List ℕ) → List (Option Tree) → {k : _} → Row_of-Branch k → List (Option Tree)
  branches_of file s values places end_of-Branch = places
  branches_of file s values places (more_of-Branch w tree row) =
      branches_of file s values (put places (number_in values (text_of file w)) (meaning file s tree)) row

-- ---- What may stand in a tree, by what the tree is for.

-- in a table the next values of its variable and of those declared after it may be tested, in a reward or a cost none
abbrev pub may_prime : Purpose → ℕ → Bool
may_prime Diagram v = true
may_prime (Table i) v = nat_le i v
may_prime Reward v = false

abbrev pub primes_wrong : Purpose → Part → Bool
primes_wrong p (number x) = false
primes_wrong p (choice v primed kids) = primed && not (may_prime p v)
primes_wrong p missing = false

abbrev pub is_negative : Part → Bool
is_negative (number x) = int_lt x (pos 0)
is_negative (choice v primed kids) = false
is_negative missing = false

-- no whole number of 10^-9
abbrev pub is_fine : Part → Bool
is_fine (number x) = not (unsigned_abs x % 1000 == 0)
is_fine (choice v primed kids) = false
is_fine missing = false

-- a leaf that may not stand in a table; one that may not stand in a reward or a cost
abbrev pub negative_wrong : Purpose → Part → Bool
negative_wrong Diagram part = false
negative_wrong (Table i) part = is_negative part
negative_wrong Reward part = false

abbrev pub fine_wrong : Purpose → Part → Bool
fine_wrong Diagram part = false
fine_wrong (Table i) part = false
fine_wrong Reward part = is_fine part

-- ---- The faults of the names of a tree, which may nest `depth` deep.

-- what is written in a decision diagram and in those that it names, and how deep it nests
abbrev pub dd_parts : Scope → ℕ → List Part
dd_parts s d = slice_index_or (read_diagrams parts [] s.dds) d []

abbrev pub dd_nesting : Scope → ℕ → ℕ
dd_nesting s d = slice_index_or (read_diagrams nesting [] s.dds) d 0

-- the faults of a use of a decision diagram: it isn't declared before; what is written in it may not stand here; it nests too deep
abbrev pub use_faults : Scope → Purpose → ℕ → ℕ → Option ℕ → List Refusal
use_faults s p depth at None = refusals.Unknown at ∷ []
use_faults s p depth at (Some d) =
    when (list_any (primes_wrong p) (dd_parts s d)) (refusals.Primed at)
    ++ when (list_any (negative_wrong p) (dd_parts s d)) (refusals.Negative at)
    ++ when (list_any (fine_wrong p) (dd_parts s d)) (refusals.TooFine at)
    ++ when (nat_lt depth (dd_nesting s d)) (refusals.TooMany at Nesting)

-- the faults of the name of a choice: it isn't declared; its next value may not be tested here
abbrev pub name_faults : Purpose → Bool → ℕ → Option ℕ → List Refusal
name_faults p primed at None = refusals.Unknown at ∷ []
name_faults p primed at (Some v) = when (primed && not (may_prime p v)) (refusals.Primed at)

abbrev mutual
  pub tree_faults : List ℕ → Scope → Purpose → ℕ → Shape → List Refusal
  tree_faults file s p depth (Number w units) = []
  tree_faults file s p depth (Use w) = use_faults s p depth w.from (number_in s.dd_names (text_of file w))
  tree_faults file s p depth (Choice' w primed shape row) =
      let var = var_number s (text_of file w) in
      let values = values_of s var in
      name_faults p primed w.from var
      ++ branch_faults file s p (depth - 1) values (no_trees (length values)) row
      ++ when (list_any is_none (branches_of file s values (no_trees (length values)) row)) (refusals.MissingBranch w.from)

  -- a branch's value is one of the variable's and has no other branch, and the faults of its tree
  pub branch_faults : List ℕ → Scope → Purpose → ℕ → List (List ℕ) → List (Option Tree) → {k : _} → Row_of-Branch k → List Refusal
  branch_faults file s p depth values places end_of-Branch = []
  branch_faults file s p depth values places (more_of-Branch w tree row) =
      let value = number_in values (text_of file w) in
      place_faults places w.from value
      ++ tree_faults file s p depth tree
      ++ branch_faults file s p depth values (put places value (meaning file s tree)) row
