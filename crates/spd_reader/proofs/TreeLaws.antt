-- What trees mean and the faults of their names, branch by branch.
use Rattle.std.proofs.Common.{◌≡◌, ℕ, ◌+◌, ◌-◌, ◌<◌, ◌≤◌, Bool, List, ◌∷◌, ◌++◌, length, get_or, drop, Option, Some, None, refl, sym, ap, ◌∙◌}
use Rattle.std.specs.Prelude.{unwrap_or, is_none, ℤ}
use Rattle.std.specs.List.{list_any}
use Rattle.std.proofs.lemmas.List.{at_drop_more, at_drop_all, length-set}
use Rattle.spd_model.specs.declared.tree.Tree.{Tree, Branch as Fork}
use Rattle.spd_syntax.specs.declared.file.Word.{Word}
use Rattle.spd_syntax.specs.declared.file.Branch.{Branch}
use Rattle.spd_syntax.specs.declared.file.Shape.{Shape, Number, Choice, Row_of-Branch, end_of-Branch, more_of-Branch, items-the_row-Branch, items_hidden-the_row-Branch-0}
use Rattle.spd_syntax.specs.declared.file.Shape.TheBlock.{hidden-the_row-Branch-0}
use Rattle.spd_syntax.specs.declared.refusal.Refusal.{Refusal}
use Rattle.spd_syntax.specs.declared.refusal.Refusal.TheVariants.{MissingBranch}
use Rattle.spd_syntax.specs.Words.{text_of}
use Rattle.spd_reader.specs.declared.purpose.Purpose.{Purpose}
use Rattle.spd_reader.specs.Faults.{least, when}
use Rattle.spd_reader.specs.Trees.{Scope, var_number, values_of, number_in, no_trees, put, trees_of, place_faults, name_faults, meaning, branches_of, tree_faults, branch_faults}
use Rattle.spd_reader.specs.Scopes.{branches_by, faults_by}
use Rattle.spd_reader.proofs.LeastLaws.{least_three, least_none}

-- a tree that is put in its place leaves as many places as there were
pub length-put : (places : List (Option Tree)) (place : Option ℕ) (tree : Tree) → length (put places place tree) ≡ length places
length-put places None tree = refl
length-put places (Some v) tree = length-set places v (Some tree)

-- ---- one branch more

module _ (file : List ℕ) (s : Scope) (values : List (List ℕ)) (places more : List (Option Tree)) (bs : List Branch) (i : ℕ) (b d : Branch) (v : Option ℕ) (tree : Tree)
    (within : i < length bs) (item : b ≡ get_or bs i d) (value : v ≡ number_in values (text_of file b.value)) (means : tree ≡ meaning file s b.tree) (is : more ≡ put places v tree) where
  placed : more ≡ put places (number_in values (text_of file b.value)) (meaning file s b.tree)
  placed = is ∙ ap (λ (n : Option ℕ). put places n tree) value ∙ ap (put places (number_in values (text_of file b.value))) means

  pub branch_means : (all : List (Option Tree)) → branches_by file s values places (drop i bs) ≡ all → branches_by file s values more (drop (i + 1) bs) ≡ all
  branch_means all told =
      ap (λ (k : List (Option Tree)). branches_by file s values k (drop (i + 1) bs)) placed
      ∙ ap (λ (x : Branch). branches_by file s values places (x ∷ drop (i + 1) bs)) item
      ∙ sym (at_drop_more (λ (l : List Branch). branches_by file s values places l) bs i d within) ∙ told

  pub branch_notes : (p : Purpose) (depth : ℕ) (found mid after all : Option Refusal) → mid ≡ least found (place_faults places b.value.from v) → after ≡ least mid (tree_faults file s p depth b.tree)
      → least found (faults_by file s p depth values places (drop i bs)) ≡ all → least after (faults_by file s p depth values more (drop (i + 1) bs)) ≡ all
  branch_notes p depth found mid after all noted walked told =
      let n = number_in values (text_of file b.value) in
      let rest = λ (k : List (Option Tree)). faults_by file s p depth values k (drop (i + 1) bs) in
      least_three found mid after (least after (rest more)) (place_faults places b.value.from n) (tree_faults file s p depth b.tree) (rest (put places n (meaning file s b.tree)))
      (noted ∙ ap (λ (o : Option ℕ). least found (place_faults places b.value.from o)) value) walked (ap (λ (k : List (Option Tree)). least after (rest k)) placed)
      ∙ ap (λ (x : Branch). least found (faults_by file s p depth values places (x ∷ drop (i + 1) bs))) item
      ∙ sym (at_drop_more (λ (l : List Branch). least found (faults_by file s p depth values places l)) bs i d within) ∙ told

pub branches_noted : (file : List ℕ) (s : Scope) (p : Purpose) (depth : ℕ) (values : List (List ℕ)) (places : List (Option Tree)) (found all : Option Refusal) (bs : List Branch) (i : ℕ) → length bs ≤ i
    → least found (faults_by file s p depth values places (drop i bs)) ≡ all → found ≡ all
branches_noted file s p depth values places found all bs i past told =
    least_none found ∙ sym (at_drop_all (λ (l : List Branch). least found (faults_by file s p depth values places l)) bs i past) ∙ told

-- ---- a choice, by the list of its branches

branches_rows : (file : List ℕ) (s : Scope) (values : List (List ℕ)) (places : List (Option Tree)) {k : _} (row : Row_of-Branch k)
    → branches_of file s values places row ≡ branches_by file s values places (items-the_row-Branch k row)
branches_rows file s values places end_of-Branch = refl
branches_rows file s values places (more_of-Branch w tree row) = branches_rows file s values (put places (number_in values (text_of file w)) (meaning file s tree)) row

faults_rows : (file : List ℕ) (s : Scope) (p : Purpose) (depth : ℕ) (values : List (List ℕ)) (places : List (Option Tree)) {k : _} (row : Row_of-Branch k)
    → branch_faults file s p depth values places row ≡ faults_by file s p depth values places (items-the_row-Branch k row)
faults_rows file s p depth values places end_of-Branch = refl
faults_rows file s p depth values places (more_of-Branch w tree row) =
    ap (λ (l : List Refusal). place_faults places w.from (number_in values (text_of file w)) ++ tree_faults file s p depth tree ++ l)
    (faults_rows file s p depth values (put places (number_in values (text_of file w)) (meaning file s tree)) row)

module _ (file : List ℕ) (s : Scope) (w : Word) (primed : Bool) (bs : List Branch) where
  abbrev all_places : Option ℕ → List (Option Tree)
  all_places var = branches_by file s (values_of s var) (no_trees (length (values_of s var))) bs

  abbrev all_faults : Purpose → ℕ → Option ℕ → List Refusal
  all_faults p depth var = faults_by file s p depth (values_of s var) (no_trees (length (values_of s var))) bs

  places_row : (var : Option ℕ) → branches_of file s (values_of s var) (no_trees (length (values_of s var))) (hidden-the_row-Branch-0 bs) ≡ all_places var
  places_row var =
      branches_rows file s (values_of s var) (no_trees (length (values_of s var))) (hidden-the_row-Branch-0 bs)
      ∙ ap (λ (l : List Branch). branches_by file s (values_of s var) (no_trees (length (values_of s var))) l) (items_hidden-the_row-Branch-0 bs)

  faults_row : (p : Purpose) (depth : ℕ) (var : Option ℕ) → branch_faults file s p depth (values_of s var) (no_trees (length (values_of s var))) (hidden-the_row-Branch-0 bs) ≡ all_faults p depth var
  faults_row p depth var =
      faults_rows file s p depth (values_of s var) (no_trees (length (values_of s var))) (hidden-the_row-Branch-0 bs)
      ∙ ap (λ (l : List Branch). faults_by file s p depth (values_of s var) (no_trees (length (values_of s var))) l) (items_hidden-the_row-Branch-0 bs)

  pub choice_means : (shape : Shape) (var : Option ℕ) (number : ℕ) (places : List (Option Tree)) (kids : List Tree)
      → shape ≡ Choice w primed bs → var ≡ var_number s (text_of file w) → number ≡ unwrap_or var 0 → places ≡ all_places var → kids ≡ trees_of places
      → Fork number primed kids ≡ meaning file s shape
  choice_means shape var number places kids is is_var is_number is_places is_kids =
      ap (λ (n : ℕ). Fork n primed kids) (is_number ∙ ap (λ (v : Option ℕ). unwrap_or v 0) is_var)
      ∙ ap (λ (ks : List Tree). Fork (unwrap_or (var_number s (text_of file w)) 0) primed ks)
      (is_kids ∙ ap trees_of (is_places ∙ ap all_places is_var ∙ sym (places_row (var_number s (text_of file w)))))
      ∙ ap (meaning file s) (sym is)

  pub choice_notes : (p : Purpose) (depth inside : ℕ) (shape : Shape) (var : Option ℕ) (places : List (Option Tree)) (missing : Bool) (found named walked after : Option Refusal)
      → shape ≡ Choice w primed bs → var ≡ var_number s (text_of file w) → inside ≡ depth - 1 → places ≡ all_places var → missing ≡ list_any is_none places
      → named ≡ least found (name_faults p primed w.from var) → walked ≡ least named (all_faults p inside var) → after ≡ least walked (when missing (MissingBranch w.from))
      → after ≡ least found (tree_faults file s p depth shape)
  choice_notes p depth inside shape var places missing found named walked after is is_var is_inside is_places is_missing is_named is_walked is_after =
      let v = var_number s (text_of file w) in
      least_three found named walked after (name_faults p primed w.from v)
      (branch_faults file s p (depth - 1) (values_of s v) (no_trees (length (values_of s v))) (hidden-the_row-Branch-0 bs))
      (when (list_any is_none (branches_of file s (values_of s v) (no_trees (length (values_of s v))) (hidden-the_row-Branch-0 bs))) (MissingBranch w.from))
      (is_named ∙ ap (λ (o : Option ℕ). least found (name_faults p primed w.from o)) is_var)
      (is_walked ∙ ap (λ (n : ℕ). least named (all_faults p n var)) is_inside ∙ ap (λ (o : Option ℕ). least named (all_faults p (depth - 1) o)) is_var
      ∙ ap (least named) (sym (faults_row p (depth - 1) v)))
      (is_after ∙ ap (λ (b : Bool). least walked (when b (MissingBranch w.from))) (is_missing ∙ ap (list_any is_none) (is_places ∙ ap all_places is_var ∙ sym (places_row v))))
      ∙ ap (λ (x : Shape). least found (tree_faults file s p depth x)) (sym is)

pub number_notes : (file : List ℕ) (s : Scope) (p : Purpose) (depth : ℕ) (w : Word) (units : ℤ) (shape : Shape) (found : Option Refusal) → shape ≡ Number w units
    → found ≡ least found (tree_faults file s p depth shape)
number_notes file s p depth w units shape found is = least_none found ∙ ap (λ (x : Shape). least found (tree_faults file s p depth x)) (sym is)
