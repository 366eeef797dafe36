-- What variables mean and the faults of their names, one after the other.
use Rattle.std.proofs.Common.{◌≡◌, ℕ, ◌+◌, ◌<◌, ◌≤◌, Bool, true, false, cond, List, [], ◌∷◌, ◌++◌, length, get_or, drop, Option, sym, ap, ◌∙◌}
use Rattle.std.proofs.lemmas.List.{at_drop_more, at_drop_all, map_push}
use Rattle.spd_model.specs.declared.process.Var.{Var}
use Rattle.spd_syntax.specs.declared.file.Word.{Word}
use Rattle.spd_syntax.specs.declared.file.Variable.{Variable}
use Rattle.spd_syntax.specs.declared.refusal.Refusal.{Refusal}
use Rattle.spd_syntax.specs.declared.refusal.Refusal.TheVariants.{Twice}
use Rattle.spd_syntax.specs.Words.{text_of}
use Rattle.spd_reader.specs.Faults.{least, when}
use Rattle.spd_reader.specs.Trees.{is_among, with_name, var_names}
use Rattle.spd_reader.specs.Models.{value_names, value_faults, var_of, with_variable, variables_of, variables_faults}
use Rattle.spd_reader.proofs.LeastLaws.{least_two, least_three, least_none}

-- ---- one value more

module _ (file : List ℕ) (names more : List (List ℕ)) (ws : List Word) (i : ℕ) (w d : Word) (within : i < length ws) (item : w ≡ get_or ws i d) (is : more ≡ with_name names (text_of file w)) where
  pub value_means : (all : List (List ℕ)) → value_names file names (drop i ws) ≡ all → value_names file more (drop (i + 1) ws) ≡ all
  value_means all told =
      ap (λ (k : List (List ℕ)). value_names file k (drop (i + 1) ws)) is ∙ ap (λ (x : Word). value_names file names (x ∷ drop (i + 1) ws)) item
      ∙ sym (at_drop_more (λ (l : List Word). value_names file names l) ws i d within) ∙ told

  pub value_notes : (found after all : Option Refusal) → after ≡ least found (when (is_among names (text_of file w)) (Twice w.from)) → least found (value_faults file names (drop i ws)) ≡ all
      → least after (value_faults file more (drop (i + 1) ws)) ≡ all
  value_notes found after all noted told =
      let rest = λ (k : List (List ℕ)). value_faults file k (drop (i + 1) ws) in
      least_two found after (least after (rest more)) (when (is_among names (text_of file w)) (Twice w.from)) (rest (with_name names (text_of file w))) noted (ap (λ (k : List (List ℕ)). least after (rest k)) is)
      ∙ ap (λ (x : Word). least found (value_faults file names (x ∷ drop (i + 1) ws))) item ∙ sym (at_drop_more (λ (l : List Word). least found (value_faults file names l)) ws i d within) ∙ told

-- ---- one variable more

module _ (file : List ℕ) (vars more : List Var) (vs : List Variable) (i : ℕ) (v d : Variable) (within : i < length vs) (item : v ≡ get_or vs i d) (is : more ≡ with_variable file vars v) where
  pub variable_means : (all : List Var) → variables_of file vars (drop i vs) ≡ all → variables_of file more (drop (i + 1) vs) ≡ all
  variable_means all told =
      ap (λ (k : List Var). variables_of file k (drop (i + 1) vs)) is ∙ ap (λ (x : Variable). variables_of file vars (x ∷ drop (i + 1) vs)) item
      ∙ sym (at_drop_more (λ (l : List Variable). variables_of file vars l) vs i d within) ∙ told

  pub variable_notes : (found mid after all : Option Refusal) → mid ≡ least found (when (is_among (var_names vars) (text_of file v.name)) (Twice v.name.from)) → after ≡ least mid (value_faults file [] v.values)
      → least found (variables_faults file vars (drop i vs)) ≡ all → least after (variables_faults file more (drop (i + 1) vs)) ≡ all
  variable_notes found mid after all noted values told =
      let rest = λ (k : List Var). variables_faults file k (drop (i + 1) vs) in
      least_three found mid after (least after (rest more)) (when (is_among (var_names vars) (text_of file v.name)) (Twice v.name.from)) (value_faults file [] v.values) (rest (with_variable file vars v))
      noted values (ap (λ (k : List Var). least after (rest k)) is)
      ∙ ap (λ (x : Variable). least found (variables_faults file vars (x ∷ drop (i + 1) vs))) item ∙ sym (at_drop_more (λ (l : List Variable). least found (variables_faults file vars l)) vs i d within) ∙ told

-- ---- behind the last one

pub values_noted : (file : List ℕ) (names : List (List ℕ)) (ws : List Word) (i : ℕ) (found all : Option Refusal) → length ws ≤ i → least found (value_faults file names (drop i ws)) ≡ all → found ≡ all
values_noted file names ws i found all past told = least_none found ∙ sym (at_drop_all (λ (l : List Word). least found (value_faults file names l)) ws i past) ∙ told

pub variables_noted : (file : List ℕ) (vars : List Var) (vs : List Variable) (i : ℕ) (found all : Option Refusal) → length vs ≤ i → least found (variables_faults file vars (drop i vs)) ≡ all → found ≡ all
variables_noted file vars vs i found all past told = least_none found ∙ sym (at_drop_all (λ (l : List Variable). least found (variables_faults file vars l)) vs i past) ∙ told

-- ---- a variable that is declared for the first time, or again

module _ (file : List ℕ) (vars : List Var) (v : Variable) (twice : Bool) (is : twice ≡ is_among (var_names vars) (text_of file v.name)) where
  pub variable_again : twice ≡ true → vars ≡ with_variable file vars v
  variable_again again = sym (ap (λ (b : Bool). cond b vars (vars ++ var_of file v ∷ [])) (sym is ∙ again))

  pub variable_new : twice ≡ false → vars ++ var_of file v ∷ [] ≡ with_variable file vars v
  variable_new fresh = sym (ap (λ (b : Bool). cond b vars (vars ++ var_of file v ∷ [])) (sym is ∙ fresh))

  pub names_new : (index more : List (List ℕ)) (name : List ℕ) → twice ≡ false → index ≡ var_names vars → name ≡ text_of file v.name → more ≡ with_name index name → more ≡ var_names (vars ++ var_of file v ∷ [])
  names_new index more name fresh named text declared =
      declared ∙ ap (λ (l : List (List ℕ)). with_name l name) named ∙ ap (with_name (var_names vars)) text
      ∙ ap (λ (b : Bool). cond b (var_names vars) (var_names vars ++ text_of file v.name ∷ [])) (sym is ∙ fresh) ∙ sym (map_push (λ (x : Var). x.name) vars (var_of file v))
