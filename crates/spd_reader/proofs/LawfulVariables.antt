-- Variables without a fault of their names are those of a lawful model.
use Rattle.std.proofs.Common.{◌≡◌, ℕ, ◌+◌, ◌-◌, ◌≤◌, false, List, [], ◌∷◌, ◌++◌, length, All, IsTrue, refl, sym, ap, subst, ◌∙◌, arith}
use Rattle.std.specs.Prelude.{sum_by}
use Rattle.std.proofs.lemmas.Bool.{cond-false}
use Rattle.std.proofs.lemmas.List.{length_push, map-append}
use Rattle.std.proofs.lemmas.List.Elements.{All-nil, All-push}
use Rattle.std.proofs.lemmas.List.Sums.{sum_by-append}
use Rattle.spd_lex.specs.declared.token.Token.{Token}
use Rattle.spd_model.specs.declared.process.Var.{Var}
use Rattle.spd_model.specs.Lawful.{AreDistinct, HasValues}
use Rattle.spd_model.specs.Names.{is_name, is_value_name}
use Rattle.spd_syntax.specs.declared.file.Word.{Word}
use Rattle.spd_syntax.specs.declared.file.Counts.{Counts}
use Rattle.spd_syntax.specs.declared.file.Variable.{Variable}
use Rattle.spd_syntax.specs.declared.refusal.Refusal.TheVariants as refusals
use Rattle.spd_syntax.specs.Words.{text_of}
use Rattle.spd_syntax.specs.Positions.{none_yet, one_variable}
use Rattle.spd_syntax.specs.Files.{Each, AValue, AVariable, AreVariables, after_variable, HasValues as AreValues}
use Rattle.spd_reader.specs.Faults.{when}
use Rattle.spd_reader.specs.Models.{value_names, value_faults, var_of, with_variable, variables_of, variables_faults}
use Rattle.spd_reader.specs.Trees.{is_among, with_name, var_names}
use Rattle.spd_reader.proofs.LawfulLists.{none-append, none-three, none-when, distinct-push}
use Rattle.spd_reader.proofs.LawfulNames.{name-passed, value-passed}

pub none-distinct : AreDistinct []
none-distinct = λ i j d b near. absurd (omega arith)

-- ---- values

record KeptValues (before : ℕ) (names : List (List ℕ)) : Type 0 where
  count : length names ≡ before
  named : All (λ v. IsTrue (is_value_name v)) names
  distinct : AreDistinct names

values-kept : (file : List ℕ) (before : ℕ) (names : List (List ℕ)) (ws : List Word) (a e : List Token) → Each (AValue file) ws a e → value_faults file names ws ≡ [] → KeptValues before names
    → KeptValues (before + length ws) (value_names file names ws)
values-kept file before names [] a e h none k = record { count = k.count ∙ omega arith; named = k.named; distinct = k.distinct }
values-kept file before names (w ∷ ws) a e h none k =
    let text = text_of file w in
    let q = none-append (when (is_among names text) (refusals.Twice w.from)) (value_faults file (with_name names text) ws) none in
    let new : is_among names text ≡ false = none-when (is_among names text) (refusals.Twice w.from) q.0 in
    let is : with_name names text ≡ names ++ text ∷ [] = cond-false (is_among names text) names (names ++ text ∷ []) new in
    let more : KeptValues (before + 1) (with_name names text) = subst (KeptValues (before + 1)) (sym is) (record {
      count = length_push names text ∙ ap (λ n. n + 1) k.count;
      named = All-push (λ v. IsTrue (is_value_name v)) names text k.named (value-passed _ w.from text h.1.value.is);
      distinct = distinct-push names text k.distinct new;
    }) in
    let sum : (before + 1) + length ws ≡ before + length (w ∷ ws) = omega arith in
    subst (λ n. KeptValues n (value_names file (with_name names text) ws)) sum (values-kept file (before + 1) (with_name names text) ws h.0 e h.2 q.1 more)

all-values : (file : List ℕ) (c : Counts) (v : Variable) (a e : List Token) → AreValues file c v.values a e → value_faults file [] v.values ≡ [] → HasValues (var_of file v) × (length (var_of file v).values ≡ length v.values)
all-values file c v a e h none =
    let k = values-kept file 0 [] v.values a h.b h.each none (record { count = refl; named = All-nil (λ w. IsTrue (is_value_name w)); distinct = none-distinct }) in
    (record { some = omega (arith, k.count, h.some); few = omega (arith, k.count, h.few); named = k.named; distinct = k.distinct }, k.count ∙ omega arith)

-- ---- variables

-- how many tests variables have
abbrev pub tests_of : List Var → ℕ
tests_of vars = sum_by (λ (x : Var). length x.values - 1) vars

-- the variables before a place
pub record KeptVars (c : Counts) (vars : List Var) : Type 0 where
  pub count : length vars ≡ c.vars
  pub few : length vars ≤ 100
  pub named : All (λ (x : Var). IsTrue (is_name x.name)) vars
  pub distinct : AreDistinct (var_names vars)
  pub values : All HasValues vars
  pub tests : tests_of vars ≡ c.tests
  pub few_tests : tests_of vars ≤ 256

variable-kept : (file : List ℕ) (c : Counts) (vars : List Var) (v : Variable) (a e : List Token) → AVariable file c v a e → is_among (var_names vars) (text_of file v.name) ≡ false → value_faults file [] v.values ≡ []
    → KeptVars c vars → KeptVars (after_variable c v) (with_variable file vars v)
variable-kept file c vars v a e h new none k =
    let x = var_of file v in
    let is : with_variable file vars v ≡ vars ++ x ∷ [] = cond-false (is_among (var_names vars) (text_of file v.name)) vars (vars ++ x ∷ []) new in
    let own = all-values file (one_variable c) v h.b e h.values none in
    let names : var_names (vars ++ x ∷ []) ≡ var_names vars ++ text_of file v.name ∷ [] = map-append (λ (y : Var). y.name) vars (x ∷ []) in
    let sum : tests_of (vars ++ x ∷ []) ≡ c.tests + (length v.values - 1) = sum_by-append (λ (y : Var). length y.values - 1) vars (x ∷ []) ∙ omega (arith, k.tests, own.1) in
    let longer = length_push vars x in
    subst (KeptVars (after_variable c v)) (sym is) (record {
      count = longer ∙ ap (λ n. n + 1) k.count;
      few = omega (arith, longer, k.count, h.few);
      named = All-push (λ (y : Var). IsTrue (is_name y.name)) vars x k.named (name-passed _ v.name.from (text_of file v.name) h.name.name.is);
      distinct = subst AreDistinct (sym names) (distinct-push (var_names vars) (text_of file v.name) k.distinct new);
      values = All-push HasValues vars x k.values own.0;
      tests = sum;
      few_tests = omega (arith, sum, h.values.few_tests);
    })

vars-kept : (file : List ℕ) (c k : Counts) (vars : List Var) (vs : List Variable) (a e : List Token) → AreVariables file c vs k a e → variables_faults file vars vs ≡ [] → KeptVars c vars → KeptVars k (variables_of file vars vs)
vars-kept file c k vars [] a e h none kept = subst (λ (n : Counts). KeptVars n vars) h.0 kept
vars-kept file c k vars (v ∷ vs) a e h none kept =
    let q = none-three (when (is_among (var_names vars) (text_of file v.name)) (refusals.Twice v.name.from)) (value_faults file [] v.values) (variables_faults file (with_variable file vars v) vs) none in
    vars-kept file (after_variable c v) k (with_variable file vars v) vs h.1 e h.4 q.2
    (variable-kept file c vars v h.0 h.1 h.3 (none-when _ (refusals.Twice v.name.from) q.0) q.1 kept)

-- the variables of a file
pub variables-good : (file : List ℕ) (k : Counts) (vs : List Variable) (a e : List Token) → AreVariables file none_yet vs k a e → variables_faults file [] vs ≡ [] → KeptVars k (variables_of file [] vs)
variables-good file k vs a e h none = vars-kept file none_yet k [] vs a e h none (record {
  count = refl;
  few = omega arith;
  named = All-nil (λ (x : Var). IsTrue (is_name x.name));
  distinct = none-distinct;
  values = All-nil HasValues;
  tests = refl;
  few_tests = omega arith;
})

-- what is counted behind them
pub record CountsVars (c k : Counts) (vs : List Variable) : Type 0 where
  pub vars : k.vars ≡ c.vars + length vs
  pub dds : k.dds ≡ c.dds
  pub actions : k.actions ≡ c.actions

pub variables-counted : (file : List ℕ) (c k : Counts) (vs : List Variable) (a e : List Token) → AreVariables file c vs k a e → CountsVars c k vs
variables-counted file c k [] a e h = subst (λ (n : Counts). CountsVars c n []) h.0 (record { vars = omega arith; dds = refl; actions = refl })
variables-counted file c k (v ∷ vs) a e h =
    let i = variables-counted file (after_variable c v) k vs h.1 e h.4 in
    record { vars = omega (arith, i.vars); dds = i.dds; actions = i.actions }
