-- A file without a fault of its names means a lawful model.
use Rattle.std.proofs.Common.{◌≡◌, ℕ, ◌<◌, ◌≤◌, ◌^◌, Bool, true, false, List, [], ◌∷◌, ◌++◌, length, Option, Some, None, All, refl, sym, ◌∙◌, arith, ℤ, pos, ◌≤ℤ◌}
use Rattle.std.specs.Prelude.{nat_lt, if◌then◌else◌, IfSome, unwrap_or, unsigned_abs}
use Rattle.std.specs.Option.{option_map}
use Rattle.std.proofs.lemmas.Bool.{and_parts, ltb-true}
use Rattle.std.proofs.lemmas.Int.{ints}
use Rattle.std.proofs.lemmas.List.Elements.{All-nil}
use Rattle.spd_lex.specs.Tokens.{tokens_of}
use Rattle.spd_model.specs.declared.tree.Tree.{Tree}
use Rattle.spd_model.specs.declared.process.Var.{Var}
use Rattle.spd_model.specs.Lawful.{Fits, IsAction, IsReward, AreRewards, IsLawful}
use Rattle.spd_model.specs.Process.{Process}
use Rattle.spd_syntax.specs.declared.file.Counts.{Counts}
use Rattle.spd_syntax.specs.declared.file.File.{File}
use Rattle.spd_syntax.specs.Positions.{none_yet, has_all}
use Rattle.spd_syntax.specs.Files.{IsWritten, IsFile}
use Rattle.spd_syntax.specs.declared.file.Quantity.{Quantity}
use Rattle.spd_syntax.specs.declared.file.Quantity.TheVariants as quantities
use Rattle.spd_syntax.specs.declared.file.Section.{Section}
use Rattle.spd_syntax.specs.declared.file.Section.TheVariants as sections
use Rattle.spd_syntax.specs.Words.{text_of}
use Rattle.spd_reader.specs.Trees.{Scope, is_among, meaning}
use Rattle.spd_reader.specs.Models.{Said, with_dd, with_setting, with_section, variables_of, variables_faults, sections_of, sections_faults, nothing_said, said_of, faults_of, model_of}
use Rattle.spd_reader.proofs.LawfulLists.{none-append}
use Rattle.spd_reader.proofs.LawfulSections.{Kept, sections-kept}
use Rattle.spd_reader.proofs.LawfulTokens.{tokens_of-length, bracket-shorter, first-shorter, variables-length}
use Rattle.spd_reader.proofs.LawfulVariables.{none-distinct, KeptVars, variables-good, CountsVars, variables-counted}

-- ---- settings that may not stand

reward-or-none : (m : Process) (o : Option (List Tree)) → IfSome o (AreRewards m) → AreRewards m (unwrap_or o [])
reward-or-none m None h = record { few = omega arith; each = All-nil (IsReward m) }
reward-or-none m (Some trees) h = h

discount-or-none : (o : Option ℤ) → IfSome o (λ units. unsigned_abs units ≤ 999999) → unsigned_abs (unwrap_or o (pos 0)) ≤ 999999
discount-or-none None h = omega arith
discount-or-none (Some units) h = h

tolerance-or-none : (o : Option ℤ) → IfSome o (λ units. (pos 0 ≤ℤ units) × (units ≤ℤ pos (10 ^ 30))) → (pos 0 ≤ℤ unwrap_or o (pos 0)) × (unwrap_or o (pos 0) ≤ℤ pos (10 ^ 30))
tolerance-or-none None h = (omega (arith, ints), omega (arith, ints))
tolerance-or-none (Some units) h = h

horizon-or-none : (o : Option ℤ) → IfSome o (λ units. unsigned_abs units ≤ 1000) → IfSome (option_map unsigned_abs o) (λ steps. steps ≤ 1000)
horizon-or-none None h = tt
horizon-or-none (Some units) h = h

-- an action stands where all that must stand does
some-action : (c : Counts) → has_all c ≡ true → 0 < c.actions
some-action c h = ltb-true 0 c.actions (and_parts (nat_lt 0 c.actions) _ h).0

-- ---- no section changes the variables

dd-vars : (s : Scope) (name : List ℕ) (tree : Tree) → (with_dd s name tree).vars ≡ s.vars
dd-vars s name tree = go (is_among s.dd_names name)
  where
    go : (b : Bool) → (if b then s else record s { dd_names = s.dd_names ++ name ∷ []; dds = s.dds ++ tree ∷ [] }).vars ≡ s.vars
    go true = refl
    go false = refl

setting-vars : (said : Said) (q : Quantity) (units : ℤ) → (with_setting said q units).scope.vars ≡ said.scope.vars
setting-vars said quantities.Discount units = refl
setting-vars said quantities.Tolerance units = refl
setting-vars said quantities.Horizon units = refl
setting-vars said quantities.Diagram units = refl
setting-vars said quantities.Table units = refl
setting-vars said quantities.Reward units = refl

section-vars : (file : List ℕ) (said : Said) (section : Section) → (with_section file said section).scope.vars ≡ said.scope.vars
section-vars file said (sections.Dd w tree) = dd-vars said.scope (text_of file w) (meaning file said.scope tree)
section-vars file said (sections.Action w its end) = refl
section-vars file said (sections.Reward w trees) = refl
section-vars file said (sections.Setting w q units) = setting-vars said q units

sections-vars : (file : List ℕ) (said : Said) (ss : List Section) → (sections_of file said ss).scope.vars ≡ said.scope.vars
sections-vars file said [] = refl
sections-vars file said (section ∷ ss) = sections-vars file (with_section file said section) ss ∙ section-vars file said section

-- ---- files

module _ (file : List ℕ) (f : File) (short : length file ≤ 4194304) (w : IsFile file f (tokens_of file)) (none : faults_of file f ≡ []) where
  abbrev vars : List Var
  vars = variables_of file [] f.variables

  abbrev said : Said
  said = said_of file f

  abbrev m : Process
  m = model_of file f

  no-faults : (variables_faults file [] f.variables ≡ []) × (sections_faults file (nothing_said vars) f.sections ≡ [])
  no-faults = none-append (variables_faults file [] f.variables) (sections_faults file (nothing_said vars) f.sections) none

  kept-vars : KeptVars w.counts vars
  kept-vars = variables-good file w.counts f.variables w.b w.d w.variables no-faults.0

  counted : CountsVars none_yet w.counts f.variables
  counted = variables-counted file none_yet w.counts f.variables w.b w.d w.variables

  few-tokens : length w.e ≤ 4194304
  few-tokens = omega (
    arith,
    short,
    tokens_of-length file,
    bracket-shorter _ (tokens_of file) w.a w.opens,
    first-shorter w.word w.a w.b w.key.word,
    variables-length file none_yet w.counts f.variables w.b w.d w.variables,
    bracket-shorter _ w.d w.e w.closes,
  )

  same-vars : m.vars ≡ vars
  same-vars = sections-vars file (nothing_said vars) f.sections

  none-kept : Kept m w.counts (nothing_said vars)
  none-kept = record {
    vars = sym same-vars;
    names = refl;
    dds = sym counted.dds;
    few_dds = omega arith;
    fits = All-nil (All (Fits m));
    nests = All-nil (λ n. n ≤ 300);
    count = sym counted.actions;
    few_actions = omega arith;
    distinct = none-distinct;
    actions = All-nil (IsAction m);
    reward = tt;
    discount = tt;
    tolerance = tt;
    horizon = tt;
  }

  kept : Kept m w.all said
  kept = sections-kept file m w.counts w.all (nothing_said vars) f.sections w.e [] few-tokens refl w.sections no-faults.1 none-kept

  is-lawful : IsLawful m
  is-lawful =
      let some : 0 < length vars = omega (arith, kept-vars.count, counted.vars, w.some) in
      let stop = tolerance-or-none said.tolerance kept.tolerance in
      record {
        some_vars = rw same-vars some;
        few_vars = rw same-vars kept-vars.few;
        vars_named = rw same-vars kept-vars.named;
        vars_distinct = rw same-vars kept-vars.distinct;
        values = rw same-vars kept-vars.values;
        few_tests = rw same-vars kept-vars.few_tests;
        few_dds = kept.few_dds;
        dds_fit = kept.fits;
        dds_nest = kept.nests;
        some_actions = omega (arith, kept.count, some-action w.all w.has_all);
        few_actions = kept.few_actions;
        actions_distinct = kept.distinct;
        actions = kept.actions;
        reward = reward-or-none m said.reward kept.reward;
        discount = discount-or-none said.discount kept.discount;
        tolerance_low = stop.0;
        tolerance_high = stop.1;
        horizon = horizon-or-none said.horizon kept.horizon;
      }

-- A file of at most 4,194,304 bytes that is written and has no fault of its names means a lawful model.
pub lawful : (file : List ℕ) (f : File) → length file ≤ 4194304 → IsWritten file f → faults_of file f ≡ [] → IsLawful (model_of file f)
lawful file f short written none = is-lawful file f short written.is none
