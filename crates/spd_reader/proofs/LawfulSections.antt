-- Sections without a fault of their names say what a lawful model has.
use Rattle.std.proofs.Common.{◌≡◌, ℕ, ◌+◌, ◌<◌, ◌≤◌, ◌^◌, Bool, true, false, List, [], ◌∷◌, ◌++◌, length, All, refl, sym, ap, subst, ◌∙◌, arith, ℤ, pos, ◌≤ℤ◌, append-nil}
use Rattle.std.specs.Prelude.{IfSome, is_some, unsigned_abs, if◌then◌else◌}
use Rattle.std.proofs.lemmas.Bool.{cond-false}
use Rattle.std.proofs.lemmas.List.{length_push, map-append}
use Rattle.std.proofs.lemmas.List.Elements.{All-push}
use Rattle.std.proofs.Common.{append_assoc}
use Rattle.spd_lex.specs.declared.token.Token.{Token}
use Rattle.spd_model.specs.declared.tree.Tree.{Tree}
use Rattle.spd_model.specs.declared.process.Action.{Action}
use Rattle.spd_model.specs.Lawful.{AreDistinct, Fits, IsAction, AreRewards}
use Rattle.spd_model.specs.Process.{Process}
use Rattle.spd_model.specs.Trees.{parts, nesting, read_tree, read_diagrams}
use Rattle.spd_syntax.specs.declared.file.Word.{Word}
use Rattle.spd_syntax.specs.declared.file.Counts.{Counts}
use Rattle.spd_syntax.specs.declared.file.Quantity.{Quantity}
use Rattle.spd_syntax.specs.declared.file.Quantity.TheVariants as quantities
use Rattle.spd_syntax.specs.declared.file.Section.{Section}
use Rattle.spd_syntax.specs.declared.file.Section.TheVariants as sections
use Rattle.spd_syntax.specs.declared.refusal.Refusal.TheVariants as refusals
use Rattle.spd_syntax.specs.Words.{text_of}
use Rattle.spd_syntax.specs.Grammar.{IsNumber}
use Rattle.spd_syntax.specs.Positions.{after_setting, one_dd, one_action}
use Rattle.spd_syntax.specs.Files.{ASection, AreSections, after_section}
use Rattle.spd_reader.specs.declared.purpose.Purpose.TheVariants.{Diagram}
use Rattle.spd_reader.specs.Faults.{when}
use Rattle.spd_reader.specs.Models.{Said, action_of, action_faults, action_names, with_dd, with_action, with_setting, with_section, section_faults, sections_of, sections_faults}
use Rattle.spd_reader.specs.Trees.{Scope, is_among, meaning, tree_faults}
use Rattle.spd_reader.proofs.LawfulActions.{action-good}
use Rattle.spd_reader.proofs.LawfulDiagrams.{read_diagrams-push, reads-among, serves-diagram, part-good}
use Rattle.spd_reader.proofs.LawfulLists.{none-append, none-when, distinct-push}
use Rattle.spd_reader.proofs.LawfulNumbers.{discount-number, tolerance-number, horizon-number}
use Rattle.spd_reader.proofs.LawfulParts.{Good}
use Rattle.spd_reader.proofs.LawfulTokens.{first-shorter, section-length}
use Rattle.spd_reader.proofs.LawfulTrees.{tree-good}
use Rattle.std.proofs.lemmas.List.Elements.{All-weaker}

-- what the sections before a place said
pub record Kept (m : Process) (c : Counts) (said : Said) : Type 0 where
  pub vars : said.scope.vars ≡ m.vars
  pub names : length said.scope.dd_names ≡ length said.scope.dds
  pub dds : length said.scope.dds ≡ c.dds
  pub few_dds : length said.scope.dds ≤ 4096
  pub fits : All (All (Fits m)) (read_diagrams parts [] said.scope.dds)
  pub nests : All (λ n. n ≤ 300) (read_diagrams nesting [] said.scope.dds)
  pub count : length said.actions ≡ c.actions
  pub few_actions : length said.actions ≤ 64
  pub distinct : AreDistinct (action_names said.actions)
  pub actions : All (IsAction m) said.actions
  pub reward : IfSome said.reward (AreRewards m)
  pub discount : IfSome said.discount (λ units. unsigned_abs units ≤ 999999)
  pub tolerance : IfSome said.tolerance (λ units. (pos 0 ≤ℤ units) × (units ≤ℤ pos (10 ^ 30)))
  pub horizon : IfSome said.horizon (λ units. unsigned_abs units ≤ 1000)

-- ---- later sections keep the decision diagrams

abbrev Extends : Scope → Scope → Type 0
Extends s t = (more : List Tree) × (t.dds ≡ s.dds ++ more)

extends-itself : (s : Scope) → Extends s s
extends-itself s = ([], sym (append-nil s.dds))

extends-dd : (s : Scope) (name : List ℕ) (tree : Tree) → Extends s (with_dd s name tree)
extends-dd s name tree = go (is_among s.dd_names name)
  where
    go : (b : Bool) → Extends s (if b then s else record s { dd_names = s.dd_names ++ name ∷ []; dds = s.dds ++ tree ∷ [] })
    go true = extends-itself s
    go false = (tree ∷ [], refl)

extends-setting : (said : Said) (q : Quantity) (units : ℤ) → Extends said.scope (with_setting said q units).scope
extends-setting said quantities.Discount units = extends-itself said.scope
extends-setting said quantities.Tolerance units = extends-itself said.scope
extends-setting said quantities.Horizon units = extends-itself said.scope
extends-setting said quantities.Diagram units = extends-itself said.scope
extends-setting said quantities.Table units = extends-itself said.scope
extends-setting said quantities.Reward units = extends-itself said.scope

extends-one : (file : List ℕ) (said : Said) (section : Section) → Extends said.scope (with_section file said section).scope
extends-one file said (sections.Dd w tree) = extends-dd said.scope (text_of file w) (meaning file said.scope tree)
extends-one file said (sections.Action w its end) = extends-itself said.scope
extends-one file said (sections.Reward w trees) = extends-itself said.scope
extends-one file said (sections.Setting w q units) = extends-setting said q units

extends-all : (file : List ℕ) (said : Said) (ss : List Section) → Extends said.scope (sections_of file said ss).scope
extends-all file said [] = extends-itself said.scope
extends-all file said (section ∷ ss) =
    let one = extends-one file said section in
    let rest = extends-all file (with_section file said section) ss in
    (one.0 ++ rest.0, rest.1 ∙ ap (λ l. l ++ rest.0) one.1 ∙ append_assoc said.scope.dds one.0 rest.0)

-- ---- one section

module _ (file : List ℕ) (m : Process) (c : Counts) (said : Said) (k : Kept m c said) where
  dd-kept : (w : Word) (tree : Tree) → is_among said.scope.dd_names (text_of file w) ≡ false → c.dds < 4096 → All (Fits m) (read_tree parts (read_diagrams parts [] said.scope.dds) tree)
      → read_tree nesting (read_diagrams nesting [] said.scope.dds) tree ≤ 300 → Kept m (one_dd c) (record said { scope = with_dd said.scope (text_of file w) tree })
  dd-kept w tree new few fits nests =
      let s = said.scope in
      let is : with_dd s (text_of file w) tree ≡ record s { dd_names = s.dd_names ++ text_of file w ∷ []; dds = s.dds ++ tree ∷ [] } = cond-false (is_among s.dd_names (text_of file w)) s (record s { dd_names = s.dd_names ++ text_of file w ∷ []; dds = s.dds ++ tree ∷ [] }) new in
      subst (λ (t : Scope). Kept m (one_dd c) (record said { scope = t })) (sym is) (record {
        vars = k.vars;
        names = length_push s.dd_names (text_of file w) ∙ ap (λ n. n + 1) k.names ∙ sym (length_push s.dds tree);
        dds = length_push s.dds tree ∙ ap (λ n. n + 1) k.dds;
        few_dds = omega (arith, length_push s.dds tree, k.dds, few);
        fits = subst (All (All (Fits m))) (sym (read_diagrams-push parts s.dds tree)) (All-push (All (Fits m)) (read_diagrams parts [] s.dds) _ k.fits fits);
        nests = subst (All (λ n. n ≤ 300)) (sym (read_diagrams-push nesting s.dds tree)) (All-push (λ n. n ≤ 300) (read_diagrams nesting [] s.dds) _ k.nests nests);
        count = k.count;
        few_actions = k.few_actions;
        distinct = k.distinct;
        actions = k.actions;
        reward = k.reward;
        discount = k.discount;
        tolerance = k.tolerance;
        horizon = k.horizon;
      })

  action-kept : (action : Action) → is_among (action_names said.actions) action.name ≡ false → c.actions < 64 → IsAction m action → Kept m (one_action c) (record said { actions = with_action said.actions action })
  action-kept action new few good =
      let is : with_action said.actions action ≡ said.actions ++ action ∷ [] = cond-false (is_among (action_names said.actions) action.name) said.actions (said.actions ++ action ∷ []) new in
      let names : action_names (said.actions ++ action ∷ []) ≡ action_names said.actions ++ action.name ∷ [] = map-append (λ (a : Action). a.name) said.actions (action ∷ []) in
      subst (λ (l : List Action). Kept m (one_action c) (record said { actions = l })) (sym is) (record {
        vars = k.vars;
        names = k.names;
        dds = k.dds;
        few_dds = k.few_dds;
        fits = k.fits;
        nests = k.nests;
        count = length_push said.actions action ∙ ap (λ n. n + 1) k.count;
        few_actions = omega (arith, length_push said.actions action, k.count, few);
        distinct = subst AreDistinct (sym names) (distinct-push (action_names said.actions) action.name k.distinct new);
        actions = All-push (IsAction m) said.actions action k.actions good;
        reward = k.reward;
        discount = k.discount;
        tolerance = k.tolerance;
        horizon = k.horizon;
      })

  setting-kept : (q : Quantity) (units : ℤ) (w : Word) → IsNumber file q w units → Kept m (after_setting q c) (with_setting said q units)
  setting-kept quantities.Discount units w h =
      record { vars = k.vars; names = k.names; dds = k.dds; few_dds = k.few_dds; fits = k.fits; nests = k.nests; count = k.count; few_actions = k.few_actions; distinct = k.distinct; actions = k.actions; reward = k.reward; discount = discount-number w.from (text_of file w) units h.is; tolerance = k.tolerance; horizon = k.horizon }
  setting-kept quantities.Tolerance units w h =
      record { vars = k.vars; names = k.names; dds = k.dds; few_dds = k.few_dds; fits = k.fits; nests = k.nests; count = k.count; few_actions = k.few_actions; distinct = k.distinct; actions = k.actions; reward = k.reward; discount = k.discount; tolerance = tolerance-number w.from (text_of file w) units h.is; horizon = k.horizon }
  setting-kept quantities.Horizon units w h =
      record { vars = k.vars; names = k.names; dds = k.dds; few_dds = k.few_dds; fits = k.fits; nests = k.nests; count = k.count; few_actions = k.few_actions; distinct = k.distinct; actions = k.actions; reward = k.reward; discount = k.discount; tolerance = k.tolerance; horizon = horizon-number w.from (text_of file w) units h.is }
  setting-kept quantities.Diagram units w h = record { vars = k.vars; names = k.names; dds = k.dds; few_dds = k.few_dds; fits = k.fits; nests = k.nests; count = k.count; few_actions = k.few_actions; distinct = k.distinct; actions = k.actions; reward = k.reward; discount = k.discount; tolerance = k.tolerance; horizon = k.horizon }
  setting-kept quantities.Table units w h = record { vars = k.vars; names = k.names; dds = k.dds; few_dds = k.few_dds; fits = k.fits; nests = k.nests; count = k.count; few_actions = k.few_actions; distinct = k.distinct; actions = k.actions; reward = k.reward; discount = k.discount; tolerance = k.tolerance; horizon = k.horizon }
  setting-kept quantities.Reward units w h = record { vars = k.vars; names = k.names; dds = k.dds; few_dds = k.few_dds; fits = k.fits; nests = k.nests; count = k.count; few_actions = k.few_actions; distinct = k.distinct; actions = k.actions; reward = k.reward; discount = k.discount; tolerance = k.tolerance; horizon = k.horizon }

  section-kept : (section : Section) (a e : List Token) → length a ≤ 4194304 → Extends said.scope (record said.scope { dds = m.dds }) → ASection file c section a e → section_faults file said section ≡ []
      → Kept m (after_section c section) (with_section file said section)
  section-kept (sections.Dd w tree) a e short ext h none =
      let s = said.scope in
      let q = none-append (when (is_among s.dd_names (text_of file w)) (refusals.Twice w.from)) (tree_faults file s Diagram 300 tree) none in
      let own = reads-among m s [] s.dds (sym (append-nil s.dds)) k.vars k.names k.fits in
      let g = tree-good file m s (read_diagrams parts [] s.dds) (read_diagrams nesting [] s.dds) own Diagram quantities.Diagram serves-diagram tree h.body.0 h.body.1 h.body.6 q.1 in
      dd-kept w (meaning file s tree) (none-when _ (refusals.Twice w.from) q.0) h.body.5
      (All-weaker (Good m Diagram) (Fits m) (λ part good. good.fits) (read_tree parts (read_diagrams parts [] s.dds) (meaning file s tree)) g.parts_good) g.nests
  section-kept (sections.Action w its end) a e short ext h none =
      let s = said.scope in
      let q = none-append (when (is_among (action_names said.actions) (text_of file w)) (refusals.Twice w.from)) (action_faults file s its end) none in
      let r = reads-among m s ext.0 m.dds ext.1 k.vars k.names k.fits in
      let b : length h.body.0 ≤ 4194304 = omega (arith, first-shorter h.word a h.b h.first, first-shorter w h.b h.body.0 h.body.2.word) in
      action-kept (action_of file s w its) (none-when _ (refusals.Twice w.from) q.0) h.body.3 (action-good file m s r w its end h.b h.body.0 e b h.body.2 h.body.4 q.1)
  section-kept (sections.Reward w trees) a e short ext h none =
      let s = said.scope in
      let q = none-append (when (is_some said.reward) (refusals.Twice w.from)) _ none in
      let r = reads-among m s ext.0 m.dds ext.1 k.vars k.names k.fits in
      let b : length h.b ≤ 4194304 = omega (arith, first-shorter h.word a h.b h.first) in
      record {
        vars = k.vars;
        names = k.names;
        dds = k.dds;
        few_dds = k.few_dds;
        fits = k.fits;
        nests = k.nests;
        count = k.count;
        few_actions = k.few_actions;
        distinct = k.distinct;
        actions = k.actions;
        reward = part-good file m s r trees h.b e b h.body.2 q.1;
        discount = k.discount;
        tolerance = k.tolerance;
        horizon = k.horizon;
      }
  section-kept (sections.Setting w q units) a e short ext h none = setting-kept q units h.body.0 h.body.4

-- ---- all sections

pub sections-kept : (file : List ℕ) (m : Process) (c all : Counts) (said : Said) (ss : List Section) (a e : List Token) → length a ≤ 4194304 → m.dds ≡ (sections_of file said ss).scope.dds
    → AreSections file c ss all a e → sections_faults file said ss ≡ [] → Kept m c said → Kept m all (sections_of file said ss)
sections-kept file m c all said [] a e short last h none k = subst (λ (n : Counts). Kept m n said) h.0 k
sections-kept file m c all said (section ∷ ss) a e short last h none k =
    let q = none-append (section_faults file said section) (sections_faults file (with_section file said section) ss) none in
    let ext = extends-all file said (section ∷ ss) in
    sections-kept file m (after_section c section) all (with_section file said section) ss h.0 e (omega (arith, short, section-length file c section a h.0 h.1)) last h.2 q.1
    (section-kept file m c said k section a h.0 short (ext.0, last ∙ ext.1) h.1 q.0)
