-- What decision diagrams come to, as more of them are declared; and trees for their purposes.
use Rattle.std.proofs.Common.{◌≡◌, ℕ, ◌<◌, ◌≤◌, List, [], ◌∷◌, ◌++◌, length, get_or, All, refl, sym, ap, subst, ◌∙◌, arith, length-append}
use Rattle.std.specs.Prelude.{flat_map}
use Rattle.std.proofs.lemmas.List.{get_or_append_left, get_or_default, length-map}
use Rattle.std.proofs.lemmas.List.Elements.{All-nil, All-cons, All-weaker}
use Rattle.spd_lex.specs.declared.token.Token.{Token}
use Rattle.spd_model.specs.declared.tree.Tree.{Tree}
use Rattle.spd_model.specs.Lawful.{Fits, FitsTable, FitsReward, IsTable, IsReward, AreRewards}
use Rattle.spd_model.specs.Process.{Process}
use Rattle.spd_model.specs.Trees.{Reading, missing, parts, nesting, parts_of, read_tree, read_diagrams}
use Rattle.spd_model.proofs.CallerLemmas.Trees.{length-read_diagrams, read_diagrams-append}
use Rattle.spd_syntax.specs.declared.file.Shape.{Shape}
use Rattle.spd_syntax.specs.declared.file.Quantity.TheVariants as quantities
use Rattle.spd_syntax.specs.Grammar.{IsTree}
use Rattle.spd_syntax.specs.Files.{Each, APart, a_tree, a_sum}
use Rattle.spd_reader.specs.declared.purpose.Purpose.TheVariants.{Diagram, Table, Reward}
use Rattle.spd_reader.specs.Models.{amounts_of, amounts_faults}
use Rattle.spd_reader.specs.Trees.{Scope, meaning, tree_faults}
use Rattle.spd_reader.proofs.LawfulLists.{none-append}
use Rattle.spd_reader.proofs.LawfulNumbers.{diagram-number, table-number, reward-number}
use Rattle.spd_reader.proofs.LawfulParts.{Good, GoodTree}
use Rattle.spd_reader.proofs.LawfulTokens.{part-length}
use Rattle.spd_reader.proofs.LawfulTrees.{Reads, Serves, tree-good}

-- ---- diagrams that are declared one after another

-- one more
pub read_diagrams-push : {X : Type 0} (way : Reading X) (dds : List Tree) (dd : Tree) → read_diagrams way [] (dds ++ dd ∷ []) ≡ read_diagrams way [] dds ++ read_tree way (read_diagrams way [] dds) dd ∷ []
read_diagrams-push way dds dd = read_diagrams-append way [] dds (dd ∷ [])

-- later ones don't change what the earlier ones came to
kept-before : {X : Type 0} (way : Reading X) (before : List X) (dds : List Tree) (d : ℕ) (other : X) → d < length before → get_or (read_diagrams way before dds) d other ≡ get_or before d other
kept-before way before [] d other h = refl
kept-before way before (dd ∷ dds) d other h =
    kept-before way (before ++ read_tree way before dd ∷ []) dds d other (omega (arith, length-append before (read_tree way before dd ∷ [])))
    ∙ get_or_append_left before (read_tree way before dd ∷ []) other d h

-- the first diagrams come to the same among all
among-all : {X : Type 0} (way : Reading X) (first more all : List Tree) (d : ℕ) (x y : X) → all ≡ first ++ more → d < length first → get_or (read_diagrams way [] all) d x ≡ get_or (read_diagrams way [] first) d y
among-all way first more all d x y e h =
    let near : d < length (read_diagrams way [] first) = omega (arith, length-read_diagrams way [] first) in
    ap (λ (l : List Tree). get_or (read_diagrams way [] l) d x) e
    ∙ ap (λ l. get_or l d x) (read_diagrams-append way [] first more)
    ∙ kept-before way (read_diagrams way [] first) more d x near
    ∙ get_or_default (read_diagrams way [] first) d x y near

-- a scope tells of its decision diagrams what they come to among all
pub reads-among : (m : Process) (s : Scope) (more all : List Tree) → all ≡ s.dds ++ more → s.vars ≡ m.vars → length s.dd_names ≡ length s.dds → All (All (Fits m)) (read_diagrams parts [] s.dds)
    → Reads m s (read_diagrams parts [] all) (read_diagrams nesting [] all)
reads-among m s more all e vars count fits = record {
  vars = vars;
  count = count;
  fits = λ d near. fits d [] (omega (arith, length-read_diagrams parts [] s.dds));
  parts_are = λ d near. among-all parts s.dds more all d (missing ∷ []) [] e near;
  depths_are = λ d near. among-all nesting s.dds more all d 0 0 e near;
}

-- ---- purposes

pub serves-diagram : Serves Diagram quantities.Diagram
serves-diagram = record { numbers = λ at text units h. (diagram-number at text units h, tt) }

pub serves-table : (i : ℕ) → Serves (Table i) quantities.Table
serves-table i = record { numbers = table-number }

pub serves-reward : Serves Reward quantities.Reward
serves-reward = record { numbers = reward-number }

-- a good tree of a table, and of a reward
pub table-tree : (m : Process) (i : ℕ) (tree : Tree) → GoodTree m (read_diagrams parts [] m.dds) (read_diagrams nesting [] m.dds) (Table i) 300 tree → IsTable m i tree
table-tree m i tree g = record {
  form = record { fits = All-weaker (Good m (Table i)) (Fits m) (λ part good. good.fits) (parts_of m tree) g.parts_good; nests = g.nests };
  table = All-weaker (Good m (Table i)) (FitsTable i) (λ part good. good.serves) (parts_of m tree) g.parts_good;
}

pub reward-tree : (m : Process) (tree : Tree) → GoodTree m (read_diagrams parts [] m.dds) (read_diagrams nesting [] m.dds) Reward 300 tree → IsReward m tree
reward-tree m tree g = record {
  form = record { fits = All-weaker (Good m Reward) (Fits m) (λ part good. good.fits) (parts_of m tree) g.parts_good; nests = g.nests };
  reward = All-weaker (Good m Reward) FitsReward (λ part good. good.serves) (parts_of m tree) g.parts_good;
}

module _ (file : List ℕ) (m : Process) (s : Scope) (r : Reads m s (read_diagrams parts [] m.dds) (read_diagrams nesting [] m.dds)) where
  rewards-each : (trees : List Shape) (a e : List Token) → Each (IsTree file quantities.Reward 0) trees a e → amounts_faults file s trees ≡ [] → All (IsReward m) (amounts_of file s trees)
  rewards-each [] a e h none = All-nil (IsReward m)
  rewards-each (t ∷ ts) a e h none =
      let q = none-append (tree_faults file s Reward 300 t) (flat_map (tree_faults file s Reward 300) ts) none in
      All-cons (IsReward m) (meaning file s t) (amounts_of file s ts)
      (reward-tree m (meaning file s t) (tree-good file m s (read_diagrams parts [] m.dds) (read_diagrams nesting [] m.dds) r Reward quantities.Reward serves-reward t a h.0 h.1 q.0))
      (rewards-each ts h.0 e h.2 q.1)

  part-rewards : (trees : List Shape) (a e : List Token) → APart file trees a e → amounts_faults file s trees ≡ [] → All (IsReward m) (amounts_of file s trees)
  part-rewards trees a e (a_tree tree is h) none =
      subst (λ (ts : List Shape). amounts_faults file s ts ≡ [] → All (IsReward m) (amounts_of file s ts)) (sym is)
      (λ n. rewards-each (tree ∷ []) a e (e, h, refl) n) none
  part-rewards trees a e (a_sum b o h) none = rewards-each trees h.b h.are.b h.are.each none

  -- the amounts of a reward or of a cost without a fault
  pub part-good : (trees : List Shape) (a e : List Token) → length a ≤ 4194304 → APart file trees a e → amounts_faults file s trees ≡ [] → AreRewards m (amounts_of file s trees)
  part-good trees a e b h none = record {
    few = omega (arith, length-map trees (meaning file s), part-length file trees a e h);
    each = part-rewards trees a e h none;
  }
