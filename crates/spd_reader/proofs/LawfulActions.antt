-- An action without a fault of its names is one of a lawful model.
use Rattle.std.proofs.Common.{◌≡◌, ℕ, zero, suc, ◌<◌, ◌≤◌, Bool, true, false, cond, List, [], ◌∷◌, length, get_or, set, Option, Some, None, refl, sym, ap, subst, ◌∙◌, arith, inl, inr, pos}
use Rattle.std.specs.Prelude.{IfSome, is_some, is_none, unwrap_or, slice_index_or, position, nat_lt}
use Rattle.std.specs.List.{position_or_len}
use Rattle.std.proofs.lemmas.Bool.Decides.{nat_tests}
use Rattle.std.proofs.lemmas.Bool.{cases_eq}
use Rattle.std.proofs.Common.{get_or-set_same, get_or-set_other}
use Rattle.std.proofs.lemmas.List.{length-map, length-set, length-replicate, get_or-map}
use Rattle.std.proofs.lemmas.List.Elements.{All-nil, All-replicate}
use Rattle.spd_lex.specs.declared.token.Token.{Token}
use Rattle.spd_model.specs.declared.tree.Tree.{Tree, Leaf}
use Rattle.spd_model.specs.Lawful.{IsTable, IsReward, AreRewards, IsAction}
use Rattle.spd_model.specs.Process.{Process}
use Rattle.spd_model.specs.Trees.{parts, nesting, read_diagrams}
use Rattle.spd_syntax.specs.declared.file.Word.{Word}
use Rattle.spd_syntax.specs.declared.file.Quantity.TheVariants as quantities
use Rattle.spd_syntax.specs.declared.file.Item.{Item}
use Rattle.spd_syntax.specs.declared.file.Item.TheVariants as items
use Rattle.spd_syntax.specs.declared.refusal.Refusal.TheVariants as refusals
use Rattle.spd_syntax.specs.Words.{text_of}
use Rattle.spd_syntax.specs.Files.{Each, AName, AnItem, AreItems}
use Rattle.spd_reader.specs.declared.purpose.Purpose.TheVariants.{Table}
use Rattle.spd_reader.specs.Faults.{when}
use Rattle.spd_reader.specs.Models.{Filled, no_items, with_item, item_faults, items_of, items_faults, missing_faults, action_of, action_faults}
use Rattle.spd_reader.specs.Trees.{Scope, var_number, put, trees_of, place_faults, meaning, tree_faults}
use Rattle.spd_reader.proofs.LawfulDiagrams.{serves-table, table-tree, part-good}
use Rattle.spd_reader.proofs.LawfulLists.{none-append}
use Rattle.spd_reader.proofs.LawfulNames.{name-passed}
use Rattle.spd_reader.proofs.LawfulTokens.{first-shorter, item-length}
use Rattle.spd_reader.proofs.LawfulTrees.{Reads, tree-good}

-- where no place is without a tree, each has one
no-gap : (places : List (Option Tree)) → length places ≤ position_or_len is_none places → (i : ℕ) → i < length places → (tree : Tree) × (get_or places i None ≡ Some tree)
no-gap [] h i near = absurd (omega arith)
no-gap (None ∷ places) h i near = absurd (omega arith)
no-gap (Some t ∷ places) h zero near = (t, refl)
no-gap (Some t ∷ places) h (suc i) near = no-gap places (omega arith) i (omega arith)

-- each variable has a table where none is missing
missing-none : (at : ℕ) (places : List (Option Tree)) → missing_faults at (position is_none places) ≡ [] → (i : ℕ) → i < length places → (tree : Tree) × (get_or places i None ≡ Some tree)
missing-none at places h = no-gap places (past (nat_lt (position_or_len is_none places) (length places)) refl (unmissed (position is_none places) h))
  where
    past : (b : Bool) → nat_lt (position_or_len is_none places) (length places) ≡ b → cond b (Some (position_or_len is_none places)) None ≡ None → length places ≤ position_or_len is_none places
    past true t h = absurd (cc)
    past false t h = grind (arith, nat_tests)

    unmissed : (o : Option ℕ) → missing_faults at o ≡ [] → o ≡ None
    unmissed None h = refl
    unmissed (Some v) h = absurd (cc)

module _ (file : List ℕ) (m : Process) (s : Scope) (r : Reads m s (read_diagrams parts [] m.dds) (read_diagrams nesting [] m.dds)) where
  -- what stands in a variable's place is a table of it
  abbrev IsPlace : ℕ → Option Tree → Type 0
  IsPlace i None = Unit {0}
  IsPlace i (Some tree) = IsTable m i tree

  -- what the items before a place said
  record KeptItems (t : Filled) : Type 0 where
    count : length t.tables ≡ length m.vars
    tables : (i : ℕ) → i < length t.tables → IsPlace i (get_or t.tables i None)
    cost : IfSome t.cost (AreRewards m)

  none-kept : KeptItems (no_items s)
  none-kept = record {
    count = length-replicate (length s.vars) None ∙ ap length r.vars;
    tables = λ i near. subst (IsPlace i) (sym (none-at i near)) tt;
    cost = tt;
  }
    where
      none-at : (i : ℕ) → i < length (no_items s).tables → get_or (no_items s).tables i None ≡ None
      none-at i near = All-replicate (λ (o : Option Tree). o ≡ None) (length s.vars) None refl i None near

  -- a table in the place of its variable
  put-kept : (t : Filled) (at : ℕ) (o : Option ℕ) (name : List ℕ) (tree : Tree) → var_number s name ≡ o → place_faults t.tables at o ≡ [] → IsTable m (unwrap_or o 0) tree → KeptItems t → KeptItems (record t { tables = put t.tables o tree })
  put-kept t at None name tree e none table k = absurd (cc none)
  put-kept t at (Some v) name tree e none table k = record {
    count = length-set t.tables v (Some tree) ∙ k.count;
    tables = λ i near. elim (cases_eq i v) [
      | inl same ↦ subst (λ j. IsPlace j (get_or (set t.tables v (Some tree)) j None)) (sym same) (subst (IsPlace v) (sym (get_or-set_same t.tables v (Some tree) None (there i near same))) table)
      | inr differ ↦ subst (IsPlace i) (sym (get_or-set_other t.tables v i (Some tree) None differ)) (k.tables i (omega (arith, near, length-set t.tables v (Some tree))))
    ];
    cost = k.cost;
  }
    where
      there : (i : ℕ) → i < length (set t.tables v (Some tree)) → i ≡ v → v < length t.tables
      there i near same = omega (arith, length-set t.tables v (Some tree))

  item-kept : (t : Filled) (item : Item) (a e : List Token) → length a ≤ 4194304 → AnItem file item a e → item_faults file s t item ≡ [] → KeptItems t → KeptItems (with_item file s t item)
  item-kept t (items.Table w tree) a e b h none k =
      let o = var_number s (text_of file w) in
      let q = none-append (place_faults t.tables w.from o) (tree_faults file s (Table (unwrap_or o 0)) 300 tree) none in
      put-kept t w.from o (text_of file w) (meaning file s tree) refl q.0
      (table-tree m (unwrap_or o 0) (meaning file s tree) (tree-good file m s (read_diagrams parts [] m.dds) (read_diagrams nesting [] m.dds) r (Table (unwrap_or o 0)) quantities.Table (serves-table (unwrap_or o 0)) tree h.0 e h.3 q.1)) k
  item-kept t (items.Cost w trees) a e b h none k =
      let q = none-append (when (is_some t.cost) (refusals.Twice w.from)) _ none in
      record { count = k.count; tables = k.tables; cost = part-good file m s r trees h.0 e (omega (arith, first-shorter w a h.0 h.1)) h.3 q.1 }

  items-kept : (t : Filled) (its : List Item) (a e : List Token) → length a ≤ 4194304 → Each (AnItem file) its a e → items_faults file s t its ≡ [] → KeptItems t → KeptItems (items_of file s t its)
  items-kept t [] a e b h none k = k
  items-kept t (item ∷ its) a e b h none k =
      let q = none-append (item_faults file s t item) (items_faults file s (with_item file s t item) its) none in
      items-kept (with_item file s t item) its h.0 e (omega (arith, item-length file item a h.0 h.1)) h.2 q.1 (item-kept t item a h.0 b h.1 q.0 k)

  cost-good : (o : Option (List Tree)) → IfSome o (AreRewards m) → AreRewards m (unwrap_or o [])
  cost-good None h = record { few = omega arith; each = All-nil (IsReward m) }
  cost-good (Some trees) h = h

  -- an action without a fault
  pub action-good : (w : Word) (its : List Item) (end : Word) (a b e : List Token) → length b ≤ 4194304 → AName file w a b → AreItems file its end b e → action_faults file s its end ≡ [] → IsAction m (action_of file s w its)
  action-good w its end a b e short name h none =
      let t = items_of file s (no_items s) its in
      let q = none-append (items_faults file s (no_items s) its) (missing_faults end.from (position is_none t.tables)) none in
      let k : KeptItems t = items-kept (no_items s) its b h.b short h.items q.0 none-kept in
      record {
        named = name-passed _ w.from (text_of file w) name.name.is;
        one_each = length-map t.tables (λ (place : Option Tree). unwrap_or place (Leaf (pos 0))) ∙ k.count;
        tables = λ i tree near. stands t k i tree (omega (arith, near, k.count)) (missing-none end.from t.tables q.1 i (omega (arith, near, k.count)));
        cost = cost-good t.cost k.cost;
      }
    where
      stands : (t : Filled) → KeptItems t → (i : ℕ) (other : Tree) → i < length t.tables → ((tree : Tree) × (get_or t.tables i None ≡ Some tree)) → IsTable m i (slice_index_or (trees_of t.tables) i other)
      stands t k i other near found =
          subst (IsTable m i) (sym (get_or-map (λ (place : Option Tree). unwrap_or place (Leaf (pos 0))) t.tables i None other near ∙ ap (λ (place : Option Tree). unwrap_or place (Leaf (pos 0))) found.1))
          (subst (IsPlace i) found.1 (k.tables i near))
