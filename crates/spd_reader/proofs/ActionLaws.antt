-- What the items of actions mean and the faults of their names, one after the other.
use Rattle.std.proofs.Common.{◌≡◌, ℕ, ◌+◌, ◌<◌, ◌≤◌, Bool, List, [], ◌∷◌, ◌++◌, length, get_or, drop, Option, refl, sym, ap, ◌∙◌, append_assoc}
use Rattle.std.specs.Prelude.{is_some, unwrap_or}
use Rattle.std.proofs.lemmas.List.{at_drop_more, at_drop_all}
use Rattle.spd_model.specs.declared.tree.Tree.{Tree}
use Rattle.spd_syntax.specs.declared.file.Shape.{Shape}
use Rattle.spd_syntax.specs.declared.file.Item.{Item}
use Rattle.spd_syntax.specs.declared.file.Item.TheVariants as items
use Rattle.spd_syntax.specs.declared.refusal.Refusal.{Refusal}
use Rattle.spd_syntax.specs.declared.refusal.Refusal.TheVariants.{Twice}
use Rattle.spd_syntax.specs.declared.file.Word.{Word}
use Rattle.spd_syntax.specs.Words.{text_of}
use Rattle.spd_reader.specs.declared.purpose.Purpose.TheVariants.{Table, Reward}
use Rattle.spd_reader.specs.Faults.{least, when}
use Rattle.spd_reader.specs.Trees.{Scope, var_number, place_faults, meaning, tree_faults}
use Rattle.spd_reader.specs.Models.{Filled, amounts_of, amounts_faults, with_item, item_faults, items_of, items_faults}
use Rattle.spd_reader.proofs.LeastLaws.{least_two, least_none}
use Rattle.spd_reader.proofs.TreeLaws.{length-put}

-- ---- one part of a reward or a cost more

module _ (file : List ℕ) (s : Scope) (trees : List Shape) (i : ℕ) (shape d : Shape) (within : i < length trees) (item : shape ≡ get_or trees i d) where
  pub amount_means : (amounts more all : List Tree) (tree : Tree) → tree ≡ meaning file s shape → more ≡ amounts ++ tree ∷ []
      → amounts ++ amounts_of file s (drop i trees) ≡ all → more ++ amounts_of file s (drop (i + 1) trees) ≡ all
  amount_means amounts more all tree means is told =
      let rest = amounts_of file s (drop (i + 1) trees) in
      ap (λ (l : List Tree). l ++ rest) is ∙ append_assoc amounts (tree ∷ []) rest ∙ ap (λ (t : Tree). amounts ++ t ∷ rest) means
      ∙ ap (λ (x : Shape). amounts ++ amounts_of file s (x ∷ drop (i + 1) trees)) item
      ∙ sym (at_drop_more (λ (l : List Shape). amounts ++ amounts_of file s l) trees i d within) ∙ told

  pub amount_notes : (found after all : Option Refusal) → after ≡ least found (tree_faults file s Reward 300 shape) → least found (amounts_faults file s (drop i trees)) ≡ all
      → least after (amounts_faults file s (drop (i + 1) trees)) ≡ all
  amount_notes found after all noted told =
      let rest = amounts_faults file s (drop (i + 1) trees) in
      least_two found after (least after rest) (tree_faults file s Reward 300 shape) rest noted refl
      ∙ ap (λ (x : Shape). least found (amounts_faults file s (x ∷ drop (i + 1) trees))) item
      ∙ sym (at_drop_more (λ (l : List Shape). least found (amounts_faults file s l)) trees i d within) ∙ told

-- ---- behind the last part

pub amounts_noted : (file : List ℕ) (s : Scope) (trees : List Shape) (i : ℕ) (found all : Option Refusal) → length trees ≤ i → least found (amounts_faults file s (drop i trees)) ≡ all → found ≡ all
amounts_noted file s trees i found all past told = least_none found ∙ sym (at_drop_all (λ (l : List Shape). least found (amounts_faults file s l)) trees i past) ∙ told

-- ---- one item more

module _ (file : List ℕ) (s : Scope) (t more : Filled) (its : List Item) (i : ℕ) (item d : Item) (within : i < length its) (at : item ≡ get_or its i d) (is : more ≡ with_item file s t item) where
  pub item_means : (all : Filled) → items_of file s t (drop i its) ≡ all → items_of file s more (drop (i + 1) its) ≡ all
  item_means all told =
      ap (λ (k : Filled). items_of file s k (drop (i + 1) its)) is ∙ ap (λ (x : Item). items_of file s t (x ∷ drop (i + 1) its)) at
      ∙ sym (at_drop_more (λ (l : List Item). items_of file s t l) its i d within) ∙ told

  pub item_notes : (found after all : Option Refusal) → after ≡ least found (item_faults file s t item) → least found (items_faults file s t (drop i its)) ≡ all
      → least after (items_faults file s more (drop (i + 1) its)) ≡ all
  item_notes found after all noted told =
      let rest = λ (k : Filled). items_faults file s k (drop (i + 1) its) in
      least_two found after (least after (rest more)) (item_faults file s t item) (rest (with_item file s t item)) noted (ap (λ (k : Filled). least after (rest k)) is)
      ∙ ap (λ (x : Item). least found (items_faults file s t (x ∷ drop (i + 1) its))) at ∙ sym (at_drop_more (λ (l : List Item). least found (items_faults file s t l)) its i d within) ∙ told

-- ---- behind the last item

pub items_noted : (file : List ℕ) (s : Scope) (t : Filled) (its : List Item) (i : ℕ) (found all : Option Refusal) → length its ≤ i → least found (items_faults file s t (drop i its)) ≡ all → found ≡ all
items_noted file s t its i found all past told = least_none found ∙ sym (at_drop_all (λ (l : List Item). least found (items_faults file s t l)) its i past) ∙ told

-- ---- an item leaves as many places as there were

pub length-with_item : (file : List ℕ) (s : Scope) (t : Filled) (item : Item) → length (with_item file s t item).tables ≡ length t.tables
length-with_item file s t (items.Table w tree) = length-put t.tables (var_number s (text_of file w)) (meaning file s tree)
length-with_item file s t (items.Cost w trees) = refl

-- ---- the faults of one item

pub table_notes : (file : List ℕ) (s : Scope) (t : Filled) (w : Word) (tree : Shape) (item : Item) (var : Option ℕ) (n : ℕ) (found mid after : Option Refusal)
    → item ≡ items.Table w tree → var ≡ var_number s (text_of file w) → n ≡ unwrap_or var 0
    → mid ≡ least found (place_faults t.tables w.from var) → after ≡ least mid (tree_faults file s (Table n) 300 tree)
    → after ≡ least found (item_faults file s t item)
table_notes file s t w tree item var n found mid after is named numbered placed walked =
    least_two found mid after (place_faults t.tables w.from var) (tree_faults file s (Table n) 300 tree) placed walked
    ∙ ap (λ (m : ℕ). least found (place_faults t.tables w.from var ++ tree_faults file s (Table m) 300 tree)) numbered
    ∙ ap (λ (v : Option ℕ). least found (place_faults t.tables w.from v ++ tree_faults file s (Table (unwrap_or v 0)) 300 tree)) named
    ∙ ap (λ (x : Item). least found (item_faults file s t x)) (sym is)

pub cost_notes : (file : List ℕ) (s : Scope) (t : Filled) (w : Word) (trees parts : List Shape) (item : Item) (twice : Bool) (found mid after : Option Refusal)
    → item ≡ items.Cost w parts → trees ≡ parts → twice ≡ is_some t.cost
    → mid ≡ least found (when twice (Twice w.from)) → after ≡ least mid (amounts_faults file s trees)
    → after ≡ least found (item_faults file s t item)
cost_notes file s t w trees parts item twice found mid after is same again noted walked =
    least_two found mid after (when twice (Twice w.from)) (amounts_faults file s trees) noted walked
    ∙ ap (λ (l : List Shape). least found (when twice (Twice w.from) ++ amounts_faults file s l)) same
    ∙ ap (λ (b : Bool). least found (when b (Twice w.from) ++ amounts_faults file s parts)) again
    ∙ ap (λ (x : Item). least found (item_faults file s t x)) (sym is)
