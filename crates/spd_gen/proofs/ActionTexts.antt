-- The actions of a ring's file, as they are written, are read as those of its process.
use Rattle.std.proofs.Common.{◌≡◌, ℕ, zero, suc, ◌+◌, ◌<◌, ◌≤◌, Bool, true, false, cond, inl, List, [], ◌∷◌, ◌++◌, length, map, flat_map, replicate, Option, Some, None, pos, refl, sym, ap, ◌∙◌, subst, arith, append_assoc, append-nil, codes}
use Rattle.std.specs.Prelude.{All, is_none, is_some, nat_lt, not, unwrap_or, position, slice_index_or, slice_set}
use Rattle.std.specs.List.{prefix_len}
use Rattle.std.proofs.Math.Seq.{set-append_seam, get_or-append_seam}
use Rattle.std.proofs.lemmas.List.{length-map, map-append}
use Rattle.std.proofs.lemmas.List.Elements.{All-map}
use Rattle.std.proofs.lemmas.Bool.Decides.{nat_tests}
use Rattle.spd_lex.specs.declared.token.Token.{Token}
use Rattle.spd_model.specs.declared.tree.Tree.{Tree, Leaf}
use Rattle.spd_model.specs.Numbers.{numbers_below}
use Rattle.spd_model.proofs.CallerLemmas.Lists.{length-numbers_below, All-numbers_below, map-map}
use Rattle.spd_syntax.specs.declared.file.Quantity.TheVariants as quantities
use Rattle.spd_syntax.specs.declared.file.Item.{Item}
use Rattle.spd_syntax.specs.declared.file.Item.TheVariants as items
use Rattle.spd_syntax.specs.declared.refusal.Refusal.{Refusal}
use Rattle.spd_syntax.specs.declared.refusal.Refusal.TheVariants as refusals
use Rattle.spd_syntax.specs.declared.refusal.Want.TheVariants as wants
use Rattle.spd_syntax.specs.Files.{Each, AnItem, APart}
use Rattle.spd_syntax.specs.Positions.{item_word}
use Rattle.spd_syntax.specs.Words.{text_of, name_passes}
use Rattle.spd_reader.specs.declared.purpose.Purpose.TheVariants as purposes
use Rattle.spd_reader.specs.Faults.{when}
use Rattle.spd_reader.specs.Trees.{var_number, put, place_faults, trees_of, tree_faults}
use Rattle.spd_reader.specs.Models.{Filled, with_item, item_faults, items_of, items_faults}
use Rattle.spd_gen.specs.Ring.{machine, is_rebooted, keep_text, fix_text, table_line, keep_line, fix_line}
use Rattle.spd_gen.specs.Process.{keep_tree, fix_tree, table_tree}
use Rattle.spd_gen.proofs.Spots.{Spot, same-spot, blank, said}
use Rattle.spd_gen.proofs.Names.{declared, number-of, machine-word, machine-passes}
use Rattle.spd_gen.proofs.TreeTexts.{IsTextOf, keep-reads, fix-reads, cost-reads}
use Rattle.spd_gen.proofs.VariableTexts.{numbers_from, one-more}

-- the tables of the first j machines, and room for so many more
abbrev pub tables : ℕ → Option ℕ → ℕ → ℕ → List (Option Tree)
tables n r j more = map (λ i. Some (table_tree n r i)) (numbers_below j) ++ replicate more None

abbrev pub filled : ℕ → Option ℕ → ℕ → ℕ → Option (List Tree) → Filled
filled n r j more cost = record { tables = tables n r j more; cost = cost }

length-tables : (n : ℕ) (r : Option ℕ) (j : ℕ) → length (map (λ i. Some (table_tree n r i)) (numbers_below j)) ≡ j
length-tables n r j = length-map (numbers_below j) (λ i. Some (table_tree n r i)) ∙ length-numbers_below j

-- the next place is free
free : (n : ℕ) (r : Option ℕ) (j more : ℕ) → slice_index_or (tables n r j (suc more)) j None ≡ None
free n r j more =
    let own : List (Option Tree) = map (λ i. Some (table_tree n r i)) (numbers_below j) in
    ap (λ (k : ℕ). slice_index_or (tables n r j (suc more)) k None) (sym (length-tables n r j)) ∙ get_or-append_seam own None (replicate more None) None

-- and takes the table of the next machine
filled-more : (n : ℕ) (r : Option ℕ) (j more : ℕ) → slice_set (tables n r j (suc more)) j (Some (table_tree n r j)) ≡ tables n r (j + 1) more
filled-more n r j more =
    let f : ℕ → Option Tree = λ i. Some (table_tree n r i) in
    let own : List (Option Tree) = map f (numbers_below j) in
    ap (λ (k : ℕ). slice_set (tables n r j (suc more)) k (f j)) (sym (length-tables n r j))
    ∙ set-append_seam own None (replicate more None) (f j)
    ∙ sym (append_assoc own (f j ∷ []) (replicate more None))
    ∙ ap (λ (l : List (Option Tree)). l ++ replicate more None) (sym (map-append f (numbers_below j) (j ∷ [])) ∙ ap (map f) (one-more j))

-- where all places are taken, none is missing
prefix-all : {X : Type 0} (p : X → Bool) (xs : List X) → All (λ x. p x ≡ false) xs → prefix_len (λ x. not (p x)) xs ≡ length xs
prefix-all p [] h = refl
prefix-all p (x ∷ xs) h =
    let rest = prefix-all p xs (λ k d near. h (suc k) d (omega arith)) in
    let one : 1 + prefix_len (λ y. not (p y)) xs ≡ suc (length xs) = omega arith in
    ap (λ (b : Bool). cond (not b) (1 + prefix_len (λ y. not (p y)) xs) 0) (h 0 x (omega arith)) ∙ one

none-missing : {X : Type 0} (p : X → Bool) (xs : List X) → All (λ x. p x ≡ false) xs → position p xs ≡ None
none-missing p xs h =
    let outside : nat_lt (length xs) (length xs) ≡ false = grind (arith, nat_tests) in
    ap (λ (k : ℕ). cond (nat_lt k (length xs)) (Some k) None) (prefix-all p xs h) ∙ ap (λ (b : Bool). cond b (Some (length xs)) None) outside

pub all-there : (n : ℕ) (r : Option ℕ) → position is_none (tables n r n 0) ≡ None
all-there n r =
    let own : List (Option Tree) = map (λ i. Some (table_tree n r i)) (numbers_below n) in
    ap (position is_none) (append-nil own)
    ∙ none-missing is_none own (All-map (λ o. is_none o ≡ false) (λ i. Some (table_tree n r i)) (numbers_below n) (All-numbers_below (λ i. is_none (Some (table_tree n r i)) ≡ false) n (λ i near. refl)))

pub trees-there : (n : ℕ) (r : Option ℕ) → trees_of (tables n r n 0) ≡ map (table_tree n r) (numbers_below n)
trees-there n r =
    let own : List (Option Tree) = map (λ i. Some (table_tree n r i)) (numbers_below n) in
    ap trees_of (append-nil own) ∙ map-map (λ (place : Option Tree). unwrap_or place (Leaf (pos 0))) (λ i. Some (table_tree n r i)) (numbers_below n)

-- the line of a machine, whether it is rebooted or not
lined : (m s t e bs : List ℕ) → (((m ++ s) ++ t) ++ e) ++ bs ≡ m ++ (s ++ (t ++ (e ++ bs)))
lined m s t e bs = simp append_assoc

table-line : (n i : ℕ) (b : Bool) (bs : List ℕ) → cond b (fix_line i) (keep_line n i) ++ bs ≡ machine i ++ (32 ∷ (cond b (fix_text i) (keep_text n i) ++ 10 ∷ bs))
unfolding fix_line keep_line
table-line n i true bs = lined (machine i) (codes " ") (fix_text i) (10 ∷ []) bs
table-line n i false bs = lined (machine i) (codes " ") (keep_text n i) (10 ∷ []) bs

module _ (file : List ℕ) (n : ℕ) (few : n ≤ 63) where
  -- from these tokens on items are written that fill an action so, and then these bytes are left
  pub record ReadsItems (before : Filled) (ts : List Token) (bs : List ℕ) (after : Filled) : Type 0 where
    pub next : List Token
    pub its : List Item
    pub are : Each (AnItem file) its ts next
    pub means : items_of file (declared n) before its ≡ after
    pub named : items_faults file (declared n) before its ≡ []
    pub spot : Spot file next bs

  -- ---- the table of one machine

  record ReadsTable (before : Filled) (j : ℕ) (tree : Tree) (ts : List Token) (bs : List ℕ) : Type 0 where
    next : List Token
    item : Item
    is : AnItem file item ts next
    means : with_item file (declared n) before item ≡ record before { tables = slice_set before.tables j (Some tree) }
    named : item_faults file (declared n) before item ≡ []
    spot : Spot file next bs

  either-reads : (i : ℕ) → i < n → (b : Bool) → IsTextOf file n few quantities.Table 0 (purposes.Table i) 300 (cond b (fix_text i) (keep_text n i)) (cond b (fix_tree i) (keep_tree n i))
  either-reads i near true = fix-reads file n few i near
  either-reads i near false = keep-reads file n few i near

  table-reads : (before : Filled) (r : Option ℕ) (j : ℕ) → j < n → slice_index_or before.tables j None ≡ None → (ts : List Token) (bs : List ℕ) → Spot file ts (table_line n r j ++ bs)
      → ReadsTable before j (table_tree n r j) ts bs
  unfolding item_word
  table-reads before r j near free ts bs s =
      let b = is_rebooted r j in
      let text = cond b (fix_text j) (keep_text n j) in
      let name = said file (machine j) ts 32 (text ++ 10 ∷ bs) (machine-word j (omega arith)) (inl refl)
      (same-spot file ts (table_line n r j ++ bs) (machine j ++ (32 ∷ (text ++ 10 ∷ bs))) (table-line n j b bs) s) in
      let x = either-reads j near b name.next (10 ∷ bs) (blank file name.next 32 (text ++ 10 ∷ bs) refl name.spot) in
      let numbered : var_number (declared n) (text_of file name.word) ≡ Some j = ap (var_number (declared n)) name.says ∙ number-of n j few near in
      record {
        next = x.next;
        item = items.Table name.word x.shape;
        is = (
          name.next,
          record { word = name.stands; name = record { is = ap (name_passes wants.Name name.word.from) name.says ∙ machine-passes wants.Name name.word.from j (omega arith) } },
          ap item_word name.says,
          x.is,
        );
        means = (λ k. record before { tables = put before.tables (numbered k) (x.means k) });
        named = ap (λ (var : Option ℕ). place_faults before.tables name.word.from var ++ tree_faults file (declared n) (purposes.Table (unwrap_or var 0)) 300 x.shape) numbered
            ∙ ap (λ (o : Option Tree). when (is_some o) (refusals.Twice name.word.from) ++ tree_faults file (declared n) (purposes.Table j) 300 x.shape) free
            ∙ x.named;
        spot = blank file x.next 10 bs refl x.spot;
      }

  -- ---- the tables of all machines, and what stands behind them

  pub tables-read : (r : Option ℕ) (bs end : List ℕ) (after : Filled) → ((ts : List Token) → Spot file ts bs → ReadsItems (filled n r n 0 None) ts end after)
      → (j more : ℕ) → j + more ≡ n → (ts : List Token) → Spot file ts (flat_map (table_line n r) (numbers_from j more) ++ bs) → ReadsItems (filled n r j more None) ts end after
  tables-read r bs end after behind j zero all ts s =
      let same : j ≡ n = omega arith in
      subst (λ (k : ℕ). ReadsItems (filled n r k 0 None) ts end after) (sym same) (behind ts s)
  tables-read r bs end after behind j (suc more) all ts s =
      let left = flat_map (table_line n r) (numbers_from (j + 1) more) ++ bs in
      let before = filled n r j (suc more) None in
      let x = table-reads before r j (omega arith) (free n r j more) ts left (same-spot file ts (flat_map (table_line n r) (numbers_from j (suc more)) ++ bs) (table_line n r j ++ left)
      (append_assoc (table_line n r j) (flat_map (table_line n r) (numbers_from (j + 1) more)) bs) s) in
      let rest = tables-read r bs end after behind (j + 1) more (omega arith) x.next x.spot in
      let grown : with_item file (declared n) before x.item ≡ filled n r (j + 1) more None = x.means ∙ (λ k. record before { tables = filled-more n r j more k }) in
      record {
        next = rest.next;
        its = x.item ∷ rest.its;
        are = (x.next, x.is, rest.are);
        means = ap (λ (t : Filled). items_of file (declared n) t rest.its) grown ∙ rest.means;
        named = ap (λ (fs : List Refusal). fs ++ items_faults file (declared n) (with_item file (declared n) before x.item) rest.its) x.named
            ∙ ap (λ (t : Filled). items_faults file (declared n) t rest.its) grown ∙ rest.named;
        spot = rest.spot;
      }

  -- ---- what stands behind the tables

  pub no-cost : (before : Filled) (end : List ℕ) (ts : List Token) → Spot file ts end → ReadsItems before ts end before
  no-cost before end ts s = record { next = ts; its = []; are = refl; means = refl; named = refl; spot = s }

  pub cost-line : (places : List (Option Tree)) (end : List ℕ) (ts : List Token) → Spot file ts (codes "cost (0.75)" ++ 10 ∷ end)
      → ReadsItems (record { tables = places; cost = None }) ts end (record { tables = places; cost = Some (Leaf (pos 750000000000) ∷ []) })
  unfolding item_word
  cost-line places end ts s =
      let word = said file (codes "cost") ts 32 (codes "(0.75)" ++ 10 ∷ end) refl (inl refl) s in
      let x = cost-reads file n few word.next (10 ∷ end) (blank file word.next 32 (codes "(0.75)" ++ 10 ∷ end) refl word.spot) in
      record {
        next = x.next;
        its = items.Cost word.word (x.shape ∷ []) ∷ [];
        are = (x.next, (word.next, word.stands, ap item_word word.says, APart.a_tree x.shape refl x.is), refl);
        means = (λ k. record { tables = places; cost = Some (x.means k ∷ []) });
        named = (λ k. (x.named k ++ []) ++ []);
        spot = blank file x.next 10 end refl x.spot;
      }
