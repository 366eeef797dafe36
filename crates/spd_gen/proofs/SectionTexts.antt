-- The sections of a ring's file, as they are written, are read as its process.
use Rattle.std.proofs.Common.{◌≡◌, ℕ, zero, suc, ◌+◌, ◌<◌, ◌≤◌, Bool, true, false, cond, inl, List, [], ◌∷◌, ◌++◌, length, map, flat_map, Option, Some, None, Ok, ℤ, pos, refl, sym, ap, ◌∙◌, subst, arith, append_assoc, codes, decimal}
use Rattle.std.specs.Str.{bytes_eq}
use Rattle.std.specs.Prelude.{is_none, unwrap_or, position}
use Rattle.std.proofs.lemmas.List.{length-map, map-append}
use Rattle.spd_scaled.specs.DecimalReading.{decimal_of, sign_at, digits_at, fraction_at, exponent_at, without_end_zeros, lowest_of, scaled_of}
use Rattle.spd_lex.specs.declared.token.Token.{Token}
use Rattle.spd_lex.specs.declared.token.Kind.TheVariants.{OpenSum, CloseSum}
use Rattle.spd_lex.specs.Tokens.{tokens_from}
use Rattle.spd_model.specs.declared.tree.Tree.{Tree, Leaf}
use Rattle.spd_model.specs.declared.process.Action.{Action}
use Rattle.spd_model.specs.Numbers.{numbers_below}
use Rattle.spd_model.proofs.CallerLemmas.Lists.{length-numbers_below, map-map}
use Rattle.spd_syntax.specs.declared.file.Shape.{Shape}
use Rattle.spd_syntax.specs.declared.file.Counts.{Counts}
use Rattle.spd_syntax.specs.declared.file.Quantity.TheVariants as quantities
use Rattle.spd_syntax.specs.declared.file.Section.{Section}
use Rattle.spd_syntax.specs.declared.file.Section.TheVariants as sections
use Rattle.spd_syntax.specs.declared.refusal.Refusal.{Refusal}
use Rattle.spd_syntax.specs.declared.refusal.Refusal.TheVariants as refusals
use Rattle.spd_syntax.specs.declared.refusal.Want.TheVariants as wants
use Rattle.spd_syntax.specs.Files.{Each, APart, AreSections}
use Rattle.spd_syntax.specs.Grammar.{IsTree}
use Rattle.spd_syntax.specs.Numbers.{number_of}
use Rattle.spd_syntax.specs.Positions.{item_word, section_word, has_all}
use Rattle.spd_syntax.specs.Words.{text_of, name_passes}
use Rattle.spd_reader.specs.declared.purpose.Purpose.TheVariants as purposes
use Rattle.spd_reader.specs.Faults.{when}
use Rattle.spd_reader.specs.Trees.{is_among, trees_of, meaning, tree_faults, no_trees}
use Rattle.spd_reader.specs.Models.{Filled, Said, no_items, items_of, items_faults, missing_faults, action_of, action_names, with_action, with_section, section_faults, sections_of, sections_faults}
use Rattle.spd_gen.specs.Ring.{machine, number_text, choice_text, table_line, tables_text, noop_text, reboot_text, part_text}
use Rattle.spd_gen.specs.Process.{table_tree, working, noop, reboot}
use Rattle.spd_gen.proofs.Spots.{Spot, same-spot, blank, sign, said, is_a_word}
use Rattle.spd_gen.proofs.Names.{declared, reboot_name, reboot-word, reboot-passes, reboot-new}
use Rattle.spd_gen.proofs.TreeTexts.{working-reads}
use Rattle.spd_gen.proofs.VariableTexts.{numbers_from, numbers-are, one-more}
use Rattle.spd_gen.proofs.ActionTexts.{filled, tables, all-there, trees-there, ReadsItems, tables-read, no-cost, cost-line}

-- what was counted where so many actions stand before a place, and a reward, a discount and a tolerance or none
abbrev pub counted : ℕ → ℕ → Bool → Bool → Bool → Counts
counted n actions reward discount stop = record { vars = n; tests = n; dds = 0; actions = actions; reward = reward; discount = discount; stop = stop }

-- what is said by so many actions, a reward and settings
abbrev pub saying : ℕ → List Action → Option (List Tree) → Option ℤ → Option ℤ → Said
saying n actions reward discount tolerance = record { scope = declared n; actions = actions; reward = reward; discount = discount; tolerance = tolerance; horizon = None }

-- the action that reboots none, and those that reboot the first j machines
abbrev pub actions_of : ℕ → ℕ → List Action
actions_of n j = noop n ∷ map (reboot n) (numbers_below j)

module _ (file : List ℕ) (n : ℕ) (few : n ≤ 63) where
  -- from these tokens to the end of the file sections are written that say all this, where this was said before
  pub record ReadsSections (c : Counts) (before : Said) (ts : List Token) (after : Said) : Type 0 where
    pub all : Counts
    pub ss : List Section
    pub are : AreSections file c ss all ts []
    pub has : has_all all ≡ true
    pub means : sections_of file before ss ≡ after
    pub named : sections_faults file before ss ≡ []

  -- ---- actions

  -- the text of an action: its name, its tables, what stands behind them
  abbrev action_text : List ℕ → Option ℕ → List ℕ → List ℕ → List ℕ
  action_text name r cost bs = codes "action " ++ (name ++ 10 ∷ (flat_map (table_line n r) (numbers_from 0 n) ++ (cost ++ (codes "endaction" ++ 10 ∷ bs))))

  module _ (name : List ℕ) (r : Option ℕ) (cost : List Tree) (line : List ℕ) (after : Filled) (is-word : is_a_word name ≡ true) (passes : (at : ℕ) → name_passes wants.Name at name ≡ Ok tt)
      (costs : (end : List ℕ) (ts : List Token) → Spot file ts (line ++ end) → ReadsItems file n few (filled n r n 0 None) ts end after)
      (tables-are : after.tables ≡ tables n r n 0) (cost-is : unwrap_or after.cost [] ≡ cost)
      (k : ℕ) (fewer : k < 64) (reward discount stop : Bool) (actions : List Action) (parts : Option (List Tree)) (rate tolerance : Option ℤ) where
    abbrev said-action : Action
    said-action = record { name = name; tables = map (table_tree n r) (numbers_below n); cost = cost }

    pub action-reads : is_among (action_names actions) name ≡ false → (bs : List ℕ) (final : Said)
        → ((ts : List Token) → Spot file ts bs → ReadsSections (counted n (k + 1) reward discount stop) (saying n (actions ++ said-action ∷ []) parts rate tolerance) ts final)
        → (ts : List Token) → Spot file ts (action_text name r line bs) → ReadsSections (counted n k reward discount stop) (saying n actions parts rate tolerance) ts final
    unfolding section_word item_word
    action-reads new bs final behind ts s =
        let end = codes "endaction" ++ 10 ∷ bs in
        let lines = flat_map (table_line n r) (numbers_from 0 n) in
        let word = said file (codes "action") ts 32 (name ++ 10 ∷ (lines ++ (line ++ end))) refl (inl refl) s in
        let own = said file name word.next 10 (lines ++ (line ++ end)) is-word (inl refl) (blank file word.next 32 (name ++ 10 ∷ (lines ++ (line ++ end))) refl word.spot) in
        let x = tables-read file n few r (line ++ end) end after (costs end) 0 n (omega arith) own.next (blank file own.next 10 (lines ++ (line ++ end)) refl own.spot) in
        let last = said file (codes "endaction") x.next 10 bs refl (inl refl) x.spot in
        let rest = behind last.next (blank file last.next 10 bs refl last.spot) in
        let empty : no_items (declared n) ≡ filled n r 0 n None = ap (λ (places : List (Option Tree)). record { tables = places; cost = None }) (ap (λ (m : ℕ). no_trees m) (length-map (numbers_below n) _ ∙ length-numbers_below n)) in
        let filled-so : items_of file (declared n) (no_items (declared n)) x.its ≡ after = ap (λ (t : Filled). items_of file (declared n) t x.its) empty ∙ x.means in
        let an-action : action_of file (declared n) own.word x.its ≡ said-action =
        ap (λ (t : Filled). record { name = text_of file own.word; tables = trees_of t.tables; cost = unwrap_or t.cost [] }) filled-so
        ∙ (λ i. record { name = own.says i; tables = (ap trees_of tables-are ∙ trees-there n r) i; cost = cost-is i }) in
        let before = saying n actions parts rate tolerance in
        let fresh : is_among (action_names actions) (text_of file own.word) ≡ false = ap (is_among (action_names actions)) own.says ∙ new in
        let grown : with_action actions (action_of file (declared n) own.word x.its) ≡ actions ++ said-action ∷ [] =
        ap (λ (b : Bool). cond b actions (actions ++ action_of file (declared n) own.word x.its ∷ [])) fresh ∙ ap (λ (a : Action). actions ++ a ∷ []) an-action in
        let faultless : section_faults file before (sections.Action own.word x.its last.word) ≡ [] =
        ap (λ (b : Bool). when b (refusals.Twice own.word.from) ++ (items_faults file (declared n) (no_items (declared n)) x.its
        ++ missing_faults last.word.from (position is_none (items_of file (declared n) (no_items (declared n)) x.its).tables))) fresh
        ∙ ap (λ (fs : List Refusal). fs ++ missing_faults last.word.from (position is_none (items_of file (declared n) (no_items (declared n)) x.its).tables))
        (ap (λ (t : Filled). items_faults file (declared n) t x.its) empty ∙ x.named)
        ∙ ap (λ (places : List (Option Tree)). missing_faults last.word.from (position is_none places)) (ap (λ (t : Filled). t.tables) filled-so ∙ tables-are)
        ∙ ap (missing_faults last.word.from) (all-there n r) in
        record {
          all = rest.all;
          ss = sections.Action own.word x.its last.word ∷ rest.ss;
          are = (
            last.next,
            record {
              b = word.next;
              word = word.word;
              first = word.stands;
              body = (
                own.next,
                ap section_word word.says,
                record { word = own.stands; name = record { is = ap (name_passes wants.Name own.word.from) own.says ∙ passes own.word.from } },
                fewer,
                record { b = x.next; items = x.are; word = last.stands; ends = ap item_word last.says },
              );
            },
            rest.are,
          );
          has = rest.has;
          means = ap (λ (acts : List Action). sections_of file (saying n acts parts rate tolerance) rest.ss) grown ∙ rest.means;
          named = ap (λ (fs : List Refusal). fs ++ sections_faults file (with_section file before (sections.Action own.word x.its last.word)) rest.ss) faultless
              ∙ ap (λ (acts : List Action). sections_faults file (saying n acts parts rate tolerance) rest.ss) grown ∙ rest.named;
        }

  noop-text : (bs : List ℕ) → noop_text n ++ bs ≡ action_text (codes "noop") None [] bs
  noop-text bs =
      regroup (codes "action noop" ++ 10 ∷ []) (tables_text n None) (codes "endaction" ++ 10 ∷ []) bs
      ∙ ap (λ (all : List ℕ). codes "action noop" ++ 10 ∷ (flat_map (table_line n None) all ++ (codes "endaction" ++ 10 ∷ bs))) (numbers-are n)
    where
      regroup : (a t e rest : List ℕ) → ((a ++ t) ++ e) ++ rest ≡ a ++ (t ++ (e ++ rest))
      regroup a t e rest = simp append_assoc

  reboot-text : (i : ℕ) (bs : List ℕ) → reboot_text n i ++ bs ≡ action_text (reboot_name i) (Some i) (codes "cost (0.75)" ++ 10 ∷ []) bs
  reboot-text i bs =
      regroup (codes "action reboot") (decimal (i + 1)) (10 ∷ []) (tables_text n (Some i)) (codes "cost (0.75)" ++ 10 ∷ []) (codes "endaction" ++ 10 ∷ []) bs
      ∙ ap (λ (all : List ℕ). codes "action reboot" ++ (decimal (i + 1) ++ 10 ∷ (flat_map (table_line n (Some i)) all ++ (codes "cost (0.75)" ++ 10 ∷ (codes "endaction" ++ 10 ∷ bs))))) (numbers-are n)
    where
      regroup : (a d m t c e rest : List ℕ) → (((((a ++ d) ++ m) ++ t) ++ c) ++ e) ++ rest ≡ a ++ (d ++ (m ++ (t ++ (c ++ (e ++ rest)))))
      regroup a d m t c e rest = simp append_assoc

  pub noop-reads : (bs : List ℕ) (final : Said) → ((ts : List Token) → Spot file ts bs → ReadsSections (counted n 1 false false false) (saying n (actions_of n 0) None None None) ts final)
      → (ts : List Token) → Spot file ts (noop_text n ++ bs) → ReadsSections (counted n 0 false false false) (saying n [] None None None) ts final
  unfolding name_passes
  noop-reads bs final behind ts s =
      action-reads (codes "noop") None [] [] (filled n None n 0 None) refl (λ at. refl) (λ end us t. no-cost file n few (filled n None n 0 None) end us t) refl refl
      0 (omega arith) false false false [] None None None refl bs final behind ts (same-spot file ts (noop_text n ++ bs) (action_text (codes "noop") None [] bs) (noop-text bs) s)

  names-of : (j : ℕ) → action_names (actions_of n j) ≡ codes "noop" ∷ map reboot_name (numbers_below j)
  names-of j = ap (λ (l : List (List ℕ)). codes "noop" ∷ l) (map-map (λ (a : Action). a.name) (reboot n) (numbers_below j))

  actions-more : (j : ℕ) → actions_of n j ++ reboot n j ∷ [] ≡ actions_of n (j + 1)
  actions-more j = ap (λ (l : List Action). noop n ∷ l) (sym (map-append (reboot n) (numbers_below j) (j ∷ [])) ∙ ap (map (reboot n)) (one-more j))

  pub reboots-read : (bs : List ℕ) (final : Said) → ((ts : List Token) → Spot file ts bs → ReadsSections (counted n (n + 1) false false false) (saying n (actions_of n n) None None None) ts final)
      → (j more : ℕ) → j + more ≡ n → (ts : List Token) → Spot file ts (flat_map (reboot_text n) (numbers_from j more) ++ bs)
      → ReadsSections (counted n (j + 1) false false false) (saying n (actions_of n j) None None None) ts final
  reboots-read bs final behind j zero all ts s =
      let same : j ≡ n = omega arith in
      subst (λ (k : ℕ). ReadsSections (counted n (k + 1) false false false) (saying n (actions_of n k) None None None) ts final) (sym same) (behind ts s)
  reboots-read bs final behind j (suc more) all ts s =
      let rest = flat_map (reboot_text n) (numbers_from (j + 1) more) ++ bs in
      let cost = codes "cost (0.75)" ++ 10 ∷ [] in
      let amounts = Leaf (pos 750000000000) ∷ [] in
      action-reads (reboot_name j) (Some j) amounts cost (filled n (Some j) n 0 (Some amounts)) (reboot-word j (omega arith)) (λ at. reboot-passes wants.Name at j (omega arith))
      (λ end us t. cost-line file n few (tables n (Some j) n 0) end us t) refl refl
      (j + 1) (omega arith) false false false (actions_of n j) None None None
      (ap (λ (names : List (List ℕ)). is_among names (reboot_name j)) (names-of j) ∙ reboot-new j (omega arith))
      rest final
      (λ us t. subst (λ (acts : List Action). ReadsSections (counted n (j + 1 + 1) false false false) (saying n acts None None None) us final) (sym (actions-more j))
      (reboots-read bs final behind (j + 1) more (omega arith) us t))
      ts
      (same-spot file ts (flat_map (reboot_text n) (numbers_from j (suc more)) ++ bs) (action_text (reboot_name j) (Some j) cost rest)
      (append_assoc (reboot_text n j) (flat_map (reboot_text n) (numbers_from (j + 1) more)) bs ∙ reboot-text j rest) s)

  -- ---- the reward

  record ReadsParts (j more : ℕ) (ts : List Token) (bs : List ℕ) : Type 0 where
    next : List Token
    trees : List Shape
    each : Each (IsTree file quantities.Reward 0) trees ts next
    means : map (meaning file (declared n)) trees ≡ map working (numbers_from j more)
    named : flat_map (tree_faults file (declared n) purposes.Reward 300) trees ≡ []
    count : length trees ≡ more
    spot : Spot file next bs

  parts-read : (j more : ℕ) → j + more ≡ n → (ts : List Token) (bs : List ℕ) → Spot file ts (flat_map part_text (numbers_from j more) ++ bs) → ReadsParts j more ts bs
  parts-read j zero all ts bs s = record { next = ts; trees = []; each = refl; means = refl; named = refl; count = refl; spot = s }
  parts-read j (suc more) all ts bs s =
      let left = flat_map part_text (numbers_from (j + 1) more) ++ bs in
      let text = choice_text (machine j) (number_text (codes "1")) (number_text (codes "0")) in
      let x = working-reads file n few j (omega arith) ts left
      (blank file ts 32 (text ++ left) refl (same-spot file ts (flat_map part_text (numbers_from j (suc more)) ++ bs) (part_text j ++ left) (append_assoc (part_text j) (flat_map part_text (numbers_from (j + 1) more)) bs) s)) in
      let rest = parts-read (j + 1) more (omega arith) x.next bs x.spot in
      record {
        next = rest.next;
        trees = x.shape ∷ rest.trees;
        each = (x.next, x.is, rest.each);
        means = (λ k. x.means k ∷ rest.means k);
        named = (λ k. x.named k ++ rest.named k);
        count = ap suc rest.count;
        spot = rest.spot;
      }

  first-part : (m : ℕ) → 0 < m → (rest : List ℕ) × (flat_map part_text (numbers_from 0 m) ≡ 32 ∷ rest)
  first-part zero some = absurd (omega arith)
  first-part (suc m) some = (_, refl)

  pub reward-reads : 0 < n → (bs : List ℕ) (final : Said)
      → ((ts : List Token) → Spot file ts bs → ReadsSections (counted n (n + 1) true false false) (saying n (actions_of n n) (Some (map working (numbers_below n))) None None) ts final)
      → (ts : List Token) → Spot file ts (codes "reward [+" ++ (flat_map part_text (numbers_below n) ++ (codes "]" ++ 10 ∷ bs)))
      → ReadsSections (counted n (n + 1) false false false) (saying n (actions_of n n) None None None) ts final
  unfolding section_word
  reward-reads some bs final behind ts s =
      let end = codes "]" ++ 10 ∷ bs in
      let parts = flat_map part_text (numbers_from 0 n) in
      let first = first-part n some in
      let front : parts ++ end ≡ 32 ∷ (first.0 ++ end) = ap (λ (l : List ℕ). l ++ end) first.1 in
      let t = same-spot file ts (codes "reward [+" ++ (flat_map part_text (numbers_below n) ++ end)) (codes "reward [+" ++ 32 ∷ (first.0 ++ end))
      (ap (λ (all : List ℕ). codes "reward [+" ++ (flat_map part_text all ++ end)) (numbers-are n) ∙ ap (λ (l : List ℕ). codes "reward [+" ++ l) front) s in
      let word = said file (codes "reward") ts 32 (codes "[+" ++ 32 ∷ (first.0 ++ end)) refl (inl refl) t in
      let a = sign file OpenSum word.next 91 (codes "+" ++ 32 ∷ (first.0 ++ end)) refl refl (blank file word.next 32 (codes "[+" ++ 32 ∷ (first.0 ++ end)) refl word.spot) in
      let plus = said file (codes "+") a.next 32 (first.0 ++ end) refl (inl refl) a.spot in
      let x = parts-read 0 n (omega arith) plus.next end (same-spot file plus.next (32 ∷ (first.0 ++ end)) (parts ++ end) (sym front) plus.spot) in
      let z = sign file CloseSum x.next 93 (10 ∷ bs) refl refl x.spot in
      let rest = behind z.next (blank file z.next 10 bs refl z.spot) in
      let amounts : map (meaning file (declared n)) x.trees ≡ map working (numbers_below n) = x.means ∙ ap (map working) (sym (numbers-are n)) in
      record {
        all = rest.all;
        ss = sections.Reward word.word x.trees ∷ rest.ss;
        are = (
          z.next,
          record {
            b = word.next;
            word = word.word;
            first = word.stands;
            body = (
              ap section_word word.says,
              refl,
              APart.a_sum a.next a.one (record {
                plus = plus.word;
                b = plus.next;
                key = record { word = plus.stands; says = record { is = ap (λ (l : List ℕ). bytes_eq l (codes "+")) plus.says } };
                are = record { b = x.next; each = x.each; some = omega (arith, x.count); close = z.one };
              }),
            );
          },
          rest.are,
        );
        has = rest.has;
        means = ap (λ (trees : List Tree). sections_of file (saying n (actions_of n n) (Some trees) None None) rest.ss) amounts ∙ rest.means;
        named = ap (λ (fs : List Refusal). fs ++ sections_faults file (saying n (actions_of n n) (Some (map (meaning file (declared n)) x.trees)) None None) rest.ss) x.named
            ∙ ap (λ (trees : List Tree). sections_faults file (saying n (actions_of n n) (Some trees) None None) rest.ss) amounts ∙ rest.named;
      }

  -- ---- settings, and the end

  pub discount-reads : (k : ℕ) (acts : List Action) (parts : Option (List Tree)) (bs : List ℕ) (final : Said)
      → ((ts : List Token) → Spot file ts bs → ReadsSections (counted n k true true false) (saying n acts parts (Some (pos 950000)) None) ts final)
      → (ts : List Token) → Spot file ts (codes "discount 0.95" ++ 10 ∷ bs) → ReadsSections (counted n k true false false) (saying n acts parts None None) ts final
  unfolding section_word number_of decimal_of sign_at digits_at fraction_at exponent_at without_end_zeros lowest_of scaled_of
  discount-reads k acts parts bs final behind ts s =
      let word = said file (codes "discount") ts 32 (codes "0.95" ++ 10 ∷ bs) refl (inl refl) s in
      let number = said file (codes "0.95") word.next 10 bs refl (inl refl) (blank file word.next 32 (codes "0.95" ++ 10 ∷ bs) refl word.spot) in
      let rest = behind number.next (blank file number.next 10 bs refl number.spot) in
      record {
        all = rest.all;
        ss = sections.Setting word.word quantities.Discount (pos 950000) ∷ rest.ss;
        are = (
          number.next,
          record {
            b = word.next;
            word = word.word;
            first = word.stands;
            body = (number.word, ap section_word word.says, refl, number.stands, record { is = ap (number_of quantities.Discount number.word.from) number.says });
          },
          rest.are,
        );
        has = rest.has;
        means = rest.means;
        named = rest.named;
      }

  pub tolerance-reads : (k : ℕ) (acts : List Action) (parts : Option (List Tree)) (rate : Option ℤ) (bs : List ℕ) (final : Said)
      → ((ts : List Token) → Spot file ts bs → ReadsSections (counted n k true true true) (saying n acts parts rate (Some (pos 100000000))) ts final)
      → (ts : List Token) → Spot file ts (codes "tolerance 0.1" ++ 10 ∷ bs) → ReadsSections (counted n k true true false) (saying n acts parts rate None) ts final
  unfolding section_word number_of decimal_of sign_at digits_at fraction_at exponent_at without_end_zeros lowest_of scaled_of
  tolerance-reads k acts parts rate bs final behind ts s =
      let word = said file (codes "tolerance") ts 32 (codes "0.1" ++ 10 ∷ bs) refl (inl refl) s in
      let number = said file (codes "0.1") word.next 10 bs refl (inl refl) (blank file word.next 32 (codes "0.1" ++ 10 ∷ bs) refl word.spot) in
      let rest = behind number.next (blank file number.next 10 bs refl number.spot) in
      record {
        all = rest.all;
        ss = sections.Setting word.word quantities.Tolerance (pos 100000000) ∷ rest.ss;
        are = (
          number.next,
          record {
            b = word.next;
            word = word.word;
            first = word.stands;
            body = (number.word, ap section_word word.says, refl, number.stands, record { is = ap (number_of quantities.Tolerance number.word.from) number.says });
          },
          rest.are,
        );
        has = rest.has;
        means = rest.means;
        named = rest.named;
      }

  pub end-reads : (c : Counts) → has_all c ≡ true → (all : Said) (ts : List Token) → Spot file ts [] → ReadsSections c all ts all
  unfolding tokens_from
  end-reads c has all ts s = record { all = c; ss = []; are = (refl, s.tokens); has = has; means = refl; named = refl }
