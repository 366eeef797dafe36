-- The trees of a ring's file, as they are written, are read as the trees of its process, and their names have no fault.
use Rattle.std.proofs.Common.{◌≡◌, ℕ, ◌+◌, ◌-◌, ◌<◌, ◌≤◌, Bool, true, false, cond, inl, inr, List, [], ◌∷◌, ◌++◌, length, Option, Some, Ok, ℤ, pos, refl, ap, ◌∙◌, arith, append_assoc, codes}
use Rattle.std.specs.Prelude.{◌&&◌, not, nat_le, unwrap_or, is_none}
use Rattle.std.specs.List.{list_any}
use Rattle.std.proofs.lemmas.Bool.Decides.{nat_tests}
use Rattle.spd_scaled.specs.DecimalReading.{decimal_of, sign_at, digits_at, fraction_at, exponent_at, without_end_zeros, lowest_of, scaled_of}
use Rattle.spd_lex.specs.declared.token.Token.{Token}
use Rattle.spd_lex.specs.declared.token.Kind.TheVariants.{Open, Close}
use Rattle.spd_model.specs.declared.tree.Tree.{Tree, Leaf, Branch}
use Rattle.spd_syntax.specs.declared.file.Word.{Word}
use Rattle.spd_syntax.specs.declared.file.Shape.{Shape, Number, Choice, more_of-Branch, end_of-Branch}
use Rattle.spd_syntax.specs.declared.file.Shape.TheBlock.{shape-the_row-Branch-0, hidden-the_row-Branch-0}
use denote.Hole.Carrier
use Rattle.spd_syntax.specs.declared.file.Branch.{Branch as Written}
use Rattle.spd_syntax.specs.declared.file.Quantity.{Quantity}
use Rattle.spd_syntax.specs.declared.file.Quantity.TheVariants as quantities
use Rattle.spd_syntax.specs.declared.refusal.Refusal.TheVariants as refusals
use Rattle.spd_syntax.specs.declared.refusal.Want.TheVariants as wants
use Rattle.spd_syntax.specs.Grammar.{IsTree}
use Rattle.spd_syntax.specs.Numbers.{number_of}
use Rattle.spd_syntax.specs.Words.{text_of, unmarked, front_of, name_passes, value_passes, is_number_word, is_primed}
use Rattle.spd_reader.specs.declared.purpose.Purpose.{Purpose}
use Rattle.spd_reader.specs.declared.purpose.Purpose.TheVariants as purposes
use Rattle.spd_reader.specs.Faults.{when}
use Rattle.spd_reader.specs.Trees.{var_number, values_of, number_in, no_trees, put, trees_of, place_faults, name_faults, may_prime, meaning, branches_of, tree_faults, branch_faults}
use Rattle.spd_gen.specs.Ring.{machine, next, left_of, number_text, choice_text, chances_text, keep_text, fix_text}
use Rattle.spd_gen.specs.Process.{choice, chances, keep_tree, fix_tree, working}
use Rattle.spd_gen.proofs.ValidLaws.{left-below}
use Rattle.spd_gen.proofs.Spots.{Spot, same-spot, blank, sign, said, is_a_word}
use Rattle.spd_gen.proofs.Names.{declared, number-of, values-at, machine-word, next-word, machine-passes, machine-present, next-primed, front-next}

-- a choice of two branches
abbrev two : Word → Bool → Word → Shape → Word → Shape → Shape
two name primed wu su wd sd =
    let up : Written = record { value = wu; tree = su } in
    let down : Written = record { value = wd; tree = sd } in
    Choice name primed (up ∷ down ∷ [])

-- a choice between two trees, and what stands behind it
regroup : (o h u a d b e bs : List ℕ) → ((((((o ++ h) ++ u) ++ a) ++ d) ++ b) ++ e) ++ bs ≡ o ++ (h ++ (u ++ (a ++ (d ++ (b ++ (e ++ bs))))))
regroup o h u a d b e bs = simp append_assoc

module _ (file : List ℕ) (n : ℕ) (few : n ≤ 63) where
  -- From these tokens on a tree is written that means this one, without a fault, and then these bytes are left.
  pub record ReadsTree (q : Quantity) (level : ℕ) (p : Purpose) (depth : ℕ) (ts : List Token) (bs : List ℕ) (tree : Tree) : Type 0 where
    pub next : List Token
    pub shape : Shape
    pub is : IsTree file q level shape ts next
    pub means : meaning file (declared n) shape ≡ tree
    pub named : tree_faults file (declared n) p depth shape ≡ []
    pub spot : Spot file next bs

  -- wherever this text stands, it is read as this tree
  abbrev pub IsTextOf : Quantity → ℕ → Purpose → ℕ → List ℕ → Tree → Type 0
  IsTextOf q level p depth text tree = (ts : List Token) (bs : List ℕ) → Spot file ts (text ++ bs) → ReadsTree q level p depth ts bs tree

  -- ---- numbers

  pub number-reads : (q : Quantity) (level : ℕ) (p : Purpose) (depth : ℕ) (text : List ℕ) (units : ℤ) → level < 300 → is_a_word text ≡ true → is_number_word text ≡ true
      → ((at : ℕ) → number_of q at text ≡ Ok units) → IsTextOf q level p depth (number_text text) (Leaf units)
  number-reads q level p depth text units shallow word number is ts bs s =
      let a = sign file Open ts 40 (text ++ 41 ∷ bs) refl refl (same-spot file ts (number_text text ++ bs) (40 ∷ (text ++ 41 ∷ bs)) (ap (λ (l : List ℕ). 40 ∷ l) (append_assoc text (codes ")") bs)) s) in
      let w = said file text a.next 41 bs word (inr refl) a.spot in
      let z = sign file Close w.next 41 bs refl refl w.spot in
      record {
        next = z.next;
        shape = Number w.word units;
        is = record {
          shallow = shallow;
          b = a.next;
          opens = a.one;
          inside = (w.next, w.stands, z.one, ap is_number_word w.says ∙ number, record { is = ap (number_of q w.word.from) w.says ∙ is w.word.from });
        };
        means = refl;
        named = refl;
        spot = z.spot;
      }

  -- ---- choices

  -- what is known of the word by which a choice is made: it names machine i, in the next state where it is primed
  pub record IsHeadOf (p : Purpose) (primed : Bool) (i : ℕ) (head : List ℕ) : Type 0 where
    pub near : i < n
    pub word : is_a_word head ≡ true
    pub apart : is_number_word head ≡ false
    pub mark : is_primed head ≡ primed
    pub name : cond primed (front_of head) head ≡ machine i
    pub may : (primed && not (may_prime p i)) ≡ false

  abbrev values : List (List ℕ)
  values = codes "up" ∷ codes "down" ∷ []

  name-text : (primed : Bool) (w : Word) (head : List ℕ) → text_of file w ≡ head → text_of file (record { from = w.from; to = w.to - 1 }) ≡ front_of head
      → text_of file (unmarked primed w) ≡ cond primed (front_of head) head
  name-text true w head says front = front
  name-text false w head says front = says

  module _ (q : Quantity) (level : ℕ) (p : Purpose) (depth : ℕ) (i : ℕ) (primed : Bool) (head up down : List ℕ) (tree-up tree-down : Tree) (shallow : level + 1 < 300) (is : IsHeadOf p primed i head) where
    -- a choice of two shapes
    module _ (name wu wd : Word) (su sd : Shape) (named : text_of file name ≡ machine i) (says-up : text_of file wu ≡ codes "up") (says-down : text_of file wd ≡ codes "down")
        (means-up : meaning file (declared n) su ≡ tree-up) (means-down : meaning file (declared n) sd ≡ tree-down)
        (faults-up : tree_faults file (declared n) p (depth - 1) su ≡ []) (faults-down : tree_faults file (declared n) p (depth - 1) sd ≡ []) where
      numbered : var_number (declared n) (text_of file name) ≡ Some i
      numbered = ap (var_number (declared n)) named ∙ number-of n i few is.near

      choice-means : meaning file (declared n) (two name primed wu su wd sd) ≡ Branch i primed (tree-up ∷ tree-down ∷ [])
      unfolding shape-the_row-Branch-0 hidden-the_row-Branch-0 denote.Hole.Carrier.hidden
      choice-means =
          ap (λ (var : Option ℕ). let vs = values_of (declared n) var in Branch (unwrap_or var 0) primed (trees_of (branches_of file (declared n) vs (no_trees (length vs)) (more_of-Branch wu su (more_of-Branch wd sd end_of-Branch))))) numbered
          ∙ ap (λ (vs : List (List ℕ)). Branch i primed (trees_of (branches_of file (declared n) vs (no_trees (length vs)) (more_of-Branch wu su (more_of-Branch wd sd end_of-Branch))))) (values-at n i is.near)
          ∙ (λ k. Branch i primed (trees_of (put (put (no_trees 2) (number_in values (says-up k)) (means-up k)) (number_in values (says-down k)) (means-down k))))

      choice-named : tree_faults file (declared n) p depth (two name primed wu su wd sd) ≡ []
      unfolding shape-the_row-Branch-0 hidden-the_row-Branch-0 denote.Hole.Carrier.hidden
      choice-named =
          ap (λ (var : Option ℕ). let vs = values_of (declared n) var in
          name_faults p primed name.from var ++ branch_faults file (declared n) p (depth - 1) vs (no_trees (length vs)) (more_of-Branch wu su (more_of-Branch wd sd end_of-Branch))
          ++ when (list_any is_none (branches_of file (declared n) vs (no_trees (length vs)) (more_of-Branch wu su (more_of-Branch wd sd end_of-Branch)))) (refusals.MissingBranch name.from)) numbered
          ∙ ap (λ (vs : List (List ℕ)).
          name_faults p primed name.from (Some i) ++ branch_faults file (declared n) p (depth - 1) vs (no_trees (length vs)) (more_of-Branch wu su (more_of-Branch wd sd end_of-Branch))
          ++ when (list_any is_none (branches_of file (declared n) vs (no_trees (length vs)) (more_of-Branch wu su (more_of-Branch wd sd end_of-Branch)))) (refusals.MissingBranch name.from)) (values-at n i is.near)
          ∙ (λ k. when (is.may k) (refusals.Primed name.from)
          ++ (place_faults (no_trees 2) wu.from (number_in values (says-up k)) ++ faults-up k
          ++ (place_faults (put (no_trees 2) (number_in values (says-up k)) (means-up k)) wd.from (number_in values (says-down k)) ++ faults-down k ++ []))
          ++ when (list_any is_none (put (put (no_trees 2) (number_in values (says-up k)) (means-up k)) (number_in values (says-down k)) (means-down k))) (refusals.MissingBranch name.from))

    pub choice-reads : ((at : ℕ) → name_passes wants.Name at (machine i) ≡ Ok tt) → IsTextOf q (level + 1) p (depth - 1) up tree-up → IsTextOf q (level + 1) p (depth - 1) down tree-down
        → IsTextOf q level p depth (choice_text head up down) (Branch i primed (tree-up ∷ tree-down ∷ []))
    unfolding shape-the_row-Branch-0 hidden-the_row-Branch-0 denote.Hole.Carrier.hidden value_passes
    choice-reads passes reads-up reads-down ts bs s =
        let after-down = 41 ∷ 41 ∷ bs in
        let after-up = codes ") (down " ++ (down ++ after-down) in
        let a = sign file Open ts 40 (head ++ (codes " (up " ++ (up ++ after-up))) refl refl
        (same-spot file ts (choice_text head up down ++ bs) (40 ∷ (head ++ (codes " (up " ++ (up ++ after-up)))) (regroup (codes "(") head (codes " (up ") up (codes ") (down ") down (codes "))") bs) s) in
        let h = said file head a.next 32 (40 ∷ (codes "up " ++ (up ++ after-up))) is.word (inl refl) a.spot in
        let b = sign file Open h.next 40 (codes "up " ++ (up ++ after-up)) refl refl (blank file h.next 32 (40 ∷ (codes "up " ++ (up ++ after-up))) refl h.spot) in
        let u = said file (codes "up") b.next 32 (up ++ after-up) refl (inl refl) b.spot in
        let first = reads-up u.next after-up (blank file u.next 32 (up ++ after-up) refl u.spot) in
        let c = sign file Close first.next 41 (codes " (down " ++ (down ++ after-down)) refl refl first.spot in
        let d = sign file Open c.next 40 (codes "down " ++ (down ++ after-down)) refl refl (blank file c.next 32 (40 ∷ (codes "down " ++ (down ++ after-down))) refl c.spot) in
        let v = said file (codes "down") d.next 32 (down ++ after-down) refl (inl refl) d.spot in
        let second = reads-down v.next after-down (blank file v.next 32 (down ++ after-down) refl v.spot) in
        let e = sign file Close second.next 41 (41 ∷ bs) refl refl second.spot in
        let z = sign file Close e.next 41 bs refl refl e.spot in
        let named = name-text primed h.word head h.says h.front ∙ is.name in
        record {
          next = z.next;
          shape = two (unmarked primed h.word) primed u.word first.shape v.word second.shape;
          is = record {
            shallow = omega arith;
            b = a.next;
            opens = a.one;
            inside = (
              h.next,
              e.next,
              h.word,
              h.stands,
              (
                b.next,
                u.next,
                first.is.b,
                first.next,
                c.next,
                b.one,
                u.stands,
                record { is = ap (value_passes wants.Value u.word.from) u.says },
                shallow,
                first.is.opens,
                first.is.inside,
                c.one,
                (
                  d.next,
                  v.next,
                  second.is.b,
                  second.next,
                  e.next,
                  d.one,
                  v.stands,
                  record { is = ap (value_passes wants.Value v.word.from) v.says },
                  shallow,
                  second.is.opens,
                  second.is.inside,
                  e.one,
                  refl,
                ),
              ),
              z.one,
              tt,
              record {
                word = refl;
                no_number = ap is_number_word h.says ∙ is.apart;
                mark = ap is_primed h.says ∙ is.mark;
                passes = ap (λ (t : List ℕ). name_passes wants.Name h.word.from (cond primed (front_of t) t)) h.says ∙ ap (name_passes wants.Name h.word.from) is.name ∙ passes h.word.from;
              },
            );
          };
          means = choice-means (unmarked primed h.word) u.word v.word first.shape second.shape named u.says v.says first.means second.means first.named second.named;
          named = choice-named (unmarked primed h.word) u.word v.word first.shape second.shape named u.says v.says first.means second.means first.named second.named;
          spot = z.spot;
        }

  -- ---- the trees of a ring

  -- a word that is a number
  pub record IsNumberText (q : Quantity) (text : List ℕ) (units : ℤ) : Type 0 where
    pub word : is_a_word text ≡ true
    pub number : is_number_word text ≡ true
    pub is : (at : ℕ) → number_of q at text ≡ Ok units

  machine-head : (p : Purpose) (i : ℕ) → i < n → IsHeadOf p false i (machine i)
  unfolding is_number_word
  machine-head p i near = record { near = near; word = machine-word i (omega arith); apart = refl; mark = machine-present i (omega arith); name = refl; may = refl }

  next-head : (i : ℕ) → i < n → IsHeadOf (purposes.Table i) true i (next i)
  unfolding is_number_word
  next-head i near =
      let own : nat_le i i ≡ true = grind (arith, nat_tests) in
      record { near = near; word = next-word i (omega arith); apart = refl; mark = next-primed i (omega arith); name = front-next i; may = ap not own }

  chances-read : (level depth i : ℕ) → level + 1 < 300 → i < n → (up down : List ℕ) (x y : ℤ) → IsNumberText quantities.Table up x → IsNumberText quantities.Table down y
      → IsTextOf quantities.Table level (purposes.Table i) depth (chances_text i up down) (chances i x y)
  chances-read level depth i shallow near up down x y a b =
      choice-reads quantities.Table level (purposes.Table i) depth i true (next i) (number_text up) (number_text down) (Leaf x) (Leaf y) shallow (next-head i near)
      (λ at. machine-passes wants.Name at i (omega arith))
      (number-reads quantities.Table (level + 1) (purposes.Table i) (depth - 1) up x shallow a.word a.number a.is)
      (number-reads quantities.Table (level + 1) (purposes.Table i) (depth - 1) down y shallow b.word b.number b.is)

  present-reads : (q : Quantity) (level : ℕ) (p : Purpose) (depth i : ℕ) (up down : List ℕ) (tree-up tree-down : Tree) → level + 1 < 300 → i < n
      → IsTextOf q (level + 1) p (depth - 1) up tree-up → IsTextOf q (level + 1) p (depth - 1) down tree-down
      → IsTextOf q level p depth (choice_text (machine i) up down) (choice i tree-up tree-down)
  present-reads q level p depth i up down tree-up tree-down shallow near =
      choice-reads q level p depth i false (machine i) up down tree-up tree-down shallow (machine-head p i near) (λ at. machine-passes wants.Name at i (omega arith))

  tenth : IsNumberText quantities.Table (codes "0.1") (pos 100000000000)
  unfolding number_of decimal_of sign_at digits_at fraction_at exponent_at without_end_zeros lowest_of scaled_of is_number_word
  tenth = record { word = refl; number = refl; is = λ at. refl }

  nine-tenths : IsNumberText quantities.Table (codes "0.9") (pos 900000000000)
  unfolding number_of decimal_of sign_at digits_at fraction_at exponent_at without_end_zeros lowest_of scaled_of is_number_word
  nine-tenths = record { word = refl; number = refl; is = λ at. refl }

  six-tenths : IsNumberText quantities.Table (codes "0.6") (pos 600000000000)
  unfolding number_of decimal_of sign_at digits_at fraction_at exponent_at without_end_zeros lowest_of scaled_of is_number_word
  six-tenths = record { word = refl; number = refl; is = λ at. refl }

  four-tenths : IsNumberText quantities.Table (codes "0.4") (pos 400000000000)
  unfolding number_of decimal_of sign_at digits_at fraction_at exponent_at without_end_zeros lowest_of scaled_of is_number_word
  four-tenths = record { word = refl; number = refl; is = λ at. refl }

  certain : IsNumberText quantities.Table (codes "1") (pos 1000000000000)
  unfolding number_of decimal_of sign_at digits_at fraction_at exponent_at without_end_zeros lowest_of scaled_of is_number_word
  certain = record { word = refl; number = refl; is = λ at. refl }

  nothing : IsNumberText quantities.Table (codes "0") (pos 0)
  unfolding number_of decimal_of sign_at digits_at fraction_at exponent_at without_end_zeros lowest_of scaled_of is_number_word
  nothing = record { word = refl; number = refl; is = λ at. refl }

  full-reward : IsNumberText quantities.Reward (codes "1") (pos 1000000000000)
  unfolding number_of decimal_of sign_at digits_at fraction_at exponent_at without_end_zeros lowest_of scaled_of is_number_word
  full-reward = record { word = refl; number = refl; is = λ at. refl }

  no-reward : IsNumberText quantities.Reward (codes "0") (pos 0)
  unfolding number_of decimal_of sign_at digits_at fraction_at exponent_at without_end_zeros lowest_of scaled_of is_number_word
  no-reward = record { word = refl; number = refl; is = λ at. refl }

  pub keep-reads : (i : ℕ) → i < n → IsTextOf quantities.Table 0 (purposes.Table i) 300 (keep_text n i) (keep_tree n i)
  keep-reads i near =
      let beside-up = chances_text i (codes "0.9") (codes "0.1") in
      let beside-down = chances_text i (codes "0.6") (codes "0.4") in
      let up = chances i (pos 900000000000) (pos 100000000000) in
      let down = chances i (pos 600000000000) (pos 400000000000) in
      present-reads quantities.Table 0 (purposes.Table i) 300 i (choice_text (machine (left_of n i)) beside-up beside-down) (chances_text i (codes "0.1") (codes "0.9"))
      (choice (left_of n i) up down) (chances i (pos 100000000000) (pos 900000000000)) (omega arith) near
      (present-reads quantities.Table 1 (purposes.Table i) 299 (left_of n i) beside-up beside-down up down (omega arith) (left-below n i near)
      (chances-read 2 298 i (omega arith) near (codes "0.9") (codes "0.1") (pos 900000000000) (pos 100000000000) nine-tenths tenth)
      (chances-read 2 298 i (omega arith) near (codes "0.6") (codes "0.4") (pos 600000000000) (pos 400000000000) six-tenths four-tenths))
      (chances-read 1 299 i (omega arith) near (codes "0.1") (codes "0.9") (pos 100000000000) (pos 900000000000) tenth nine-tenths)

  pub fix-reads : (i : ℕ) → i < n → IsTextOf quantities.Table 0 (purposes.Table i) 300 (fix_text i) (fix_tree i)
  fix-reads i near = chances-read 0 300 i (omega arith) near (codes "1") (codes "0") (pos 1000000000000) (pos 0) certain nothing

  pub working-reads : (i : ℕ) → i < n → IsTextOf quantities.Reward 0 purposes.Reward 300 (choice_text (machine i) (number_text (codes "1")) (number_text (codes "0"))) (working i)
  working-reads i near =
      present-reads quantities.Reward 0 purposes.Reward 300 i (number_text (codes "1")) (number_text (codes "0")) (Leaf (pos 1000000000000)) (Leaf (pos 0)) (omega arith) near
      (number-reads quantities.Reward 1 purposes.Reward 299 (codes "1") (pos 1000000000000) (omega arith) full-reward.word full-reward.number full-reward.is)
      (number-reads quantities.Reward 1 purposes.Reward 299 (codes "0") (pos 0) (omega arith) no-reward.word no-reward.number no-reward.is)

  pub cost-reads : IsTextOf quantities.Reward 0 purposes.Reward 300 (number_text (codes "0.75")) (Leaf (pos 750000000000))
  unfolding number_of decimal_of sign_at digits_at fraction_at exponent_at without_end_zeros lowest_of scaled_of is_number_word
  cost-reads = number-reads quantities.Reward 0 purposes.Reward 300 (codes "0.75") (pos 750000000000) (omega arith) refl refl (λ at. refl)
