-- A file is written in at most one way.
use Rattle.std.proofs.Common.{◌≡◌, ℕ, ◌+◌, Bool, true, false, List, [], ◌∷◌, Ok, Result, refl, sym, ap, subst, ◌∙◌}
use Rattle.std.specs.Prelude.{ℤ}
use Rattle.std.proofs.lemmas.Bool.{false≢true}
use Rattle.spd_lex.specs.declared.token.Token.{Token}
use Rattle.spd_lex.specs.declared.token.Kind.{Kind}
use Rattle.spd_lex.specs.declared.token.Kind.TheVariants.{Open, Close, OpenSum, CloseSum, Word as WordKind}
use Rattle.spd_lex.specs.Tokens.{tokens_of}
use Rattle.spd_syntax.specs.declared.file.Word.{Word}
use Rattle.spd_syntax.specs.declared.file.Counts.{Counts}
use Rattle.spd_syntax.specs.declared.file.Quantity.{Quantity}
use Rattle.spd_syntax.specs.declared.file.Quantity.TheVariants.{Diagram, Table, Reward}
use Rattle.spd_syntax.specs.declared.file.Shape.{Shape, Number, Use, Choice, Choice', Row_of-Branch, end_of-Branch, more_of-Branch, items-the_row-Branch, items_shown-the_row-Branch-0}
use Rattle.spd_syntax.specs.declared.file.Shape.TheBlock.{shown-the_row-Branch-0}
use Rattle.spd_syntax.specs.declared.file.Branch.{Branch}
use Rattle.spd_syntax.specs.declared.file.Shape.TheViews.{roll-Shape, out-Shape, roll-out-Shape}
use Rattle.spd_syntax.specs.declared.file.Variable.{Variable}
use Rattle.spd_syntax.specs.declared.file.Item.{Item}
use Rattle.spd_syntax.specs.declared.file.Item.TheVariants as items
use Rattle.spd_syntax.specs.declared.file.Section.{Section}
use Rattle.spd_syntax.specs.declared.file.Section.TheVariants as sections
use Rattle.spd_syntax.specs.declared.file.File.{File}
use Rattle.spd_syntax.specs.declared.sections.SectionWord.{SectionWord}
use Rattle.spd_syntax.specs.declared.sections.SectionWord.TheVariants.{Dd, Action, Reward as RewardWord, Setting}
use Rattle.spd_syntax.specs.declared.sections.ItemWord.TheVariants.{EndAction, Cost, Other as ATable}
use Rattle.spd_syntax.specs.declared.refusal.Refusal.{Refusal}
use Rattle.spd_syntax.specs.Numbers.{number_of}
use Rattle.spd_syntax.specs.Words.{text_of, is_number_word, is_primed, unmarked}
use Rattle.spd_syntax.specs.Positions.{none_yet, section_word, item_word}
use Rattle.spd_syntax.specs.Grammar.{One, AWord, IsNumber, IsTree, IsInside, AreBranches}
use Rattle.spd_syntax.specs.Files.{Each, AValue, HasValues, AVariable, AreVariables, after_variable, AreTrees, APart, a_tree, a_sum, AnItem, AreItems, IsBody, ASection, AreSections, after_section, IsFile, IsWritten}
use Rattle.spd_syntax.proofs.TreeMoves.{first_opens}

-- ---- single tokens

one_same : (k : Kind) (a b c d : List Token) → a ≡ b → One k a c → One k b d → c ≡ d
one_same k a b c d same l r = let e : l.token ∷ c ≡ r.token ∷ d = sym l.first ∙ same ∙ r.first in cc

kinds_same : (k m : Kind) (a b c d : List Token) → a ≡ b → One k a c → One m b d → k ≡ m
kinds_same k m a b c d same l r =
    let e : l.token ∷ c ≡ r.token ∷ d = sym l.first ∙ same ∙ r.first in
    let tokens : l.token ≡ r.token = cc in
    sym l.kind ∙ ap (λ (t : Token). t.kind) tokens ∙ r.kind

word_one : (w : Word) (a b : List Token) → AWord w a b → One WordKind a b
word_one w a b word = record { token = record { kind = WordKind; from = w.from; to = w.to }; kind = refl; first = word.first }

words_same : (w v : Word) (a b c d : List Token) → a ≡ b → AWord w a c → AWord v b d → (w ≡ v) × (c ≡ d)
words_same w v a b c d same l r =
    let e : record { kind = WordKind; from = w.from; to = w.to } ∷ c ≡ record { kind = WordKind; from = v.from; to = v.to } ∷ d = sym l.first ∙ same ∙ r.first in
    (ap word_of (heads e), one_same WordKind a b c d same (word_one w a c l) (word_one v b d r))
  where
    word_of : Token → Word
    word_of t = record { from = t.from; to = t.to }

    heads : {t u : Token} → t ∷ c ≡ u ∷ d → t ≡ u
    heads e = cc

brackets_apart : (a b c d : List Token) → a ≡ b → One Open a c → One Close b d → ⊥
brackets_apart a b c d same l r = let e : Open ≡ Close = kinds_same Open Close a b c d same l r in absurd (cc)

sums_apart : (a b c d : List Token) → a ≡ b → One Open a c → One CloseSum b d → ⊥
sums_apart a b c d same l r = let e : Open ≡ CloseSum = kinds_same Open CloseSum a b c d same l r in absurd (cc)

parts_apart : (a b c d : List Token) → a ≡ b → One Open a c → One OpenSum b d → ⊥
parts_apart a b c d same l r = let e : Open ≡ OpenSum = kinds_same Open OpenSum a b c d same l r in absurd (cc)

word_apart : (w : Word) (a b c d : List Token) → a ≡ b → AWord w a c → One Close b d → ⊥
word_apart w a b c d same l r = let e : WordKind ≡ Close = kinds_same WordKind Close a b c d same (word_one w a c l) r in absurd (cc)

-- ---- numbers

units_same : (file : List ℕ) (q p : Quantity) (w v : Word) (x y : ℤ) → q ≡ p → w ≡ v → IsNumber file q w x → IsNumber file p v y → x ≡ y
units_same file q p w v x y quantities words l r = oks (sym l.is ∙ ap (λ (o : Quantity). number_of o w.from (text_of file w)) quantities ∙ ap (λ (u : Word). number_of p u.from (text_of file u)) words ∙ r.is)
  where
    good : ℤ → Result ℤ Refusal
    good z = Ok z

    oks : good x ≡ Ok y → x ≡ y
    oks e = cc

clash : (file : List ℕ) (w v : Word) → w ≡ v → is_number_word (text_of file w) ≡ true → is_number_word (text_of file v) ≡ false → ⊥
clash file w v words l r = false≢true (sym r ∙ ap (λ (u : Word). is_number_word (text_of file u)) (sym words) ∙ l)

-- ---- trees

-- a choice is made of the list of its branches
rolled : (w : Word) (primed : Bool) (shape : _) (row : Row_of-Branch (_)) → Choice w primed (items-the_row-Branch _ row) ≡ Choice' w primed shape row
unfolding roll-Shape denote.Hole.Carrier.roll out-Shape denote.Hole.Carrier.out shown-the_row-Branch-0 denote.Hole.Carrier.shown denote.Hole.Carrier.hidden
rolled w primed shape row = ap (λ (bs : List Branch). Choice w primed bs) (sym (items_shown-the_row-Branch-0 shape row)) ∙ roll-out-Shape (Choice' w primed shape row)

mutual
  inside_same : (file : List ℕ) (q : Quantity) (n : ℕ) (s v : Shape) (a b c d : List Token) → a ≡ b → IsInside file q n s a c → IsInside file q n v b d → (s ≡ v) × (c ≡ d)
  inside_same file q n (Number w x) (Number v y) a b c d same l r =
      let words = words_same w v a b l.0 r.0 same l.1 r.1 in
      (ap (λ (u : Word). Number u x) words.0 ∙ ap (λ (z : ℤ). Number v z) (units_same file q q w v x y refl words.0 l.4 r.4), one_same Close l.0 r.0 c d words.1 l.2 r.2)
  inside_same file q n (Number w x) (Use v) a b c d same l r = absurd (clash file w v (words_same w v a b l.0 r.0 same l.1 r.1).0 l.3 r.3.no_number)
  inside_same file q n (Number w x) (Choice' v primed m row) a b c d same l r = absurd (clash file w r.2 (words_same w r.2 a b l.0 r.0 same l.1 r.3).0 l.3 r.7.no_number)
  inside_same file q n (Use w) (Number v y) a b c d same l r = absurd (clash file v w (sym (words_same w v a b l.0 r.0 same l.1 r.1).0) r.3 l.3.no_number)
  inside_same file q n (Use w) (Use v) a b c d same l r =
      let words = words_same w v a b l.0 r.0 same l.1 r.1 in
      (ap (λ (u : Word). Use u) words.0, one_same Close l.0 r.0 c d words.1 l.2 r.2)
  inside_same file q n (Use w) (Choice' v primed m row) a b c d same l r =
      let words = words_same w r.2 a b l.0 r.0 same l.1 r.3 in
      let first = first_opens file q n row r.0 r.1 r.6 r.4 in
      absurd (brackets_apart r.0 l.0 first.0 c (sym words.1) first.1 l.2)
  inside_same file q n (Choice' w primed k row) (Number v y) a b c d same l r = absurd (clash file v l.2 (sym (words_same l.2 v a b l.0 r.0 same l.3 r.1).0) r.3 l.7.no_number)
  inside_same file q n (Choice' w primed k row) (Use v) a b c d same l r =
      let words = words_same l.2 v a b l.0 r.0 same l.3 r.1 in
      let first = first_opens file q n row l.0 l.1 l.6 l.4 in
      absurd (brackets_apart l.0 r.0 first.0 d words.1 first.1 r.2)
  inside_same file q n (Choice' w primed k row) (Choice' v marked m other) a b c d same l r =
      let words = words_same l.2 r.2 a b l.0 r.0 same l.3 r.3 in
      let marks : primed ≡ marked = sym l.7.mark ∙ ap (λ (u : Word). is_primed (text_of file u)) words.0 ∙ r.7.mark in
      let names : w ≡ v = l.7.word ∙ ap (λ (p : Bool). unmarked p l.2) marks ∙ ap (λ (u : Word). unmarked marked u) words.0 ∙ sym r.7.word in
      let rows = rows_same file q n row other l.0 r.0 l.1 r.1 c d words.1 l.4 l.5 r.4 r.5 in (
        sym (rolled w primed k row) ∙ ap (λ (u : Word). Choice u primed (items-the_row-Branch _ row)) names ∙ ap (λ (p : Bool). Choice v p (items-the_row-Branch _ row)) marks ∙ ap (λ (bs : List Branch). Choice v marked bs) rows.0
            ∙ rolled v marked m other,
        rows.1,
      )

  rows_same : (file : List ℕ) (q : Quantity) (n : ℕ) {k m : _} (row : Row_of-Branch k) (other : Row_of-Branch m) (a b c d e f : List Token) → a ≡ b → AreBranches file q n row a c → One Close c e → AreBranches file q n other b d → One Close d f
      → (items-the_row-Branch k row ≡ items-the_row-Branch m other) × (e ≡ f)
  rows_same file q n end_of-Branch end_of-Branch a b c d e f same l lc r rc = (refl, one_same Close c d e f (sym l ∙ same ∙ r) lc rc)
  rows_same file q n end_of-Branch (more_of-Branch v kid other) a b c d e f same l lc r rc = absurd (brackets_apart b c r.0 e (sym same ∙ l) r.5 lc)
  rows_same file q n (more_of-Branch w kid row) end_of-Branch a b c d e f same l lc r rc = absurd (brackets_apart a d l.0 f (same ∙ r) l.5 rc)
  rows_same file q n (more_of-Branch w kid row) (more_of-Branch v child other) a b c d e f same l lc r rc =
      let opens = one_same Open a b l.0 r.0 same l.5 r.5 in
      let words = words_same w v l.0 r.0 l.1 r.1 opens l.6 r.6 in
      let kids = inside_same file q (n + 1) kid child l.2 r.2 l.3 r.3 (one_same Open l.1 r.1 l.2 r.2 words.1 l.9 r.9) l.10 r.10 in
      let rest = rows_same file q n row other l.4 r.4 c d e f (one_same Close l.3 r.3 l.4 r.4 kids.1 l.11 r.11) l.12 lc r.12 rc in (
        ap (λ (u : Word). record { value = u; tree = kid } ∷ items-the_row-Branch _ row) words.0 ∙ ap (λ (s : Shape). record { value = v; tree = s } ∷ items-the_row-Branch _ row) kids.0
            ∙ ap (λ (bs : List Branch). record { value = v; tree = child } ∷ bs) rest.0,
        rest.1,
      )

tree_same : (file : List ℕ) (q : Quantity) (n : ℕ) (s v : Shape) (a b c d : List Token) → a ≡ b → IsTree file q n s a c → IsTree file q n v b d → (s ≡ v) × (c ≡ d)
tree_same file q n s v a b c d same l r = inside_same file q n s v l.b r.b c d (one_same Open a b l.b r.b same l.opens r.opens) l.inside r.inside

-- ---- one after another, up to what can't be one more

each_same : {X : Type 0} (Is : X → List Token → List Token → Type 0) (Ends : List Token → Type 0) → ((x y : X) (a b c d : List Token) → a ≡ b → Is x a c → Is y b d → (x ≡ y) × (c ≡ d))
    → ((x : X) (a b : List Token) → Ends a → Is x a b → ⊥) → (xs ys : List X) (a b c d : List Token) → a ≡ b → Each Is xs a c → Ends c → Each Is ys b d → Ends d → (xs ≡ ys) × (c ≡ d)
each_same Is Ends one apart [] [] a b c d same l lc r rd = (refl, sym l ∙ same ∙ r)
each_same Is Ends one apart [] (y ∷ ys) a b c d same l lc r rd = absurd (apart y b r.0 (subst Ends (sym l ∙ same) lc) r.1)
each_same Is Ends one apart (x ∷ xs) [] a b c d same l lc r rd = absurd (apart x a l.0 (subst Ends (sym (same ∙ r)) rd) l.1)
each_same {X} Is Ends one apart (x ∷ xs) (y ∷ ys) a b c d same l lc r rd =
    let first = one x y a b l.0 r.0 same l.1 r.1 in
    let rest = each_same Is Ends one apart xs ys l.0 r.0 c d first.1 l.2 lc r.2 rd in
    (ap (λ (z : X). z ∷ xs) first.0 ∙ ap (λ (zs : List X). y ∷ zs) rest.0, rest.1)

-- ---- variables

values_same : (file : List ℕ) (c k : Counts) (vs ws : List Word) (a b d e : List Token) → a ≡ b → HasValues file c vs a d → HasValues file k ws b e → (vs ≡ ws) × (d ≡ e)
values_same file c k vs ws a b d e same l r =
    let each = each_same (AValue file) (λ x. (y : List Token) × One Close x y) (λ w v x y z u is lw rw. words_same w v x y z u is lw.word rw.word) (λ w x y ends is. word_apart w x x y ends.0 refl is.word ends.1)
    vs ws a b l.b r.b same l.each (d, l.close) r.each (e, r.close) in
    (each.0, one_same Close l.b r.b d e each.1 l.close r.close)

variable_same : (file : List ℕ) (c k : Counts) (v w : Variable) (a b d e : List Token) → a ≡ b → AVariable file c v a d → AVariable file k w b e → (v ≡ w) × (d ≡ e)
variable_same file c k v w a b d e same l r =
    let names = words_same v.name w.name a b l.b r.b same l.name.word r.name.word in
    let values = values_same file _ _ v.values w.values l.b r.b d e names.1 l.values r.values in
    (ap (λ (u : Word). record { name = u; values = v.values }) names.0 ∙ ap (λ (us : List Word). record { name = w.name; values = us }) values.0, values.1)

variables_same : (file : List ℕ) (c k m o : Counts) (vs ws : List Variable) (a b d e f g : List Token) → a ≡ b → AreVariables file c vs m a d → One Close d f → AreVariables file k ws o b e → One Close e g → (vs ≡ ws) × (f ≡ g)
variables_same file c k m o [] [] a b d e f g same l lc r rc = (refl, one_same Close d e f g (sym l.1 ∙ same ∙ r.1) lc rc)
variables_same file c k m o [] (w ∷ ws) a b d e f g same l lc r rc = absurd (brackets_apart b d r.0 f (sym same ∙ l.1) r.2 lc)
variables_same file c k m o (v ∷ vs) [] a b d e f g same l lc r rc = absurd (brackets_apart a e l.0 g (same ∙ r.1) l.2 rc)
variables_same file c k m o (v ∷ vs) (w ∷ ws) a b d e f g same l lc r rc =
    let first = variable_same file c k v w l.0 r.0 l.1 r.1 (one_same Open a b l.0 r.0 same l.2 r.2) l.3 r.3 in
    let rest = variables_same file (after_variable c v) (after_variable k w) m o vs ws l.1 r.1 d e f g first.1 l.4 lc r.4 rc in
    (ap (λ (z : Variable). z ∷ vs) first.0 ∙ ap (λ (zs : List Variable). w ∷ zs) rest.0, rest.1)

-- ---- parts

trees_same : (file : List ℕ) (ss vs : List Shape) (a b c d : List Token) → a ≡ b → AreTrees file ss a c → AreTrees file vs b d → (ss ≡ vs) × (c ≡ d)
trees_same file ss vs a b c d same l r =
    let each = each_same (IsTree file Reward 0) (λ x. (y : List Token) × One CloseSum x y) (tree_same file Reward 0) (λ s x y ends is. sums_apart x x is.b ends.0 refl is.opens ends.1)
    ss vs a b l.b r.b same l.each (c, l.close) r.each (d, r.close) in
    (each.0, one_same CloseSum l.b r.b c d each.1 l.close r.close)

part_same : (file : List ℕ) (ss vs : List Shape) (a b c d : List Token) → a ≡ b → APart file ss a c → APart file vs b d → (ss ≡ vs) × (c ≡ d)
part_same file ss vs a b c d same (a_tree s is l) (a_tree v are r) =
    let trees = tree_same file Reward 0 s v a b c d same l r in
    (is ∙ ap (λ (x : Shape). x ∷ []) trees.0 ∙ sym are, trees.1)
part_same file ss vs a b c d same (a_tree s is l) (a_sum m one r) = absurd (parts_apart a b l.b m same l.opens one)
part_same file ss vs a b c d same (a_sum m one l) (a_tree v are r) = absurd (parts_apart b a r.b m (sym same) r.opens one)
part_same file ss vs a b c d same (a_sum m one l) (a_sum o other r) =
    let words = words_same l.plus r.plus m o l.b r.b (one_same OpenSum a b m o same one other) l.key.word r.key.word in
    trees_same file ss vs l.b r.b c d words.1 l.are r.are

-- ---- items

item_same : (file : List ℕ) (i j : Item) (a b c d : List Token) → a ≡ b → AnItem file i a c → AnItem file j b d → (i ≡ j) × (c ≡ d)
item_same file (items.Table w s) (items.Table v t) a b c d same l r =
    let words = words_same w v a b l.0 r.0 same l.1.word r.1.word in
    let trees = tree_same file Table 0 s t l.0 r.0 c d words.1 l.3 r.3 in
    (ap (λ (u : Word). items.Table u s) words.0 ∙ ap (λ (x : Shape). items.Table v x) trees.0, trees.1)
item_same file (items.Table w s) (items.Cost v t) a b c d same l r =
    let words = words_same w v a b l.0 r.0 same l.1.word r.1 in
    let e : ATable ≡ Cost = sym l.2 ∙ ap (λ (u : Word). item_word (text_of file u)) words.0 ∙ r.2 in
    absurd (cc)
item_same file (items.Cost w s) (items.Table v t) a b c d same l r =
    let words = words_same w v a b l.0 r.0 same l.1 r.1.word in
    let e : Cost ≡ ATable = sym l.2 ∙ ap (λ (u : Word). item_word (text_of file u)) words.0 ∙ r.2 in
    absurd (cc)
item_same file (items.Cost w s) (items.Cost v t) a b c d same l r =
    let words = words_same w v a b l.0 r.0 same l.1 r.1 in
    let parts = part_same file s t l.0 r.0 c d words.1 l.3 r.3 in
    (ap (λ (u : Word). items.Cost u s) words.0 ∙ ap (λ (x : List Shape). items.Cost v x) parts.0, parts.1)

-- the word `endaction` stands here
record EndsAction (file : List ℕ) (a : List Token) : Type 0 where
  end : Word
  b : List Token
  word : AWord end a b
  ends : item_word (text_of file end) ≡ EndAction

item_apart : (file : List ℕ) (i : Item) (a b : List Token) → EndsAction file a → AnItem file i a b → ⊥
item_apart file (items.Table w s) a b ends is =
    let words = words_same w ends.end a a is.0 ends.b refl is.1.word ends.word in
    let e : ATable ≡ EndAction = sym is.2 ∙ ap (λ (u : Word). item_word (text_of file u)) words.0 ∙ ends.ends in
    absurd (cc)
item_apart file (items.Cost w s) a b ends is =
    let words = words_same w ends.end a a is.0 ends.b refl is.1 ends.word in
    let e : Cost ≡ EndAction = sym is.2 ∙ ap (λ (u : Word). item_word (text_of file u)) words.0 ∙ ends.ends in
    absurd (cc)

items_same : (file : List ℕ) (is js : List Item) (w v : Word) (a b c d : List Token) → a ≡ b → AreItems file is w a c → AreItems file js v b d → (is ≡ js) × (w ≡ v) × (c ≡ d)
items_same file is js w v a b c d same l r =
    let each = each_same (AnItem file) (EndsAction file) (item_same file) (item_apart file) is js a b l.b r.b same
    l.items (record { end = w; b = c; word = l.word; ends = l.ends }) r.items (record { end = v; b = d; word = r.word; ends = r.ends }) in
    let words = words_same w v l.b r.b c d each.1 l.word r.word in
    (each.0, words.0, words.1)

-- ---- sections

-- the word that begins a section
abbrev begun_by : Section → SectionWord
begun_by (sections.Dd name tree) = Dd
begun_by (sections.Action name its end) = Action
begun_by (sections.Reward word parts) = RewardWord
begun_by (sections.Setting word q units) = Setting q

body_kind : (file : List ℕ) (c : Counts) (k : SectionWord) (w : Word) (s : Section) (a b : List Token) → IsBody file c k w s a b → k ≡ begun_by s
body_kind file c k w (sections.Dd name tree) a b is = is.3
body_kind file c k w (sections.Action name its end) a b is = is.1
body_kind file c k w (sections.Reward word parts) a b is = is.0
body_kind file c k w (sections.Setting word q units) a b is = is.1

bodies_same : (file : List ℕ) (c k : Counts) (x y : SectionWord) (w v : Word) (s t : Section) (a b d e : List Token) → begun_by s ≡ begun_by t → w ≡ v → a ≡ b → IsBody file c x w s a d → IsBody file k y v t b e → (s ≡ t) × (d ≡ e)
bodies_same file c k x y w v (sections.Dd name tree) (sections.Dd title graph) a b d e kinds words same l r =
    let names = words_same name title a b l.0 r.0 same l.4.word r.4.word in
    let trees = tree_same file Diagram 0 tree graph l.0 r.0 l.1 r.1 names.1 l.6 r.6 in
    let ends = words_same l.2 r.2 l.1 r.1 d e trees.1 l.7.word r.7.word in
    (ap (λ (u : Word). sections.Dd u tree) names.0 ∙ ap (λ (z : Shape). sections.Dd title z) trees.0, ends.1)
bodies_same file c k x y w v (sections.Action name its end) (sections.Action title others last) a b d e kinds words same l r =
    let names = words_same name title a b l.0 r.0 same l.2.word r.2.word in
    let all = items_same file its others end last l.0 r.0 d e names.1 l.4 r.4 in
    (ap (λ (u : Word). sections.Action u its end) names.0 ∙ ap (λ (z : List Item). sections.Action title z end) all.0 ∙ ap (λ (u : Word). sections.Action title others u) all.1, all.2)
bodies_same file c k x y w v (sections.Reward word parts) (sections.Reward key others) a b d e kinds words same l r =
    let all = part_same file parts others a b d e same l.2 r.2 in
    (ap (λ (u : Word). sections.Reward u parts) (l.1 ∙ words ∙ sym r.1) ∙ ap (λ (z : List Shape). sections.Reward key z) all.0, all.1)
bodies_same file c k x y w v (sections.Setting word q units) (sections.Setting key p others) a b d e kinds words same l r =
    let quantities : q ≡ p = cc in
    let numbers = words_same l.0 r.0 a b d e same l.3 r.3 in (
      ap (λ (u : Word). sections.Setting u q units) (l.2 ∙ words ∙ sym r.2) ∙ ap (λ (o : Quantity). sections.Setting key o units) quantities
          ∙ ap (λ (z : ℤ). sections.Setting key p z) (units_same file q p l.0 r.0 units others quantities numbers.0 l.4 r.4),
      numbers.1,
    )
bodies_same file c k x y w v s t a b d e kinds words same l r = absurd (cc)

section_same : (file : List ℕ) (c k : Counts) (s t : Section) (a b d e : List Token) → a ≡ b → ASection file c s a d → ASection file k t b e → (s ≡ t) × (d ≡ e)
section_same file c k s t a b d e same l r =
    let words = words_same l.word r.word a b l.b r.b same l.first r.first in
    let kinds = sym (body_kind file c (section_word (text_of file l.word)) l.word s l.b d l.body) ∙ ap (λ (u : Word). section_word (text_of file u)) words.0 ∙ body_kind file k (section_word (text_of file r.word)) r.word t r.b e r.body in
    bodies_same file c k (section_word (text_of file l.word)) (section_word (text_of file r.word)) l.word r.word s t l.b r.b d e kinds words.0 words.1 l.body r.body

sections_same : (file : List ℕ) (c k m o : Counts) (ss ts : List Section) (a b : List Token) → a ≡ b → AreSections file c ss m a [] → AreSections file k ts o b [] → ss ≡ ts
sections_same file c k m o [] [] a b same l r = refl
sections_same file c k m o [] (t ∷ ts) a b same l r = let e : [] ≡ _ ∷ r.1.b = sym l.1 ∙ same ∙ r.1.first.first in absurd (cc)
sections_same file c k m o (s ∷ ss) [] a b same l r = let e : [] ≡ _ ∷ l.1.b = sym (same ∙ r.1) ∙ l.1.first.first in absurd (cc)
sections_same file c k m o (s ∷ ss) (t ∷ ts) a b same l r =
    let first = section_same file c k s t a b l.0 r.0 same l.1 r.1 in
    ap (λ (z : Section). z ∷ ss) first.0 ∙ ap (λ (zs : List Section). t ∷ zs) (sections_same file (after_section c s) (after_section k t) m o ss ts l.0 r.0 first.1 l.2 r.2)

-- ---- whole files

file_same : (file : List ℕ) (f g : File) (ts : List Token) → IsFile file f ts → IsFile file g ts → f ≡ g
file_same file f g ts l r =
    let keys = words_same l.word r.word l.a r.a l.b r.b (one_same Open ts ts l.a r.a refl l.opens r.opens) l.key.word r.key.word in
    let variables = variables_same file none_yet none_yet l.counts r.counts f.variables g.variables l.b r.b l.d r.d l.e r.e keys.1 l.variables l.closes r.variables r.closes in
    ap (λ (vs : List Variable). record { variables = vs; sections = f.sections }) variables.0
    ∙ ap (λ (ss : List Section). record { variables = g.variables; sections = ss }) (sections_same file l.counts r.counts l.all r.all f.sections g.sections l.e r.e variables.1 l.sections r.sections)

-- a file is written in at most one way
pub written_once : (file : List ℕ) (f g : File) → IsWritten file f → IsWritten file g → f ≡ g
written_once file f g l r = file_same file f g (tokens_of file) l.is r.is
