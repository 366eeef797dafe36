-- Where no fault comes, there stands what the positions are for: a file without a fault is written.
use Rattle.std.proofs.Common.{◌≡◌, ℕ, suc, ◌+◌, ◌-◌, ◌<◌, ◌≤◌, Bool, true, false, cond, List, [], ◌∷◌, ◌++◌, length, Option, Some, None, Ok, Err, Result, refl, sym, ap, subst, ◌∙◌, arith, lit<, inl, inr, ◌⊎◌}
use Rattle.std.specs.Prelude.{nat_lt, ℤ, codes, bytes_eq, ◌||◌}
use Rattle.std.proofs.lemmas.Bool.Decides.{nat_tests}
use Rattle.spd_lex.specs.declared.token.Token.{Token}
use Rattle.spd_lex.specs.declared.token.Kind.{Kind}
use Rattle.spd_lex.specs.declared.token.Kind.TheVariants.{Open, Close, OpenSum, CloseSum, Word as WordKind}
use Rattle.spd_lex.specs.Tokens.{tokens_of, bad_byte}
use Rattle.spd_syntax.specs.declared.file.Word.{Word}
use Rattle.spd_syntax.specs.declared.file.Counts.{Counts}
use Rattle.spd_syntax.specs.declared.file.Quantity.{Quantity}
use Rattle.spd_syntax.specs.declared.file.Quantity.TheVariants.{Diagram, Table, Reward}
use Rattle.spd_syntax.specs.declared.file.Branch.{Branch}
use Rattle.spd_syntax.specs.declared.file.Shape.{Shape, Number, Use, Choice}
use Rattle.spd_syntax.specs.declared.file.Variable.{Variable}
use Rattle.spd_syntax.specs.declared.file.Item.{Item}
use Rattle.spd_syntax.specs.declared.file.Item.TheVariants as items
use Rattle.spd_syntax.specs.declared.file.Section.{Section}
use Rattle.spd_syntax.specs.declared.file.Section.TheVariants as sections
use Rattle.spd_syntax.specs.declared.file.File.{File}
use Rattle.spd_syntax.specs.declared.sections.SectionWord.{SectionWord}
use Rattle.spd_syntax.specs.declared.sections.SectionWord.TheVariants.{Dd, Action, Reward as RewardWord, Setting, LeftOut as LeftOutSection, Other as NoSection}
use Rattle.spd_syntax.specs.declared.sections.ItemWord.{ItemWord}
use Rattle.spd_syntax.specs.declared.sections.ItemWord.TheVariants.{EndAction, Cost, LeftOut as LeftOutItem, Other as ATable}
use Rattle.spd_syntax.specs.declared.refusal.Refusal.{Refusal}
use Rattle.spd_syntax.specs.declared.refusal.Refusal.TheVariants.{Expected, TooMany, LeftOut}
use Rattle.spd_syntax.specs.declared.refusal.Want.TheVariants as wants
use Rattle.spd_syntax.specs.declared.refusal.What.{What}
use Rattle.spd_syntax.specs.declared.refusal.What.TheVariants as whats
use Rattle.spd_syntax.specs.Numbers.{number_of}
use Rattle.spd_syntax.specs.Words.{text_of, name_passes, value_passes, is_number_word, is_primed, front_of, unmarked}
use Rattle.spd_syntax.specs.Positions.{Position, Step, file_begins, variables_word, first_variable, variable_name, first_value, more_values, more_variables, section, no_section, dd_name, dd_end, action_name, item, part, plus_sign, plus_step, more_parts, tree, inside, after_number, after_primed, branch_value, branch_end, more_branches, number, takes, fault_step, fault_from, end_fault, counted, ◌then◌, none_yet, one_variable, one_test, one_dd, one_action, with_reward, after_setting, section_word, section_step, item_word, item_step, inside_step, has_all}
use Rattle.spd_syntax.specs.Grammar.{One, AWord, IsNumber, IsTree, IsInside, IsBranch, HaveBranches}
use Rattle.spd_syntax.specs.Files.{Each, Key, AName, AValue, HasValues, AVariable, AreVariables, after_variable, IsSum, APart, a_tree, a_sum, AreItems, ASection, AreSections, after_section, IsFile, IsWritten}
use Rattle.spd_syntax.specs.Reading.{fault_after, first_fault}
use Rattle.spd_syntax.proofs.TreeMoves.{is_choice}
use Rattle.spd_syntax.proofs.FileMoves.{with_tests, value_wanted}

-- ---- what stands where

-- behind a section: the sections up to the end of the file, with which each one that must stand was read
record Sections (file : List ℕ) (c : Counts) (a : List Token) : Type 0 where
  list : List Section
  counts : Counts
  are : AreSections file c list counts a []
  all : has_all counts ≡ true

-- behind a variable: the other ones, and the sections
record Variables (file : List ℕ) (c : Counts) (a : List Token) : Type 0 where
  list : List Variable
  counts : Counts
  b : List Token
  d : List Token
  are : AreVariables file c list counts a b
  closes : One Close b d
  behind : Sections file counts d

-- branches, and the end of their tree
record Rest (file : List ℕ) (q : Quantity) (n : ℕ) (branches : List Branch) (a e : List Token) : Type 0 where
  b : List Token
  have : HaveBranches file q n branches a b
  closes : One Close b e

-- What stands for a position, where K says what stands behind it; from some positions on the rest of the file stands.
abbrev Stands : List ℕ → Position → (List Token → Type 0) → List Token → Type 0
Stands file file_begins K a = (f : File) × IsFile file f a
Stands file variables_word K a = (w : Word) × (b : List Token) × Key file (codes "variables") w a b × (vs : Variables file none_yet b) × (0 < length vs.list)
Stands file first_variable K a = (vs : Variables file none_yet a) × (0 < length vs.list)
Stands file (variable_name c) K a = c.tests ≤ 256 → (v : Variable) × (b : List Token) × AVariable file c v a b × Variables file (after_variable c v) b
Stands file (first_value c) K a = c.tests ≤ 256 → (vs : List Word) × (b : List Token) × HasValues file c vs a b × Variables file (with_tests c (length vs - 1)) b
Stands file (more_values n c) K a =
    n ≤ 64 → c.tests ≤ 256 → (vs : List Word) × (b d : List Token) × Each (AValue file) vs a b × One Close b d × (n + length vs ≤ 64) × (c.tests + length vs ≤ 256) × Variables file (with_tests c (length vs)) d
Stands file (more_variables c) K a = c.tests ≤ 256 → Variables file c a
Stands file (section c) K a = Sections file c a
Stands file (no_section at) K a = ⊥
Stands file (dd_name n) K a = (w : Word) × (b : List Token) × AName file w a b × (n < 4096) × K b
Stands file dd_end K a = (w : Word) × (b : List Token) × Key file (codes "enddd") w a b × K b
Stands file (action_name n) K a = (w : Word) × (b : List Token) × AName file w a b × (n < 64) × K b
Stands file (item c) K a = (its : List Item) × (end : Word) × (b : List Token) × AreItems file its end a b × Sections file c b
Stands file part K a = (trees : List Shape) × (b : List Token) × APart file trees a b × K b
Stands file plus_sign K a = (trees : List Shape) × (b : List Token) × IsSum file trees a b × K b
Stands file more_parts K a = (trees : List Shape) × (b d : List Token) × Each (IsTree file Reward 0) trees a b × One CloseSum b d × K d
Stands file (tree q n) K a = (shape : Shape) × (b : List Token) × IsTree file q n shape a b × K b
Stands file (inside q n) K a = (shape : Shape) × (b : List Token) × IsInside file q n shape a b × K b
Stands file after_number K a = (b : List Token) × One Close a b × K b
Stands file (after_primed q n) K a = (branches : List Branch) × (b : List Token) × Rest file q n branches a b × (0 < length branches) × K b
Stands file (branch_value q n) K a = (branch : Branch) × (branches : List Branch) × (b d : List Token) × IsBranch file q n branch a b × Rest file q n branches b d × K d
Stands file branch_end K a = (b : List Token) × One Close a b × K b
Stands file (more_branches q n) K a = (branches : List Branch) × (b : List Token) × Rest file q n branches a b × K b
Stands file (number q) K a = (w : Word) × (units : ℤ) × (b : List Token) × AWord w a b × IsNumber file q w units × K b

-- the same for positions one after another
abbrev AllStand : List ℕ → List Position → List Token → Type 0
AllStand file [] a = Unit {0}
AllStand file (p ∷ ps) a = Stands file p (AllStand file ps) a

-- ---- what a step says that goes on

-- these positions are next
abbrev go_on : List Position → Step
go_on qs = Ok qs

went : (file : List ℕ) (qs rs ps : List Position) (a : List Token) → go_on qs ≡ Ok rs → AllStand file (rs ++ ps) a → AllStand file (qs ++ ps) a
went file qs rs ps a e h = let same : qs ≡ rs = cc in subst (λ (l : List Position). AllStand file (l ++ ps) a) (sym same) h

judged : {A : Type 0} (j : Result A Refusal) (next : Step) (rs : List Position) → (j then next) ≡ Ok rs → (x : A) × (j ≡ Ok x) × (next ≡ Ok rs)
judged (Ok x) next rs h = (x, refl, h)
judged (Err e) next rs h = absurd (cc)

chosen : {X : Type 0} (b : Bool) (x y z : X) → cond b x y ≡ z → ((b ≡ true) × (x ≡ z)) ⊎ ((b ≡ false) × (y ≡ z))
chosen true x y z h = inl (refl, h)
chosen false x y z h = inr (refl, h)

within : (what : What) (most n at : ℕ) (next : Step) (rs : List Position) → counted what most n at next ≡ Ok rs → (n < most) × (next ≡ Ok rs)
within what most n at next rs h = by_test (nat_lt n most) refl h
  where
    by_test : (b : Bool) → nat_lt n most ≡ b → cond b next (Err (TooMany at what)) ≡ Ok rs → (n < most) × (next ≡ Ok rs)
    by_test true t h = (grind (arith, nat_tests), h)
    by_test false t h = absurd (cc)

-- ---- trees

tree_open : (file : List ℕ) (q : Quantity) (n at : ℕ) (rs ps : List Position) (b a : List Token) → One Open b a → counted whats.Nesting 300 n at (Ok (inside q n ∷ [])) ≡ Ok rs → AllStand file (rs ++ ps) a → Stands file (tree q n) (AllStand file ps) b
tree_open file q n at rs ps b a one took h =
    let says = within whats.Nesting 300 n at (Ok (inside q n ∷ [])) rs took in
    let r = went file (inside q n ∷ []) rs ps a says.1 h in
    (r.0, r.1, record { shallow = says.0; b = a; opens = one; inside = r.2 }, r.3)

value_word : (file : List ℕ) (q : Quantity) (n : ℕ) (rs ps : List Position) (w : Word) (b a : List Token) → AWord w b a → takes (branch_value q n) WordKind w.from (text_of file w) ≡ Ok rs → AllStand file (rs ++ ps) a
    → Stands file (branch_value q n) (AllStand file ps) b
value_word file q n rs ps w b a word took h =
    let qs = tree q (n + 1) ∷ branch_end ∷ more_branches q n ∷ [] in
    let says = judged (value_passes wants.Value w.from (text_of file w)) (Ok qs) rs took in
    let r = went file qs rs ps a says.2 h in
    let ends = r.3 in
    let more = ends.2 in
    (record { value = w; tree = r.0 }, more.0, ends.0, more.1, record { b = a; c = r.1; word = word; value = record { is = says.1 }; tree = r.2; close = ends.1 }, more.2, more.3)

-- a branch, with its `(`, and those behind it
branches_open : (file : List ℕ) (q : Quantity) (n : ℕ) (branch : Branch) (branches : List Branch) (b a d e : List Token) → One Open b a → IsBranch file q n branch a d → Rest file q n branches d e → Rest file q n (branch ∷ branches) b e
branches_open file q n branch branches b a d e one is rest = record { b = rest.b; have = (a, d, one, is, rest.have); closes = rest.closes }

choice : (file : List ℕ) (q : Quantity) (n : ℕ) (primed : Bool) (w : Word) (branches : List Branch) (b a e : List Token) → AWord w b a → 0 < length branches → Rest file q n branches a e → is_number_word (text_of file w) ≡ false
    → is_primed (text_of file w) ≡ primed → name_passes wants.Name w.from (cond primed (front_of (text_of file w)) (text_of file w)) ≡ Ok tt → IsInside file q n (Choice (unmarked primed w) primed branches) b e
choice file q n primed w branches b a e word some rest apart mark passes =
    is_choice file q n primed w (unmarked primed w) branches b a rest.b e word rest.have rest.closes some (record { word = refl; no_number = apart; mark = mark; passes = passes })

-- a name without a mark is that of a decision diagram, or of a choice
plain_name : (file : List ℕ) (q : Quantity) (n : ℕ) (K : List Token → Type 0) (w : Word) (b a : List Token) → AWord w b a → is_number_word (text_of file w) ≡ false → is_primed (text_of file w) ≡ false
    → name_passes wants.Name w.from (text_of file w) ≡ Ok tt → Stands file (more_branches q n) K a → Stands file (inside q n) K b
plain_name file q n K w b a word apart mark passes h = by_branches h.0 h.2
  where
    by_branches : (branches : List Branch) → Rest file q n branches a h.1 → Stands file (inside q n) K b
    by_branches [] rest =
        (Use w, h.1, (a, word, record { token = rest.closes.token; kind = rest.closes.kind; first = rest.have ∙ rest.closes.first }, record { word = refl; no_number = apart; mark = mark; passes = passes }), h.3)
    by_branches (x ∷ xs) rest = (Choice (unmarked false w) false (x ∷ xs), h.1, choice file q n false w (x ∷ xs) b a h.1 word (omega arith) rest apart mark passes, h.3)

inside_word : (file : List ℕ) (q : Quantity) (n : ℕ) (rs ps : List Position) (w : Word) (b a : List Token) → AWord w b a → inside_step q n w.from (text_of file w) ≡ Ok rs → AllStand file (rs ++ ps) a → Stands file (inside q n) (AllStand file ps) b
inside_word file q n rs ps w b a word took h = elim (chosen (is_number_word (text_of file w)) _ _ (Ok rs) took) [
  | inl c ↦ (let says = judged (number_of q w.from (text_of file w)) (Ok (after_number ∷ [])) rs c.1 in
      let r = went file (after_number ∷ []) rs ps a says.2 h in
      (Number w says.0, r.0, (a, word, r.1, c.0, record { is = says.1 }), r.2))
  | inr c ↦ elim (chosen (is_primed (text_of file w)) _ _ (Ok rs) c.1) [
    | inl d ↦ (let says = judged (name_passes wants.Name w.from (front_of (text_of file w))) (Ok (after_primed q n ∷ [])) rs d.1 in
        let r = went file (after_primed q n ∷ []) rs ps a says.2 h in
        (Choice (unmarked true w) true r.0, r.1, choice file q n true w r.0 b a r.1 word r.3 r.2 c.0 d.0 says.1, r.4))
    | inr d ↦ (let says = judged (name_passes wants.Name w.from (text_of file w)) (Ok (more_branches q n ∷ [])) rs d.1 in
        plain_name file q n (AllStand file ps) w b a word c.0 d.0 says.1 (went file (more_branches q n ∷ []) rs ps a says.2 h))
  ]
]

-- ---- parts

part_open : (file : List ℕ) (K : List Token → Type 0) (b a : List Token) → One Open b a → Stands file (inside Reward 0) K a → Stands file part K b
part_open file K b a one h = (h.0 ∷ [], h.1, a_tree h.0 refl (record { shallow = lit< tt; b = a; opens = one; inside = h.2 }), h.3)

parts_open : (file : List ℕ) (K : List Token → Type 0) (b a : List Token) → One Open b a → Stands file (inside Reward 0) (Stands file more_parts K) a → Stands file more_parts K b
parts_open file K b a one h =
    let rest = h.3 in
    (h.0 ∷ rest.0, rest.1, rest.2, (h.1, record { shallow = lit< tt; b = a; opens = one; inside = h.2 }, rest.3), rest.4, rest.5)

plus_word : (file : List ℕ) (rs ps : List Position) (w : Word) (b a : List Token) → AWord w b a → plus_step w.from (text_of file w) ≡ Ok rs → AllStand file (rs ++ ps) a → Stands file plus_sign (AllStand file ps) b
unfolding plus_step
plus_word file rs ps w b a word took h = elim (chosen (bytes_eq (text_of file w) (codes "+")) _ _ (Ok rs) took) [
  | inl c ↦ (let r = went file (tree Reward 0 ∷ more_parts ∷ []) rs ps a c.1 h in
      let rest = r.3 in
      (r.0 ∷ rest.0, rest.2, record { plus = w; b = a; key = record { word = word; says = record { is = c.0 } }; are = record { b = rest.1; each = (r.1, r.2, rest.3); some = omega arith; close = rest.4 } }, rest.5))
  | inr c ↦ elim (chosen (bytes_eq (text_of file w) (codes "*") || (bytes_eq (text_of file w) (codes "-") || bytes_eq (text_of file w) (codes "max"))) _ _ (Ok rs) c.1) [
    | inl d ↦ absurd (cc)
    | inr d ↦ absurd (cc)
  ]
]

-- ---- sections

sections_more : (file : List ℕ) (c : Counts) (s : Section) (b a : List Token) → ASection file c s b a → Sections file (after_section c s) a → Sections file c b
sections_more file c s b a is rest = record { list = s ∷ rest.list; counts = rest.counts; are = (a, is, rest.are); all = rest.all }

section_word_stands : (file : List ℕ) (c : Counts) (rs ps : List Position) (w : Word) (b a : List Token) (k : SectionWord) → AWord w b a → section_word (text_of file w) ≡ k → section_step c w.from k ≡ Ok rs → AllStand file (rs ++ ps) a
    → Sections file c b
section_word_stands file c rs ps w b a Dd word is took h =
    let r = went file (dd_name c.dds ∷ tree Diagram 0 ∷ dd_end ∷ section (one_dd c) ∷ []) rs ps a took h in
    let shape = r.4 in
    let end = shape.3 in
    sections_more file c (sections.Dd r.0 shape.0) b end.1 (record { b = a; word = w; first = word; body = (r.1, shape.1, end.0, is, r.2, r.3, shape.2, end.2) }) end.3
section_word_stands file c rs ps w b a Action word is took h =
    let r = went file (action_name c.actions ∷ item (one_action c) ∷ []) rs ps a took h in
    let its = r.4 in
    sections_more file c (sections.Action r.0 its.0 its.1) b its.2 (record { b = a; word = w; first = word; body = (r.1, is, r.2, r.3, its.3) }) its.4
section_word_stands file c rs ps w b a RewardWord word is took h =
    let r = went file (part ∷ section (with_reward c) ∷ []) rs ps a took h in
    sections_more file c (sections.Reward w r.0) b r.1 (record { b = a; word = w; first = word; body = (is, refl, r.2) }) r.3
section_word_stands file c rs ps w b a (Setting q) word is took h =
    let r = went file (number q ∷ section (after_setting q c) ∷ []) rs ps a took h in
    sections_more file c (sections.Setting w q r.1) b r.2 (record { b = a; word = w; first = word; body = (r.0, is, refl, r.3, r.4) }) r.5
section_word_stands file c rs ps w b a LeftOutSection word is took h = absurd (cc)
section_word_stands file c rs ps w b a NoSection word is took h = absurd (cc)

item_word_stands : (file : List ℕ) (c : Counts) (K : List Token → Type 0) (rs ps : List Position) (w : Word) (b a : List Token) (k : ItemWord) → AWord w b a → item_word (text_of file w) ≡ k → item_step c w.from (text_of file w) k ≡ Ok rs
    → AllStand file (rs ++ ps) a → Stands file (item c) K b
item_word_stands file c K rs ps w b a EndAction word is took h =
    ([], w, a, record { b = b; items = refl; word = word; ends = is }, went file (section c ∷ []) rs ps a took h)
item_word_stands file c K rs ps w b a Cost word is took h =
    let r = went file (part ∷ item c ∷ []) rs ps a took h in
    let rest = r.3 in
    let are = rest.3 in
    (items.Cost w r.0 ∷ rest.0, rest.1, rest.2, record { b = are.b; items = (r.1, (a, word, is, r.2), are.items); word = are.word; ends = are.ends }, rest.4)
item_word_stands file c K rs ps w b a LeftOutItem word is took h = absurd (cc)
item_word_stands file c K rs ps w b a ATable word is took h =
    let says = judged (name_passes wants.Name w.from (text_of file w)) (Ok (tree Table 0 ∷ item c ∷ [])) rs took in
    let r = went file (tree Table 0 ∷ item c ∷ []) rs ps a says.2 h in
    let rest = r.3 in
    let are = rest.3 in (
      items.Table w r.0 ∷ rest.0,
      rest.1,
      rest.2,
      record { b = are.b; items = (r.1, (a, record { word = word; name = record { is = says.1 } }, is, r.2), are.items); word = are.word; ends = are.ends },
      rest.4,
    )

-- a name that is declared
declared_word : (file : List ℕ) (what : What) (most n : ℕ) (next : Step) (rs : List Position) (w : Word) (b a : List Token) → AWord w b a → (name_passes wants.Name w.from (text_of file w) then counted what most n w.from next) ≡ Ok rs
    → AName file w b a × (n < most) × (next ≡ Ok rs)
declared_word file what most n next rs w b a word took =
    let says = judged (name_passes wants.Name w.from (text_of file w)) (counted what most n w.from next) rs took in
    let room = within what most n w.from next rs says.2 in
    (record { word = word; name = record { is = says.1 } }, room.0, room.1)

-- this word of the grammar, or none
key_word : (file : List ℕ) (text : List ℕ) (w : Word) (qs rs : List Position) (f : Refusal) (b a : List Token) → AWord w b a → cond (bytes_eq (text_of file w) text) (Ok qs) (Err f) ≡ Ok rs → Key file text w b a × (go_on qs ≡ Ok rs)
key_word file text w qs rs f b a word took = elim (chosen (bytes_eq (text_of file w) text) (Ok qs) (Err f) (Ok rs) took) [
  | inl c ↦ (record { word = word; says = record { is = c.0 } }, c.1)
  | inr c ↦ absurd (cc)
]

no_word : (at : ℕ) (f : Refusal) (t : Bool) (rs : List Position) → cond t (Err (LeftOut at)) (Err f) ≡ Ok rs → ⊥
no_word at f true rs took = absurd (cc)
no_word at f false rs took = absurd (cc)

-- ---- variables

same_tests : (file : List ℕ) (c : Counts) (m : ℕ) (a : List Token) → c.tests ≡ m → Variables file c a → Variables file (record c { tests = m }) a
same_tests file c m a e h = subst (λ (k : ℕ). Variables file (record c { tests = k }) a) e h

first_value_word : (file : List ℕ) (c : Counts) (K : List Token → Type 0) (rs ps : List Position) (w : Word) (b a : List Token) → AWord w b a → takes (first_value c) WordKind w.from (text_of file w) ≡ Ok rs → AllStand file (rs ++ ps) a
    → Stands file (first_value c) K b
first_value_word file c K rs ps w b a word took h room =
    let says = judged (value_passes wants.Value w.from (text_of file w)) (Ok (more_values 1 c ∷ [])) rs took in
    let r = went file (more_values 1 c ∷ []) rs ps a says.2 h (lit< tt) room in
    let count : length r.0 ≡ suc (length r.0) - 1 = omega arith in (
      w ∷ r.0,
      r.2,
      record { b = r.1; each = (a, record { word = word; value = record { is = says.1 } }, r.3); close = r.4; some = omega arith; few = omega (arith, r.5); few_tests = omega (arith, r.6) },
      subst (λ (m : ℕ). Variables file (with_tests c m) r.2) count r.7,
    )

more_values_close : (file : List ℕ) (n : ℕ) (c : Counts) (K : List Token → Type 0) (b a : List Token) → One Close b a → Stands file (more_variables c) K a → Stands file (more_values n c) K b
more_values_close file n c K b a one h few tests = ([], b, a, refl, one, omega arith, omega arith, same_tests file c (c.tests + 0) a (omega arith) (h tests))

more_values_word : (file : List ℕ) (n : ℕ) (c : Counts) (K : List Token → Type 0) (rs ps : List Position) (w : Word) (b a : List Token) → AWord w b a → takes (more_values n c) WordKind w.from (text_of file w) ≡ Ok rs → AllStand file (rs ++ ps) a
    → Stands file (more_values n c) K b
more_values_word file n c K rs ps w b a word took h few tests =
    let qs = more_values (n + 1) (one_test c) ∷ [] in
    let says = judged (value_passes wants.Close w.from (text_of file w)) (counted whats.Values 64 n w.from (counted whats.Tests 256 c.tests w.from (Ok qs))) rs took in
    let values = within whats.Values 64 n w.from (counted whats.Tests 256 c.tests w.from (Ok qs)) rs says.2 in
    let some = within whats.Tests 256 c.tests w.from (Ok qs) rs values.1 in
    let r = went file qs rs ps a some.1 h (omega (arith, values.0)) (omega (arith, some.0)) in
    let count : c.tests + 1 + length r.0 ≡ c.tests + suc (length r.0) = omega arith in (
      w ∷ r.0,
      r.1,
      r.2,
      (a, record { word = word; value = record { is = value_wanted wants.Close wants.Value w.from (text_of file w) says.1 } }, r.3),
      r.4,
      omega (arith, r.5),
      omega (arith, r.6),
      subst (λ (m : ℕ). Variables file (record c { tests = m }) r.2) count r.7,
    )

variable_word : (file : List ℕ) (c : Counts) (K : List Token → Type 0) (rs ps : List Position) (w : Word) (b a : List Token) → AWord w b a → takes (variable_name c) WordKind w.from (text_of file w) ≡ Ok rs → AllStand file (rs ++ ps) a
    → Stands file (variable_name c) K b
variable_word file c K rs ps w b a word took h room =
    let says = declared_word file whats.Variables 100 c.vars (Ok (first_value (one_variable c) ∷ [])) rs w b a word took in
    let r = went file (first_value (one_variable c) ∷ []) rs ps a says.2 h room in
    (record { name = w; values = r.0 }, r.1, record { b = a; name = says.0; few = says.1; values = r.2 }, r.3)

variables_open : (file : List ℕ) (c : Counts) (K : List Token → Type 0) (b a : List Token) → c.tests ≤ 256 → One Open b a → Stands file (variable_name c) K a → (vs : Variables file c b) × (0 < length vs.list)
variables_open file c K b a room one h =
    let r = h room in
    let rest = r.3 in
    (record { list = r.0 ∷ rest.list; counts = rest.counts; b = rest.b; d = rest.d; are = (a, r.1, one, r.2, rest.are); closes = rest.closes; behind = rest.behind }, omega arith)

-- ---- all together

-- the word of a token
abbrev word_of : Token → Word
word_of t = record { from = t.from; to = t.to }

is_word : (t : Token) (a : List Token) → t.kind ≡ WordKind → AWord (word_of t) (t ∷ a) a
is_word t a kind = record { first = ap (λ (k : Kind). record { kind = k; from = t.from; to = t.to } ∷ a) kind }

is_one : (k : Kind) (t : Token) (a : List Token) → t.kind ≡ k → One k (t ∷ a) a
is_one k t a kind = record { token = t; kind = kind; first = refl }

step : (file : List ℕ) (p : Position) (rs ps : List Position) (t : Token) (a : List Token) (k : Kind) → t.kind ≡ k → takes p k t.from (text_of file (word_of t)) ≡ Ok rs → AllStand file (rs ++ ps) a → Stands file p (AllStand file ps) (t ∷ a)
step file file_begins rs ps t a Open kind took h =
    let r = went file (variables_word ∷ []) rs ps a took h in
    let vs = r.3 in (
      record { variables = vs.list; sections = vs.behind.list },
      record { a = a; b = r.1; d = vs.b; e = vs.d; word = r.0; counts = vs.counts; opens = is_one Open t a kind; key = r.2; some = r.4; variables = vs.are; closes = vs.closes; all = vs.behind.counts; sections = vs.behind.are; has_all = vs.behind.all },
    )
step file variables_word rs ps t a WordKind kind took h =
    let says = key_word file (codes "variables") (word_of t) (first_variable ∷ []) rs (Expected t.from wants.Variables) (t ∷ a) a (is_word t a kind) took in
    let r = went file (first_variable ∷ []) rs ps a says.1 h in
    (word_of t, a, says.0, r.0, r.1)
step file first_variable rs ps t a Open kind took h = variables_open file none_yet (AllStand file ps) (t ∷ a) a (omega arith) (is_one Open t a kind) (went file (variable_name none_yet ∷ []) rs ps a took h)
step file (variable_name c) rs ps t a WordKind kind took h = variable_word file c (AllStand file ps) rs ps (word_of t) (t ∷ a) a (is_word t a kind) took h
step file (first_value c) rs ps t a WordKind kind took h = first_value_word file c (AllStand file ps) rs ps (word_of t) (t ∷ a) a (is_word t a kind) took h
step file (more_values n c) rs ps t a WordKind kind took h = more_values_word file n c (AllStand file ps) rs ps (word_of t) (t ∷ a) a (is_word t a kind) took h
step file (more_values n c) rs ps t a Close kind took h = more_values_close file n c (AllStand file ps) (t ∷ a) a (is_one Close t a kind) (went file (more_variables c ∷ []) rs ps a took h)
step file (more_variables c) rs ps t a Open kind took h = λ room. (variables_open file c (AllStand file ps) (t ∷ a) a room (is_one Open t a kind) (went file (variable_name c ∷ []) rs ps a took h)).0
step file (more_variables c) rs ps t a Close kind took h =
    let rest = went file (section c ∷ []) rs ps a took h in
    λ room. record { list = []; counts = c; b = t ∷ a; d = a; are = (refl, refl); closes = is_one Close t a kind; behind = rest }
step file (section c) rs ps t a WordKind kind took h = section_word_stands file c rs ps (word_of t) (t ∷ a) a (section_word (text_of file (word_of t))) (is_word t a kind) refl took h
step file (section c) rs ps t a Open kind took h = absurd (went file (no_section t.from ∷ []) rs ps a took h)
step file (no_section at) rs ps t a WordKind kind took h = absurd (no_word t.from (Expected at wants.Section) (bytes_eq (text_of file (word_of t)) (codes "observations")) rs took)
step file (dd_name n) rs ps t a WordKind kind took h =
    let says = declared_word file whats.Dds 4096 n (Ok []) rs (word_of t) (t ∷ a) a (is_word t a kind) took in
    (word_of t, a, says.0, says.1, went file [] rs ps a says.2 h)
step file dd_end rs ps t a WordKind kind took h =
    let says = key_word file (codes "enddd") (word_of t) [] rs (Expected t.from wants.EndDd) (t ∷ a) a (is_word t a kind) took in
    (word_of t, a, says.0, went file [] rs ps a says.1 h)
step file (action_name n) rs ps t a WordKind kind took h =
    let says = declared_word file whats.Actions 64 n (Ok []) rs (word_of t) (t ∷ a) a (is_word t a kind) took in
    (word_of t, a, says.0, says.1, went file [] rs ps a says.2 h)
step file (item c) rs ps t a WordKind kind took h = item_word_stands file c (AllStand file ps) rs ps (word_of t) (t ∷ a) a (item_word (text_of file (word_of t))) (is_word t a kind) refl took h
step file part rs ps t a Open kind took h = part_open file (AllStand file ps) (t ∷ a) a (is_one Open t a kind) (went file (inside Reward 0 ∷ []) rs ps a took h)
step file part rs ps t a OpenSum kind took h =
    let r = went file (plus_sign ∷ []) rs ps a took h in
    (r.0, r.1, a_sum a (is_one OpenSum t a kind) r.2, r.3)
step file plus_sign rs ps t a WordKind kind took h = plus_word file rs ps (word_of t) (t ∷ a) a (is_word t a kind) took h
step file more_parts rs ps t a Open kind took h = parts_open file (AllStand file ps) (t ∷ a) a (is_one Open t a kind) (went file (inside Reward 0 ∷ more_parts ∷ []) rs ps a took h)
step file more_parts rs ps t a CloseSum kind took h = ([], t ∷ a, a, refl, is_one CloseSum t a kind, went file [] rs ps a took h)
step file (tree q n) rs ps t a Open kind took h = tree_open file q n t.from rs ps (t ∷ a) a (is_one Open t a kind) took h
step file (inside q n) rs ps t a WordKind kind took h = inside_word file q n rs ps (word_of t) (t ∷ a) a (is_word t a kind) took h
step file after_number rs ps t a Close kind took h = (a, is_one Close t a kind, went file [] rs ps a took h)
step file (after_primed q n) rs ps t a Open kind took h =
    let r = went file (branch_value q n ∷ []) rs ps a took h in
    (r.0 ∷ r.1, r.3, branches_open file q n r.0 r.1 (t ∷ a) a r.2 r.3 (is_one Open t a kind) r.4 r.5, omega arith, r.6)
step file (branch_value q n) rs ps t a WordKind kind took h = value_word file q n rs ps (word_of t) (t ∷ a) a (is_word t a kind) took h
step file branch_end rs ps t a Close kind took h = (a, is_one Close t a kind, went file [] rs ps a took h)
step file (more_branches q n) rs ps t a Open kind took h =
    let r = went file (branch_value q n ∷ []) rs ps a took h in
    (r.0 ∷ r.1, r.3, branches_open file q n r.0 r.1 (t ∷ a) a r.2 r.3 (is_one Open t a kind) r.4 r.5, r.6)
step file (more_branches q n) rs ps t a Close kind took h = ([], a, record { b = t ∷ a; have = refl; closes = is_one Close t a kind }, went file [] rs ps a took h)
step file (number q) rs ps t a WordKind kind took h =
    let says = judged (number_of q t.from (text_of file (word_of t))) (Ok []) rs took in
    (word_of t, says.0, a, is_word t a kind, record { is = says.1 }, went file [] rs ps a says.2 h)
step file p rs ps t a k kind took h = absurd (cc)

-- the end of a file
at_end : (file : List ℕ) (p : Position) (ps : List Position) → end_fault (length file) (p ∷ ps) ≡ None → Stands file p (AllStand file ps) []
at_end file (section c) ps h = by_all (has_all c) refl h
  where
    by_all : (b : Bool) → has_all c ≡ b → cond b None (Some (Expected (length file) wants.Section)) ≡ None → Sections file c []
    by_all true all h = record { list = []; counts = c; are = (refl, refl); all = all }
    by_all false all h = absurd (cc)
at_end file p ps h = absurd (cc)

none_step : (next : List Position → Option Refusal) (s : Step) → fault_step next s ≡ None → (rs : List Position) × (s ≡ Ok rs) × (next rs ≡ None)
none_step next (Ok rs) h = (rs, refl, h)
none_step next (Err e) h = absurd (cc)

-- where the tokens have no fault at these positions, what the positions are for stands there
accepted : (file : List ℕ) (ts : List Token) (ps : List Position) → fault_from file ps ts ≡ None → AllStand file ps ts
unfolding fault_from
accepted file ts [] h = tt
accepted file [] (p ∷ ps) h = at_end file p ps h
accepted file (t ∷ ts) (p ∷ ps) h =
    let s = none_step (λ rs. fault_from file (rs ++ ps) ts) (takes p t.kind t.from (text_of file (word_of t))) h in
    step file p s.0 ps t ts t.kind refl s.1 (accepted file ts (s.0 ++ ps) s.2)

-- a file without a fault is written
pub written_accepted : (file : List ℕ) → first_fault file ≡ None → (f : File) × IsWritten file f
written_accepted file h = by_byte (bad_byte file) refl h
  where
    by_byte : (bad : Option ℕ) → bad_byte file ≡ bad → fault_after file bad ≡ None → (f : File) × IsWritten file f
    by_byte (Some at) is h = absurd (cc)
    by_byte None is h = let r = accepted file (tokens_of file) (file_begins ∷ []) h in (r.0, record { clean = is; is = r.1 })
