-- How many tokens the parts of a file take: each at least those that it is written in.
use Rattle.std.proofs.Common.{◌≡◌, ℕ, ◌+◌, ◌*◌, ◌≤◌, Bool, true, false, List, [], ◌∷◌, length, Option, Some, None, ap, arith}
use Rattle.std.specs.Prelude.{if◌then◌else◌, ◌==◌, ◌&&◌}
use Rattle.spd_lex.specs.declared.token.Token.{Token}
use Rattle.spd_lex.specs.declared.token.Kind.{Kind}
use Rattle.spd_lex.specs.Tokens.{blanked, in_comment, is_blank, bracket_of, is_word, extended, with_word, with_bracket, with_byte, tokens_from, tokens_of}
use Rattle.spd_syntax.specs.declared.file.Word.{Word}
use Rattle.spd_syntax.specs.declared.file.Quantity.{Quantity}
use Rattle.spd_syntax.specs.declared.file.Shape.{Shape, Number, Use, Choice', Row_of-Branch, end_of-Branch, more_of-Branch}
use Rattle.spd_syntax.specs.declared.file.Variable.{Variable}
use Rattle.spd_syntax.specs.declared.file.Counts.{Counts}
use Rattle.spd_syntax.specs.declared.file.Item.{Item}
use Rattle.spd_syntax.specs.declared.file.Item.TheVariants as items
use Rattle.spd_syntax.specs.declared.file.Section.{Section}
use Rattle.spd_syntax.specs.declared.file.Section.TheVariants as sections
use Rattle.spd_syntax.specs.declared.sections.SectionWord.{SectionWord}
use Rattle.spd_syntax.specs.Grammar.{One, AWord, IsInside, AreBranches, IsTree}
use Rattle.spd_syntax.specs.Files.{Each, AValue, AreVariables, after_variable, APart, a_tree, a_sum, AnItem, IsBody, ASection}
use Rattle.spd_syntax.proofs.CallerLemmas.{one_longer, word_longer}

-- ---- a file has at most as many tokens as bytes

with_word-length : (from to : ℕ) (ts : List Token) → length (with_word from to ts) ≤ length ts + 1
unfolding with_word
with_word-length from to [] = omega arith
with_word-length from to (t ∷ ts) = go (is_word t.kind && t.from == to)
  where
    go : (b : Bool) → length (extended b from to t ts) ≤ length (t ∷ ts) + 1
    go true = omega arith
    go false = omega arith

with_byte-length : (at byte : ℕ) (ts : List Token) → length (with_byte at byte ts) ≤ length ts + 1
with_byte-length at byte ts = go (is_blank byte)
  where
    bracket : (o : Option Kind) → length (with_bracket o at ts) ≤ length ts + 1
    bracket None = with_word-length at (at + 1) ts
    bracket (Some k) = omega arith

    go : (b : Bool) → length (if b then ts else with_bracket (bracket_of byte) at ts) ≤ length ts + 1
    go true = omega arith
    go false = bracket (bracket_of byte)

tokens-length : (at : ℕ) (comment : Bool) (bytes : List ℕ) → length (tokens_from at (blanked comment bytes)) ≤ length bytes
unfolding tokens_from blanked
tokens-length at comment [] = omega arith
tokens-length at comment (byte ∷ bytes) =
    let inside = in_comment comment byte bytes in
    let behind = tokens_from (at + 1) (blanked inside bytes) in
    let rest : length behind ≤ length bytes = tokens-length (at + 1) inside bytes in
    omega (arith, with_byte-length at (if inside then 32 else byte) behind)

pub tokens_of-length : (file : List ℕ) → length (tokens_of file) ≤ length file
tokens_of-length file = tokens-length 0 false file

-- ---- trees

mutual
  inside-length : (file : List ℕ) (q : Quantity) (n : ℕ) (shape : Shape) (a e : List Token) → IsInside file q n shape a e → length e + 2 ≤ length a
  inside-length file q n (Number w units) a e h = omega (arith, word_longer w a h.0 h.1, one_longer _ h.0 e h.2)
  inside-length file q n (Use w) a e h = omega (arith, word_longer w a h.0 h.1, one_longer _ h.0 e h.2)
  inside-length file q n (Choice' w primed shape row) a e h = omega (arith, word_longer h.2 a h.0 h.3, branches-length file q n row h.0 h.1 h.4, one_longer _ h.1 e h.5)

  branches-length : (file : List ℕ) (q : Quantity) (n : ℕ) {k : _} (row : Row_of-Branch k) (a e : List Token) → AreBranches file q n row a e → length e ≤ length a
  branches-length file q n end_of-Branch a e h = let g : length a ≡ length e = ap length h in omega arith
  branches-length file q n (more_of-Branch w kid row) a e h =
      omega (arith, one_longer _ a h.0 h.5, word_longer w h.0 h.1 h.6, one_longer _ h.1 h.2 h.9, inside-length file q (n + 1) kid h.2 h.3 h.10, one_longer _ h.3 h.4 h.11, branches-length file q n row h.4 e h.12)

tree-length : (file : List ℕ) (q : Quantity) (n : ℕ) (shape : Shape) (a e : List Token) → IsTree file q n shape a e → length e + 3 ≤ length a
tree-length file q n shape a e h = omega (arith, one_longer _ a h.b h.opens, inside-length file q n shape h.b e h.inside)

trees-length : (file : List ℕ) (q : Quantity) (n : ℕ) (trees : List Shape) (a e : List Token) → Each (IsTree file q n) trees a e → length e + 3 * length trees ≤ length a
trees-length file q n [] a e h = let g : length a ≡ length e = ap length h in omega arith
trees-length file q n (t ∷ ts) a e h = omega (arith, tree-length file q n t a h.0 h.1, trees-length file q n ts h.0 e h.2)

-- a reward or a cost of so many trees takes twice as many tokens or more
pub part-length : (file : List ℕ) (trees : List Shape) (a e : List Token) → APart file trees a e → length e + 2 * length trees ≤ length a
part-length file trees a e (a_tree tree is h) = let g : length trees ≡ 1 = ap length is in omega (arith, tree-length file _ 0 tree a e h)
part-length file trees a e (a_sum b o h) =
    omega (arith, one_longer _ a b o, word_longer h.plus b h.b h.key.word, trees-length file _ 0 trees h.b h.are.b h.are.each, one_longer _ h.are.b e h.are.close)

-- ---- variables

values-length : (file : List ℕ) (values : List Word) (a e : List Token) → Each (AValue file) values a e → length e ≤ length a
values-length file [] a e h = let g : length a ≡ length e = ap length h in omega arith
values-length file (v ∷ vs) a e h = omega (arith, word_longer v a h.0 h.1.word, values-length file vs h.0 e h.2)

pub variables-length : (file : List ℕ) (c k : Counts) (vs : List Variable) (a e : List Token) → AreVariables file c vs k a e → length e ≤ length a
variables-length file c k [] a e h = let g : length a ≡ length e = ap length h.1 in omega arith
variables-length file c k (v ∷ vs) a e h =
    omega (arith, one_longer _ a h.0 h.2, word_longer v.name h.0 h.3.b h.3.name.word, values-length file v.values h.3.b h.3.values.b h.3.values.each, one_longer _ h.3.values.b h.1 h.3.values.close, variables-length file (after_variable c v) k vs h.1 e h.4)

-- ---- sections

pub item-length : (file : List ℕ) (item : Item) (a e : List Token) → AnItem file item a e → length e ≤ length a
item-length file (items.Table w tree) a e h = omega (arith, word_longer w a h.0 h.1.word, tree-length file _ 0 tree h.0 e h.3)
item-length file (items.Cost w parts) a e h = omega (arith, word_longer w a h.0 h.1, part-length file parts h.0 e h.3)

items-length : (file : List ℕ) (its : List Item) (a e : List Token) → Each (AnItem file) its a e → length e ≤ length a
items-length file [] a e h = let g : length a ≡ length e = ap length h in omega arith
items-length file (i ∷ its) a e h = omega (arith, item-length file i a h.0 h.1, items-length file its h.0 e h.2)

body-length : (file : List ℕ) (c : Counts) (kind : SectionWord) (w : Word) (s : Section) (a e : List Token) → IsBody file c kind w s a e → length e ≤ length a
body-length file c kind w (sections.Dd name tree) a e h = omega (arith, word_longer name a h.0 h.4.word, tree-length file _ 0 tree h.0 h.1 h.6, word_longer h.2 h.1 e h.7.word)
body-length file c kind w (sections.Action name its end) a e h =
    omega (arith, word_longer name a h.0 h.2.word, items-length file its h.0 h.4.b h.4.items, word_longer end h.4.b e h.4.word)
body-length file c kind w (sections.Reward key parts) a e h = omega (arith, part-length file parts a e h.2)
body-length file c kind w (sections.Setting key q units) a e h = omega (arith, word_longer h.0 a e h.3)

pub section-length : (file : List ℕ) (c : Counts) (s : Section) (a e : List Token) → ASection file c s a e → length e ≤ length a
section-length file c s a e h = omega (arith, word_longer h.word a h.b h.first, body-length file c _ h.word s h.b e h.body)

pub first-shorter : (w : Word) (a b : List Token) → AWord w a b → length b ≤ length a
first-shorter w a b h = omega (arith, word_longer w a b h)

pub bracket-shorter : (k : Kind) (a b : List Token) → One k a b → length b ≤ length a
bracket-shorter k a b h = omega (arith, one_longer k a b h)
