-- The grammar by cases, for whole files.
use Rattle.std.specs.Prelude.{ℕ, ◌+◌, ◌-◌, ◌<◌, ◌≤◌, ◌≡◌, true, List, [], ◌∷◌, length, codes, None}
use Rattle.spd_lex.specs.declared.token.Token.{Token}
use Rattle.spd_lex.specs.declared.token.Kind.TheVariants.{Open, Close, OpenSum, CloseSum}
use Rattle.spd_lex.specs.Tokens.{tokens_of, bad_byte}
use Rattle.spd_syntax.specs.declared.file.Word.{Word}
use Rattle.spd_syntax.specs.declared.file.Quantity.TheVariants.{Diagram, Table, Reward}
use Rattle.spd_syntax.specs.declared.file.Shape.{Shape}
use Rattle.spd_syntax.specs.declared.file.Variable.{Variable}
use Rattle.spd_syntax.specs.declared.file.Item.{Item}
use Rattle.spd_syntax.specs.declared.file.Item.TheVariants as items
use Rattle.spd_syntax.specs.declared.file.Section.{Section}
use Rattle.spd_syntax.specs.declared.file.Section.TheVariants as sections
use Rattle.spd_syntax.specs.declared.file.File.{File}
use Rattle.spd_syntax.specs.declared.sections.SectionWord.{SectionWord}
use Rattle.spd_syntax.specs.declared.sections.SectionWord.TheVariants.{Dd, Action, Reward as RewardWord, Setting}
use Rattle.spd_syntax.specs.declared.sections.ItemWord.TheVariants.{EndAction, Cost, Other as ATable}
use Rattle.spd_syntax.specs.declared.file.Counts.{Counts}
use Rattle.spd_syntax.specs.Words.{text_of}
use Rattle.spd_syntax.specs.Grammar.{One, AWord, Says, IsName, IsValue, IsNumber, IsTree}
use Rattle.spd_syntax.specs.Positions.{none_yet, one_variable, one_dd, one_action, with_reward, after_setting, section_word, item_word, has_all}

-- one after another: between a and e stand these things, in order
abbrev pub Each : {X : Type 0} → (X → List Token → List Token → Type 0) → List X → List Token → List Token → Type 0
Each Is [] a e = a ≡ e
Each Is (x ∷ xs) a e = (b : List Token) × Is x a b × Each Is xs b e

-- this word of the grammar
pub record Key (file : List ℕ) (text : List ℕ) (w : Word) (a e : List Token) : Type 0 where
  pub word : AWord w a e
  pub says : Says file w text

pub record AName (file : List ℕ) (w : Word) (a e : List Token) : Type 0 where
  pub word : AWord w a e
  pub name : IsName file w

pub record AValue (file : List ℕ) (w : Word) (a e : List Token) : Type 0 where
  pub word : AWord w a e
  pub value : IsValue file w

-- ---- variables, where c counts what stands before

-- what stands before the next one
abbrev pub after_variable : Counts → Variable → Counts
after_variable c v = record (one_variable c) { tests = c.tests + (length v.values - 1) }

-- VALUE { VALUE } ")", at most 64 values, and 256 tests of all variables
pub record HasValues (file : List ℕ) (c : Counts) (values : List Word) (a e : List Token) : Type 0 where
  pub b : List Token
  pub each : Each (AValue file) values a b
  pub close : One Close b e
  pub some : 0 < length values
  pub few : length values ≤ 64
  pub few_tests : c.tests + (length values - 1) ≤ 256

-- behind the `(` of a variable: NAME VALUE { VALUE } ")", at most 100 variables
pub record AVariable (file : List ℕ) (c : Counts) (v : Variable) (a e : List Token) : Type 0 where
  pub b : List Token
  pub name : AName file v.name a b
  pub few : c.vars < 100
  pub values : HasValues file (one_variable c) v.values b e

-- "(" variable { "(" variable }, and the counts behind them
abbrev pub AreVariables : List ℕ → Counts → List Variable → Counts → List Token → List Token → Type 0
AreVariables file c [] k a e = (c ≡ k) × (a ≡ e)
AreVariables file c (v ∷ vs) k a e = (b d : List Token) × One Open a b × AVariable file c v b d × AreVariables file (after_variable c v) vs k d e

-- ---- sections

-- tree { tree } "]"
pub record AreTrees (file : List ℕ) (trees : List Shape) (a e : List Token) : Type 0 where
  pub b : List Token
  pub each : Each (IsTree file Reward 0) trees a b
  pub some : 0 < length trees
  pub close : One CloseSum b e

-- behind the `[` of a sum: "+" tree { tree } "]"
pub record IsSum (file : List ℕ) (trees : List Shape) (a e : List Token) : Type 0 where
  pub plus : Word
  pub b : List Token
  pub key : Key file (codes "+") plus a b
  pub are : AreTrees file trees b e

-- part = tree | "[" "+" tree { tree } "]"
pub data APart (file : List ℕ) (trees : List Shape) (a e : List Token) : Type 0 where
  a_tree : (tree : Shape) → trees ≡ tree ∷ [] → IsTree file Reward 0 tree a e → APart file trees a e
  a_sum : (b : List Token) → One OpenSum a b → IsSum file trees b e → APart file trees a e

-- item = NAME tree | "cost" part
abbrev pub AnItem : List ℕ → Item → List Token → List Token → Type 0
AnItem file (items.Table name tree) a e = (b : List Token) × AName file name a b × (item_word (text_of file name) ≡ ATable) × IsTree file Table 0 tree b e
AnItem file (items.Cost word parts) a e = (b : List Token) × AWord word a b × (item_word (text_of file word) ≡ Cost) × APart file parts b e

-- the items of an action, and `endaction`
pub record AreItems (file : List ℕ) (its : List Item) (end : Word) (a e : List Token) : Type 0 where
  pub b : List Token
  pub items : Each (AnItem file) its a b
  pub word : AWord end b e
  pub ends : item_word (text_of file end) ≡ EndAction

-- Behind the first word of a section. Of decision diagrams there are at most 4,096, and of actions at most 64.
-- section = "dd" NAME tree "enddd" | "action" NAME { item } "endaction" | "reward" part | "discount" NUMBER | "tolerance" NUMBER | "horizon" NUMBER
abbrev pub IsBody : List ℕ → Counts → SectionWord → Word → Section → List Token → List Token → Type 0
IsBody file c kind word (sections.Dd name tree) a e =
    (b d : List Token) × (enddd : Word) × (kind ≡ Dd) × AName file name a b × (c.dds < 4096) × IsTree file Diagram 0 tree b d × Key file (codes "enddd") enddd d e
IsBody file c kind word (sections.Action name its end) a e =
    (b : List Token) × (kind ≡ Action) × AName file name a b × (c.actions < 64) × AreItems file its end b e
IsBody file c kind word (sections.Reward key parts) a e = (kind ≡ RewardWord) × (key ≡ word) × APart file parts a e
IsBody file c kind word (sections.Setting key q units) a e = (number : Word) × (kind ≡ Setting q) × (key ≡ word) × AWord number a e × IsNumber file q number units

-- a section, where c counts what stands before
pub record ASection (file : List ℕ) (c : Counts) (s : Section) (a e : List Token) : Type 0 where
  pub b : List Token
  pub word : Word
  pub first : AWord word a b
  pub body : IsBody file c (section_word (text_of file word)) word s b e

abbrev pub after_section : Counts → Section → Counts
after_section c (sections.Dd name tree) = one_dd c
after_section c (sections.Action name its end) = one_action c
after_section c (sections.Reward word parts) = with_reward c
after_section c (sections.Setting word q units) = after_setting q c

-- sections, and the counts behind them
abbrev pub AreSections : List ℕ → Counts → List Section → Counts → List Token → List Token → Type 0
AreSections file c [] k a e = (c ≡ k) × (a ≡ e)
AreSections file c (s ∷ ss) k a e = (b : List Token) × ASection file c s a b × AreSections file (after_section c s) ss k b e

-- "(" "variables" variable { variable } ")" { section }, at least one action, a reward, a discount, and a tolerance or a horizon
pub record IsFile (file : List ℕ) (f : File) (ts : List Token) : Type 0 where
  pub a : List Token
  pub b : List Token
  pub d : List Token
  pub e : List Token
  pub word : Word
  pub counts : Counts
  pub opens : One Open ts a
  pub key : Key file (codes "variables") word a b
  pub some : 0 < length f.variables
  pub variables : AreVariables file none_yet f.variables counts b d
  pub closes : One Close d e
  pub all : Counts
  pub sections : AreSections file counts f.sections all e []
  pub has_all : has_all all ≡ true

-- These bytes are written as this file says.
pub record IsWritten (file : List ℕ) (f : File) : Type 0 where
  pub clean : bad_byte file ≡ None
  pub is : IsFile file f (tokens_of file)
