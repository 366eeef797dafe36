-- The grammar by what may stand where: each position of a file, the tokens that go on there, and what is wanted of the others.
use Rattle.std.specs.Prelude.{ℕ, ◌+◌, nat_lt, Bool, true, false, ◌&&◌, ◌||◌, if◌then◌else◌, List, [], ◌∷◌, ◌++◌, length, Option, Some, None, Result, Ok, Err, codes}
use Rattle.std.specs.Str.{bytes_eq}
use Rattle.spd_lex.specs.declared.token.Token.{Token}
use Rattle.spd_lex.specs.declared.token.Kind.{Kind}
use Rattle.spd_lex.specs.declared.token.Kind.TheVariants.{Open, Close, OpenSum, CloseSum, Word}
use Rattle.spd_lex.specs.Tokens.{tokens_of}
use Rattle.spd_syntax.specs.declared.file.Counts.{Counts}
use Rattle.spd_syntax.specs.declared.file.Quantity.{Quantity}
use Rattle.spd_syntax.specs.declared.file.Quantity.TheVariants.{Diagram, Table, Reward, Discount, Tolerance, Horizon}
use Rattle.spd_syntax.specs.declared.sections.SectionWord.{SectionWord}
use Rattle.spd_syntax.specs.declared.sections.SectionWord.TheVariants.{Dd, Action, Reward as Reward_, Setting, LeftOut as LeftOutSection, Other as NoSection}
use Rattle.spd_syntax.specs.declared.sections.ItemWord.{ItemWord}
use Rattle.spd_syntax.specs.declared.sections.ItemWord.TheVariants.{EndAction, Cost, LeftOut as LeftOutItem, Other as ATable}
use Rattle.spd_syntax.specs.declared.refusal.Refusal.{Refusal}
use Rattle.spd_syntax.specs.declared.refusal.Refusal.TheVariants.{Expected, TooMany, LeftOut}
use Rattle.spd_syntax.specs.declared.refusal.Want.{Want}
use Rattle.spd_syntax.specs.declared.refusal.What.{What}
use Rattle.spd_syntax.specs.declared.refusal.Want.TheVariants as wants
use Rattle.spd_syntax.specs.declared.refusal.What.TheVariants as whats
use Rattle.spd_syntax.specs.Words.{name_passes, value_passes, is_number_word, is_primed, front_of, text_of}
use Rattle.spd_syntax.specs.Numbers.{number_of}

-- A position of a file, by what stands before it and what is to come.
pub data Position : Type 0 where
  file_begins : Position
  variables_word : Position
  first_variable : Position
  variable_name : Counts → Position
  first_value : Counts → Position
  -- behind so many values of a variable
  more_values : ℕ → Counts → Position
  more_variables : Counts → Position
  section : Counts → Position
  -- behind a `(` at this place, where a section begins
  no_section : ℕ → Position
  dd_name : ℕ → Position
  dd_end : Position
  action_name : ℕ → Position
  item : Counts → Position
  part : Position
  plus_sign : Position
  more_parts : Position
  -- so many trees stand round each of these
  tree : Quantity → ℕ → Position
  inside : Quantity → ℕ → Position
  after_number : Position
  after_primed : Quantity → ℕ → Position
  branch_value : Quantity → ℕ → Position
  branch_end : Position
  -- behind a NAME or a branch: branches, as many as there are, and the end of the tree
  more_branches : Quantity → ℕ → Position
  number : Quantity → Position

-- what is wanted where no token can go on
abbrev pub want_of : Position → Want
want_of file_begins = wants.Variables
want_of variables_word = wants.Variables
want_of first_variable = wants.Open
want_of (variable_name c) = wants.Name
want_of (first_value c) = wants.Value
want_of (more_values n c) = wants.Close
want_of (more_variables c) = wants.Close
want_of (section c) = wants.Section
want_of (no_section at) = wants.Section
want_of (dd_name n) = wants.Name
want_of dd_end = wants.EndDd
want_of (action_name n) = wants.Name
want_of (item c) = wants.Name
want_of part = wants.Open
want_of plus_sign = wants.Plus
want_of more_parts = wants.Close
want_of (tree q n) = wants.Open
want_of (inside q n) = wants.Name
want_of after_number = wants.Close
want_of (after_primed q n) = wants.Open
want_of (branch_value q n) = wants.Value
want_of branch_end = wants.Close
want_of (more_branches q n) = wants.Close
want_of (number q) = wants.Number

-- the place of the fault where a token at this place can't go on
abbrev pub place_of : Position → ℕ → ℕ
place_of (no_section before) at = before
place_of p at = at

-- what a token does: the positions that come in the place of the one that it met, or the first fault
abbrev pub Step : Type 0
Step = Result (List Position) Refusal

infixl 10 ◌then◌
abbrev pub ◌then◌ : {A B : Type 0} → Result A Refusal → Result B Refusal → Result B Refusal
(Ok x) then next = next
(Err e) then next = Err e

abbrev pub stops : Position → ℕ → Step
stops p at = Err (Expected (place_of p at) (want_of p))

-- one thing more, of which there are n, where at most `most` may be
abbrev pub counted : {A : Type 0} → What → ℕ → ℕ → ℕ → Result A Refusal → Result A Refusal
counted what most n at next = if nat_lt n most then next else Err (TooMany at what)

abbrev pub none_yet : Counts
none_yet = record { vars = 0; tests = 0; dds = 0; actions = 0; reward = false; discount = false; stop = false }

abbrev pub one_variable : Counts → Counts
one_variable c = record c { vars = c.vars + 1 }

abbrev pub one_test : Counts → Counts
one_test c = record c { tests = c.tests + 1 }

abbrev pub one_dd : Counts → Counts
one_dd c = record c { dds = c.dds + 1 }

abbrev pub one_action : Counts → Counts
one_action c = record c { actions = c.actions + 1 }

abbrev pub with_reward : Counts → Counts
with_reward c = record c { reward = true }

abbrev pub with_discount : Counts → Counts
with_discount c = record c { discount = true }

abbrev pub with_stop : Counts → Counts
with_stop c = record c { stop = true }

-- which section a word begins
unfoldable pub section_word : List ℕ → SectionWord
section_word text =
    if bytes_eq text (codes "dd") then Dd
    else (if bytes_eq text (codes "action") then Action
    else (if bytes_eq text (codes "reward") then Reward_
    else (if bytes_eq text (codes "discount") then Setting Discount
    else (if bytes_eq text (codes "tolerance") then Setting Tolerance
    else (if bytes_eq text (codes "horizon") then Setting Horizon
    else (if bytes_eq text (codes "init") || bytes_eq text (codes "unnormalized") then LeftOutSection
    else NoSection))))))

-- the settings: the discount, and what stops a run, the tolerance or the horizon
abbrev pub after_setting : Quantity → Counts → Counts
after_setting Discount c = with_discount c
after_setting q c = with_stop c

abbrev pub section_step : Counts → ℕ → SectionWord → Step
section_step c at Dd = Ok (dd_name c.dds ∷ tree Diagram 0 ∷ dd_end ∷ section (one_dd c) ∷ [])
section_step c at Action = Ok (action_name c.actions ∷ item (one_action c) ∷ [])
section_step c at Reward_ = Ok (part ∷ section (with_reward c) ∷ [])
section_step c at (Setting q) = Ok (number q ∷ section (after_setting q c) ∷ [])
section_step c at LeftOutSection = Err (LeftOut at)
section_step c at NoSection = stops (section c) at

-- what a word does where an item begins
unfoldable pub item_word : List ℕ → ItemWord
item_word text =
    if bytes_eq text (codes "endaction") then EndAction
    else (if bytes_eq text (codes "cost") then Cost
    else (if bytes_eq text (codes "observe") then LeftOutItem
    else ATable))

abbrev pub item_step : Counts → ℕ → List ℕ → ItemWord → Step
item_step c at text EndAction = Ok (section c ∷ [])
item_step c at text Cost = Ok (part ∷ item c ∷ [])
item_step c at text LeftOutItem = Err (LeftOut at)
item_step c at text ATable = name_passes wants.Name at text then Ok (tree Table 0 ∷ item c ∷ [])

unfoldable pub plus_step : ℕ → List ℕ → Step
plus_step at text =
    if bytes_eq text (codes "+") then Ok (tree Reward 0 ∷ more_parts ∷ [])
    else (if bytes_eq text (codes "*") || (bytes_eq text (codes "-") || bytes_eq text (codes "max")) then Err (LeftOut at)
    else stops plus_sign at)

abbrev pub inside_step : Quantity → ℕ → ℕ → List ℕ → Step
inside_step q n at text =
    if is_number_word text then number_of q at text then Ok (after_number ∷ [])
    else (if is_primed text then name_passes wants.Name at (front_of text) then Ok (after_primed q n ∷ [])
    else name_passes wants.Name at text then Ok (more_branches q n ∷ []))

-- at most 300 trees inside one another
abbrev pub opened : Quantity → ℕ → ℕ → Step
opened q n at = counted whats.Nesting 300 n at (Ok (inside q n ∷ []))

-- What a token at this place does where this position is next: the positions that come in its stead, or the first fault.
abbrev pub takes : Position → Kind → ℕ → List ℕ → Step
takes file_begins Open at text = Ok (variables_word ∷ [])
takes variables_word Word at text = if bytes_eq text (codes "variables") then Ok (first_variable ∷ []) else stops variables_word at
takes first_variable Open at text = Ok (variable_name none_yet ∷ [])
takes (variable_name c) Word at text =
    name_passes wants.Name at text then counted whats.Variables 100 c.vars at (Ok (first_value (one_variable c) ∷ []))
takes (first_value c) Word at text = value_passes wants.Value at text then Ok (more_values 1 c ∷ [])
takes (more_values n c) Word at text =
    value_passes wants.Close at text then counted whats.Values 64 n at (counted whats.Tests 256 c.tests at (Ok (more_values (n + 1) (one_test c) ∷ [])))
takes (more_values n c) Close at text = Ok (more_variables c ∷ [])
takes (more_variables c) Open at text = Ok (variable_name c ∷ [])
takes (more_variables c) Close at text = Ok (section c ∷ [])
takes (section c) Word at text = section_step c at (section_word text)
takes (section c) Open at text = Ok (no_section at ∷ [])
takes (no_section before) Word at text = if bytes_eq text (codes "observations") then Err (LeftOut at) else stops (no_section before) at
takes (dd_name n) Word at text = name_passes wants.Name at text then counted whats.Dds 4096 n at (Ok [])
takes dd_end Word at text = if bytes_eq text (codes "enddd") then Ok [] else stops dd_end at
takes (action_name n) Word at text = name_passes wants.Name at text then counted whats.Actions 64 n at (Ok [])
takes (item c) Word at text = item_step c at text (item_word text)
takes part Open at text = opened Reward 0 at
takes part OpenSum at text = Ok (plus_sign ∷ [])
takes plus_sign Word at text = plus_step at text
takes more_parts Open at text = Ok (inside Reward 0 ∷ more_parts ∷ [])
takes more_parts CloseSum at text = Ok []
takes (tree q n) Open at text = opened q n at
takes (inside q n) Word at text = inside_step q n at text
takes after_number Close at text = Ok []
takes (after_primed q n) Open at text = Ok (branch_value q n ∷ [])
takes (branch_value q n) Word at text = value_passes wants.Value at text then Ok (tree q (n + 1) ∷ branch_end ∷ more_branches q n ∷ [])
takes branch_end Close at text = Ok []
takes (more_branches q n) Open at text = Ok (branch_value q n ∷ [])
takes (more_branches q n) Close at text = Ok []
takes (number q) Word at text = number_of q at text then Ok []
takes p kind at text = stops p at

-- each section that must stand was read
abbrev pub has_all : Counts → Bool
has_all c = nat_lt 0 c.actions && (c.reward && (c.discount && c.stop))

-- the file may end where a section begins and each section that must stand was read
abbrev pub end_fault : ℕ → List Position → Option Refusal
end_fault end [] = None
end_fault end (section c ∷ ps) = if has_all c then None else Some (Expected end wants.Section)
end_fault end (p ∷ ps) = Some (Expected (place_of p end) (want_of p))

abbrev pub fault_step : (List Position → Option Refusal) → Step → Option Refusal
fault_step next (Err e) = Some e
fault_step next (Ok qs) = next qs

-- the first fault of tokens where these positions are next, from left to right
unfoldable pub fault_from : List ℕ → List Position → List Token → Option Refusal
fault_from file ps [] = end_fault (length file) ps
fault_from file [] (t ∷ ts) = None
fault_from file (p ∷ ps) (t ∷ ts) =
    fault_step (λ qs. fault_from file (qs ++ ps) ts) (takes p t.kind t.from (text_of file (record { from = t.from; to = t.to })))

-- the first fault of a file's syntax
abbrev pub syntax_fault : List ℕ → Option Refusal
syntax_fault file = fault_from file (file_begins ∷ []) (tokens_of file)
