-- What tokens do at the positions of variables and sections.
use Rattle.std.proofs.Common.{◌≡◌, ℕ, suc, ◌+◌, ◌-◌, ◌<◌, ◌≤◌, Bool, true, false, cond, ◌||◌, List, [], ◌∷◌, ◌++◌, length, Option, Some, None, Ok, Err, Result, refl, sym, ap, subst, ◌∙◌, arith}
use Rattle.std.specs.Prelude.{nat_lt, ℤ, codes, bytes_eq}
use Rattle.std.proofs.lemmas.Bool.Decides.{nat_tests}
use Rattle.spd_lex.specs.declared.token.Token.{Token}
use Rattle.spd_lex.specs.declared.token.Kind.{Kind}
use Rattle.spd_lex.specs.declared.token.Kind.TheVariants.{Open, Close, OpenSum, CloseSum, Word as WordKind}
use Rattle.spd_syntax.specs.declared.file.Word.{Word}
use Rattle.spd_syntax.specs.declared.file.Counts.{Counts}
use Rattle.spd_syntax.specs.declared.file.Quantity.{Quantity}
use Rattle.spd_syntax.specs.declared.file.Quantity.TheVariants.{Diagram, Table, Reward, Discount}
use Rattle.spd_syntax.specs.declared.file.Shape.{Shape}
use Rattle.spd_syntax.specs.declared.file.Variable.{Variable}
use Rattle.spd_syntax.specs.declared.file.Item.{Item}
use Rattle.spd_syntax.specs.declared.file.Item.TheVariants as items
use Rattle.spd_syntax.specs.declared.file.Section.{Section}
use Rattle.spd_syntax.specs.declared.file.Section.TheVariants as sections
use Rattle.spd_syntax.specs.declared.file.File.{File}
use Rattle.spd_syntax.specs.declared.sections.SectionWord.{SectionWord}
use Rattle.spd_syntax.specs.declared.sections.SectionWord.TheVariants.{Dd, Action, Reward as RewardWord, Setting, LeftOut as LeftOutSection, Other as NoSection}
use Rattle.spd_syntax.specs.declared.sections.ItemWord.{ItemWord}
use Rattle.spd_syntax.specs.declared.sections.ItemWord.TheVariants.{EndAction, Cost, LeftOut as LeftOutItem, Other as ATable}
use Rattle.spd_lex.specs.Tokens.{tokens_of}
use Rattle.spd_syntax.specs.declared.refusal.Refusal.{Refusal}
use Rattle.spd_syntax.specs.declared.refusal.Refusal.TheVariants.{Expected, TooMany, LeftOut}
use Rattle.spd_syntax.specs.declared.refusal.Want.{Want}
use Rattle.spd_syntax.specs.declared.refusal.Want.TheVariants as wants
use Rattle.spd_syntax.specs.declared.refusal.What.{What}
use Rattle.spd_syntax.specs.declared.refusal.What.TheVariants as whats
use Rattle.spd_syntax.specs.declared.unread.Unread.{Unread}
use Rattle.spd_syntax.specs.Numbers.{number_of}
use Rattle.spd_syntax.specs.Words.{text_of, name_passes, value_passes}
use Rattle.spd_syntax.specs.Positions.{Position, file_begins, variables_word, first_variable, variable_name, first_value, more_values, more_variables, section, no_section, dd_name, dd_end, action_name, item, part, plus_sign, plus_step, more_parts, tree, inside, number, takes, fault_step, fault_from, counted, ◌then◌, none_yet, one_variable, one_test, one_dd, one_action, with_reward, after_setting, section_word, section_step, item_word, item_step, has_all}
use Rattle.spd_syntax.specs.Grammar.{One, AWord, IsValue, IsNumber, IsTree}
use Rattle.spd_syntax.specs.Files.{Each, Key, AName, AValue, HasValues, AVariable, AreVariables, after_variable, AreTrees, APart, a_tree, a_sum, AnItem, AreItems, IsBody, ASection, AreSections, after_section, IsFile, IsWritten}
use Rattle.spd_syntax.specs.Reading.{Faults, Fails, Only, here, Lacks, Misses, NamesAt, KeywordAt, value_judged, body_positions, fault_after, first_fault}
use Rattle.spd_syntax.proofs.Moves.{Moves, stay, then_moves, moves_more, fails_more, faults_after, fails_after, goes, goes_at, goes_word, stops_word, only_word, only_open, misses, then_ok, then_err}
use Rattle.spd_syntax.proofs.TreeMoves.{tree_moves, inside_moves}

under : {A : Type 0} (what : What) (most n at : ℕ) (next : Result A Refusal) → n < most → counted what most n at next ≡ next
under what most n at next h = let t : nat_lt n most ≡ true = grind (arith, nat_tests) in rw t refl

over : {A : Type 0} (what : What) (most n at : ℕ) (next : Result A Refusal) → most ≤ n → counted what most n at next ≡ Err (TooMany at what)
over what most n at next h = let t : nat_lt n most ≡ false = grind (arith, nat_tests) in rw t refl

-- ---- names that are declared

pub variable_names : (c : Counts) → NamesAt (variable_name c) whats.Variables 100 c.vars (first_value (one_variable c) ∷ [])
variable_names c = record { only = only_word (variable_name c) wants.Name (λ at text. refl) (λ at text. refl) (λ at text. refl) (λ at text. refl) (λ end ps. refl); word = λ at text. refl }

pub dd_names : (n : ℕ) → NamesAt (dd_name n) whats.Dds 4096 n []
dd_names n = record { only = only_word (dd_name n) wants.Name (λ at text. refl) (λ at text. refl) (λ at text. refl) (λ at text. refl) (λ end ps. refl); word = λ at text. refl }

pub action_names : (n : ℕ) → NamesAt (action_name n) whats.Actions 64 n []
action_names n = record { only = only_word (action_name n) wants.Name (λ at text. refl) (λ at text. refl) (λ at text. refl) (λ at text. refl) (λ end ps. refl); word = λ at text. refl }

pub names_miss : (file : List ℕ) (p : Position) (what : What) (most count : ℕ) (qs : List Position) (ts : List Token) (f : Refusal) → NamesAt p what most count qs → Misses file WordKind wants.Name ts f → Faults file (p ∷ []) ts f
names_miss file p what most count qs ts f names m = misses file p WordKind wants.Name ts f names.only m

pub names_stop : (file : List ℕ) (p : Position) (what : What) (most count : ℕ) (qs : List Position) (w : Word) (a b : List Token) (f : Refusal) → NamesAt p what most count qs → AWord w a b
    → Err f ≡ name_passes wants.Name w.from (text_of file w) → Faults file (p ∷ []) a f
names_stop file p what most count qs w a b f names word found =
    stops_word file p w a b f word (names.word w.from (text_of file w) ∙ then_err (name_passes wants.Name w.from (text_of file w)) (counted what most count w.from (Ok qs)) f (sym found))

pub names_full : (file : List ℕ) (p : Position) (what : What) (most count : ℕ) (qs : List Position) (w : Word) (a b : List Token) → NamesAt p what most count qs → AWord w a b
    → Ok tt ≡ name_passes wants.Name w.from (text_of file w) → most ≤ count → Faults file (p ∷ []) a (TooMany w.from what)
names_full file p what most count qs w a b names word found full =
    stops_word file p w a b (TooMany w.from what) word
    (names.word w.from (text_of file w) ∙ ap (λ r. r then counted what most count w.from (Ok qs)) (sym found) ∙ over what most count w.from (Ok qs) full)

pub names_go : (file : List ℕ) (p : Position) (what : What) (most count : ℕ) (qs : List Position) (w : Word) (a b : List Token) → NamesAt p what most count qs → AName file w a b → count < most → Moves file (p ∷ []) a qs b
names_go file p what most count qs w a b names name room =
    goes_word file p qs w a b name.word
    (names.word w.from (text_of file w) ∙ ap (λ r. r then counted what most count w.from (Ok qs)) name.name.is ∙ under what most count w.from (Ok qs) room)

-- ---- values

pub first_only : (c : Counts) → Only (first_value c) WordKind wants.Value
first_only c = only_word (first_value c) wants.Value (λ at text. refl) (λ at text. refl) (λ at text. refl) (λ at text. refl) (λ end ps. refl)

pub first_stops : (file : List ℕ) (c : Counts) (w : Word) (a b : List Token) (f : Refusal) → AWord w a b → Err f ≡ value_passes wants.Value w.from (text_of file w) → Faults file (first_value c ∷ []) a f
first_stops file c w a b f word found = stops_word file (first_value c) w a b f word (then_err (value_passes wants.Value w.from (text_of file w)) (Ok (more_values 1 c ∷ [])) f (sym found))

first_goes : (file : List ℕ) (c : Counts) (w : Word) (a b : List Token) → AValue file w a b → Moves file (first_value c ∷ []) a (more_values 1 c ∷ []) b
first_goes file c w a b v = goes_word file (first_value c) (more_values 1 c ∷ []) w a b v.word (then_ok (value_passes wants.Value w.from (text_of file w)) tt (more_values 1 c ∷ []) v.value.is)

-- whether a word is the name of a value doesn't depend on what is wanted
pub value_wanted : (v w : Want) (at : ℕ) (text : List ℕ) → value_passes v at text ≡ Ok tt → value_passes w at text ≡ Ok tt
unfolding value_passes
value_wanted v w at text e = grind (arith, e)

judged_says : (n tests at : ℕ) (text : List ℕ) → Ok (tt {0}) ≡ value_judged n tests at text → (value_passes wants.Close at text ≡ Ok (tt {0})) × (n < 64) × (tests < 256)
judged_says n tests at text e = by_name (value_passes wants.Close at text) refl e
  where
    by_tests : (b : Bool) → nat_lt tests 256 ≡ b → Ok (tt {0}) ≡ cond b (Ok (tt {0})) (Err (TooMany at whats.Tests)) → tests < 256
    by_tests true t e = grind (arith, nat_tests)
    by_tests false t e = absurd (cc)

    by_values : (b : Bool) → nat_lt n 64 ≡ b → Ok (tt {0}) ≡ cond b (counted whats.Tests 256 tests at (Ok (tt {0}))) (Err (TooMany at whats.Values)) → (n < 64) × (tests < 256)
    by_values true t e = (grind (arith, nat_tests), by_tests (nat_lt tests 256) refl e)
    by_values false t e = absurd (cc)

    by_name : (r : Result (Unit {0}) Refusal) → value_passes wants.Close at text ≡ r → Ok (tt {0}) ≡ (r then counted whats.Values 64 n at (counted whats.Tests 256 tests at (Ok (tt {0})))) → (r ≡ Ok (tt {0})) × (n < 64) × (tests < 256)
    by_name (Ok x) t e = let more = by_values (nat_lt n 64) refl e in (refl, more.0, more.1)
    by_name (Err f) t e = absurd (cc)

pub further_says : (file : List ℕ) (n tests : ℕ) (w : Word) → Ok (tt {0}) ≡ value_judged n tests w.from (text_of file w) → IsValue file w × (n < 64) × (tests < 256)
further_says file n tests w e =
    let says = judged_says n tests w.from (text_of file w) e in
    (record { is = value_wanted wants.Close wants.Value w.from (text_of file w) says.0 }, says.1, says.2)

-- the fault of a further value is that of its position
judged_stops : (n at : ℕ) (c : Counts) (text : List ℕ) (f : Refusal) → Err f ≡ value_judged n c.tests at text → takes (more_values n c) WordKind at text ≡ Err f
judged_stops n at c text f e = by_name (value_passes wants.Close at text) e
  where
    by_tests : (b : Bool) → Err f ≡ cond b (Ok (tt {0})) (Err (TooMany at whats.Tests)) → cond b (Ok (more_values (n + 1) (one_test c) ∷ [])) (Err (TooMany at whats.Tests)) ≡ Err f
    by_tests true e = absurd (cc)
    by_tests false e = let same : f ≡ TooMany at whats.Tests = cc in ap (λ (r : Refusal). Err r) (sym same)

    by_values : (b : Bool) → Err f ≡ cond b (counted whats.Tests 256 c.tests at (Ok (tt {0}))) (Err (TooMany at whats.Values))
        → cond b (counted whats.Tests 256 c.tests at (Ok (more_values (n + 1) (one_test c) ∷ []))) (Err (TooMany at whats.Values)) ≡ Err f
    by_values true e = by_tests (nat_lt c.tests 256) e
    by_values false e = let same : f ≡ TooMany at whats.Values = cc in ap (λ (r : Refusal). Err r) (sym same)

    by_name : (r : Result (Unit {0}) Refusal) → Err f ≡ (r then counted whats.Values 64 n at (counted whats.Tests 256 c.tests at (Ok (tt {0}))))
        → (r then counted whats.Values 64 n at (counted whats.Tests 256 c.tests at (Ok (more_values (n + 1) (one_test c) ∷ [])))) ≡ Err f
    by_name (Ok x) e = by_values (nat_lt n 64) e
    by_name (Err g) e = let same : f ≡ g = cc in ap (λ (r : Refusal). Err r) (sym same)

pub further_stops : (file : List ℕ) (n : ℕ) (c : Counts) (w : Word) (a b : List Token) (f : Refusal) → AWord w a b → Err f ≡ value_judged n c.tests w.from (text_of file w) → Faults file (more_values n c ∷ []) a f
further_stops file n c w a b f word found = stops_word file (more_values n c) w a b f word (judged_stops n w.from c (text_of file w) f found)

further_goes : (file : List ℕ) (n : ℕ) (c : Counts) (w : Word) (a b : List Token) → AValue file w a b → n < 64 → c.tests < 256 → Moves file (more_values n c ∷ []) a (more_values (n + 1) (one_test c) ∷ []) b
further_goes file n c w a b v few tests =
    let qs = more_values (n + 1) (one_test c) ∷ [] in
    goes_word file (more_values n c) qs w a b v.word
    (ap (λ r. r then counted whats.Values 64 n w.from (counted whats.Tests 256 c.tests w.from (Ok qs))) (value_wanted wants.Value wants.Close w.from (text_of file w) v.value.is)
    ∙ under whats.Values 64 n w.from (counted whats.Tests 256 c.tests w.from (Ok qs)) few ∙ under whats.Tests 256 c.tests w.from (Ok qs) tests)

-- with so many tests more
abbrev pub with_tests : Counts → ℕ → Counts
with_tests c n = record c { tests = c.tests + n }

pub values_move : (file : List ℕ) (vs : List Word) (n : ℕ) (c : Counts) (a e : List Token) → Each (AValue file) vs a e → n + length vs ≤ 64 → c.tests + length vs ≤ 256
    → Moves file (more_values n c ∷ []) a (more_values (n + length vs) (with_tests c (length vs)) ∷ []) e
values_move file [] n c a e each few tests =
    let same : n + 0 ≡ n = omega arith in
    let none : c.tests + 0 ≡ c.tests = omega arith in
    rw (same, none) (stay file (more_values n c ∷ []) a e each)
values_move file (v ∷ vs) n c a e each few tests =
    let rest = values_move file vs (n + 1) (one_test c) each.0 e each.2 (omega arith) (omega arith) in
    let count : n + 1 + length vs ≡ n + suc (length vs) = omega arith in
    let all : c.tests + 1 + length vs ≡ c.tests + suc (length vs) = omega arith in
    then_moves file _ (more_values (n + 1) (one_test c) ∷ []) _ a each.0 e (further_goes file n c v a each.0 each.1 (omega arith) (omega arith))
    (subst (λ (m : ℕ). Moves file (more_values (n + 1) (one_test c) ∷ []) each.0 (more_values m (with_tests c (suc (length vs))) ∷ []) e) count
    (subst (λ (m : ℕ). Moves file (more_values (n + 1) (one_test c) ∷ []) each.0 (more_values (n + 1 + length vs) (record c { tests = m }) ∷ []) e) all rest))

-- the first values, and the position behind them
pub read_move : (file : List ℕ) (vs : List Word) (c : Counts) (a e : List Token) → Each (AValue file) vs a e → 0 < length vs → length vs ≤ 64 → c.tests + (length vs - 1) ≤ 256
    → Moves file (first_value c ∷ []) a (more_values (length vs) (with_tests c (length vs - 1)) ∷ []) e
read_move file [] c a e each some few tests = absurd (omega arith)
read_move file (v ∷ vs) c a e each some few tests =
    let rest = values_move file vs 1 c each.0 e each.2 (omega arith) (omega arith) in
    let count : 1 + length vs ≡ suc (length vs) = omega arith in
    let more : length vs ≡ suc (length vs) - 1 = omega arith in
    then_moves file _ (more_values 1 c ∷ []) _ a each.0 e (first_goes file c v a each.0 each.1)
    (subst (λ (m : ℕ). Moves file (more_values 1 c ∷ []) each.0 (more_values m (with_tests c (suc (length vs) - 1)) ∷ []) e) count
    (subst (λ (m : ℕ). Moves file (more_values 1 c ∷ []) each.0 (more_values (1 + length vs) (with_tests c m) ∷ []) e) more rest))

pub has_values_move : (file : List ℕ) (c : Counts) (vs : List Word) (a e : List Token) → HasValues file c vs a e → Moves file (first_value c ∷ []) a (more_variables (with_tests c (length vs - 1)) ∷ []) e
has_values_move file c vs a e is =
    then_moves file _ (more_values (length vs) (with_tests c (length vs - 1)) ∷ []) _ a is.b e (read_move file vs c a is.b is.each is.some is.few is.few_tests)
    (goes file (more_values (length vs) (with_tests c (length vs - 1))) (more_variables (with_tests c (length vs - 1)) ∷ []) Close is.b e is.close (λ at text. refl))

pub values_stopped : (file : List ℕ) (n : ℕ) (c : Counts) (ts : List Token) (f : Refusal) → Lacks WordKind ts → Lacks Close ts → f ≡ Expected (here file ts) wants.Close → Faults file (more_values n c ∷ []) ts f
unfolding fault_from
values_stopped file n c [] f lw lc is = record { is = λ behind. ap (λ (r : Refusal). Some r) (sym is) }
values_stopped file n c (t ∷ ts) f lw lc is = record {
  is = λ behind.
      ap (fault_step (λ rs. fault_from file (rs ++ behind) ts)) (other t.kind lw lc t.from (text_of file (record { from = t.from; to = t.to }))) ∙ ap (λ (r : Refusal). Some r) (sym is);
}
  where
    other : (k : Kind) → (k ≡ WordKind → ⊥) → (k ≡ Close → ⊥) → (at : ℕ) (text : List ℕ) → takes (more_values n c) k at text ≡ Err (Expected at wants.Close)
    other WordKind lw lc at text = absurd (lw refl)
    other Close lw lc at text = absurd (lc refl)
    other k lw lc at text = refl

pub each_more : {X : Type 0} (Is : X → List Token → List Token → Type 0) (xs : List X) (x : X) (a b e : List Token) → Each Is xs a b → Is x b e → Each Is (xs ++ x ∷ []) a e
each_more Is [] x a b e each is = (e, subst (λ (l : List Token). Is x l e) (sym each) is, refl)
each_more Is (y ∷ xs) x a b e each is = (each.0, each.1, each_more Is xs x each.0 b e each.2 is)

-- ---- variables

pub variable_moves : (file : List ℕ) (c : Counts) (v : Variable) (a e : List Token) → AVariable file c v a e → Moves file (variable_name c ∷ []) a (more_variables (after_variable c v) ∷ []) e
variable_moves file c v a e is =
    then_moves file _ (first_value (one_variable c) ∷ []) _ a is.b e (names_go file (variable_name c) whats.Variables 100 c.vars (first_value (one_variable c) ∷ []) v.name a is.b (variable_names c) is.name is.few)
    (has_values_move file (one_variable c) v.values is.b e is.values)

variables_open : (file : List ℕ) (c : Counts) (a b : List Token) → One Open a b → Moves file (more_variables c ∷ []) a (variable_name c ∷ []) b
variables_open file c a b one = goes file (more_variables c) (variable_name c ∷ []) Open a b one (λ at text. refl)

first_opens : (file : List ℕ) (a b : List Token) → One Open a b → Moves file (first_variable ∷ []) a (variable_name none_yet ∷ []) b
first_opens file a b one = goes file first_variable (variable_name none_yet ∷ []) Open a b one (λ at text. refl)

variables_move : (file : List ℕ) (c k : Counts) (vs : List Variable) (a e : List Token) → AreVariables file c vs k a e → Moves file (more_variables c ∷ []) a (more_variables k ∷ []) e
variables_move file c k [] a e are = record { is = λ behind. ap (λ (l : List Token). fault_from file (more_variables c ∷ behind) l) are.1 ∙ ap (λ (d : Counts). fault_from file (more_variables d ∷ behind) e) are.0 }
variables_move file c k (v ∷ vs) a e are =
    then_moves file _ (variable_name c ∷ []) _ a are.0 e (variables_open file c a are.0 are.2)
    (then_moves file _ (more_variables (after_variable c v) ∷ []) _ are.0 are.1 e (variable_moves file c v are.0 are.1 are.3) (variables_move file (after_variable c v) k vs are.1 e are.4))

-- from the first one on
pub first_move : (file : List ℕ) (k : Counts) (vs : List Variable) (a e : List Token) → AreVariables file none_yet vs k a e → 0 < length vs → Moves file (first_variable ∷ []) a (more_variables k ∷ []) e
first_move file k [] a e are some = absurd (omega arith)
first_move file k (v ∷ vs) a e are some =
    then_moves file _ (variable_name none_yet ∷ []) _ a are.0 e (first_opens file a are.0 are.2)
    (then_moves file _ (more_variables (after_variable none_yet v) ∷ []) _ are.0 are.1 e (variable_moves file none_yet v are.0 are.1 are.3) (variables_move file (after_variable none_yet v) k vs are.1 e are.4))

pub next_move : (file : List ℕ) (k : Counts) (vs : List Variable) (a e b : List Token) → AreVariables file none_yet vs k a e → One Open e b → Moves file (first_variable ∷ []) a (variable_name k ∷ []) b
next_move file k [] a e b are one =
    record { is = λ behind. ap (λ (l : List Token). fault_from file (first_variable ∷ behind) l) are.1 ∙ (first_opens file e b one).is behind ∙ ap (λ (d : Counts). fault_from file (variable_name d ∷ behind) b) are.0 }
next_move file k (v ∷ vs) a e b are one = then_moves file _ (more_variables k ∷ []) _ a e b (first_move file k (v ∷ vs) a e are (omega arith)) (variables_open file k e b one)

pub variables_more : (file : List ℕ) (c k : Counts) (vs : List Variable) (v : Variable) (a e b m : List Token) → AreVariables file c vs k a e → One Open e b → AVariable file k v b m → AreVariables file c (vs ++ v ∷ []) (after_variable k v) a m
variables_more file c k [] v a e b m are one is =
    (b, m, record { token = one.token; kind = one.kind; first = are.1 ∙ one.first }, subst (λ (d : Counts). AVariable file d v b m) (sym are.0) is, (ap (λ (d : Counts). after_variable d v) are.0, refl))
variables_more file c k (x ∷ vs) v a e b m are one is = (are.0, are.1, are.2, are.3, variables_more file (after_variable c x) k vs v are.1 e b m are.4 one is)

pub variables_stopped : (file : List ℕ) (c : Counts) (ts : List Token) (f : Refusal) → Lacks Open ts → Lacks Close ts → f ≡ Expected (here file ts) wants.Close → Faults file (more_variables c ∷ []) ts f
unfolding fault_from
variables_stopped file c [] f lo lc is = record { is = λ behind. ap (λ (r : Refusal). Some r) (sym is) }
variables_stopped file c (t ∷ ts) f lo lc is = record {
  is = λ behind.
      ap (fault_step (λ rs. fault_from file (rs ++ behind) ts)) (other t.kind lo lc t.from (text_of file (record { from = t.from; to = t.to }))) ∙ ap (λ (r : Refusal). Some r) (sym is);
}
  where
    other : (k : Kind) → (k ≡ Open → ⊥) → (k ≡ Close → ⊥) → (at : ℕ) (text : List ℕ) → takes (more_variables c) k at text ≡ Err (Expected at wants.Close)
    other Open lo lc at text = absurd (lo refl)
    other Close lo lc at text = absurd (lc refl)
    other k lo lc at text = refl

pub first_variable_only : Only first_variable Open wants.Open
first_variable_only = only_open first_variable wants.Open (λ at text. refl) (λ at text. refl) (λ at text. refl) (λ at text. refl) (λ end ps. refl)

pub variables_empty : (file : List ℕ) (k : Counts) (vs : List Variable) (a e : List Token) (f : Refusal) → length vs ≡ 0 → AreVariables file none_yet vs k a e → Lacks Open e → f ≡ Expected (here file e) wants.Open
    → Faults file (first_variable ∷ []) a f
variables_empty file k (v ∷ vs) a e f none are lacks is = absurd (omega arith)
variables_empty file k [] a e f none are lacks is =
    faults_after file _ (first_variable ∷ []) a e f (stay file (first_variable ∷ []) a e are.1) (misses file first_variable Open wants.Open e f first_variable_only (record { lacks = lacks; fault = is }))

pub variables_end : (file : List ℕ) (k : Counts) (vs : List Variable) (a e : List Token) (f : Refusal) → AreVariables file none_yet vs k a e → 0 < length vs → Lacks Open e → Misses file Close wants.Close e f
    → Faults file (first_variable ∷ []) a f
variables_end file k vs a e f are some lacks m = faults_after file _ (more_variables k ∷ []) a e f (first_move file k vs a e are some) (variables_stopped file k e f lacks m.lacks m.fault)

-- variables add no decision diagrams and no actions
pub variables_keep : (file : List ℕ) (c k : Counts) (vs : List Variable) (a e : List Token) → AreVariables file c vs k a e → (k.dds ≡ c.dds) × (k.actions ≡ c.actions)
variables_keep file c k [] a e are = (ap (λ (d : Counts). d.dds) (sym are.0), ap (λ (d : Counts). d.actions) (sym are.0))
variables_keep file c k (v ∷ vs) a e are = variables_keep file (after_variable c v) k vs are.1 e are.4

-- ---- words of the grammar

pub enddd_at : KeywordAt dd_end (codes "enddd") wants.EndDd []
enddd_at = record { only = only_word dd_end wants.EndDd (λ at text. refl) (λ at text. refl) (λ at text. refl) (λ at text. refl) (λ end ps. refl); word = λ at text. refl }

pub variables_at : KeywordAt variables_word (codes "variables") wants.Variables (first_variable ∷ [])
variables_at = record { only = only_word variables_word wants.Variables (λ at text. refl) (λ at text. refl) (λ at text. refl) (λ at text. refl) (λ end ps. refl); word = λ at text. refl }

module _ (file : List ℕ) (p : Position) (keyword : List ℕ) (want : Want) (qs : List Position) (stands : KeywordAt p keyword want qs) where
  pub keyword_misses : (ts : List Token) (f : Refusal) → Misses file WordKind want ts f → Faults file (p ∷ []) ts f
  keyword_misses ts f m = misses file p WordKind want ts f stands.only m

  pub keyword_stops : (w : Word) (a b : List Token) → AWord w a b → bytes_eq (text_of file w) keyword ≡ false → Faults file (p ∷ []) a (Expected w.from want)
  keyword_stops w a b word other =
      stops_word file p w a b (Expected w.from want) word (stands.word w.from (text_of file w) ∙ ap (λ t. cond t (Ok qs) (Err (Expected w.from want))) other)

  keyword_goes : (w : Word) (a b : List Token) → Key file keyword w a b → Moves file (p ∷ []) a qs b
  keyword_goes w a b key = goes_word file p qs w a b key.word (stands.word w.from (text_of file w) ∙ ap (λ t. cond t (Ok qs) (Err (Expected w.from want))) key.says.is)

pub file_only : Only file_begins Open wants.Variables
file_only = only_open file_begins wants.Variables (λ at text. refl) (λ at text. refl) (λ at text. refl) (λ at text. refl) (λ end ps. refl)

-- ---- sums

pub plus_only : Only plus_sign WordKind wants.Plus
plus_only = only_word plus_sign wants.Plus (λ at text. refl) (λ at text. refl) (λ at text. refl) (λ at text. refl) (λ end ps. refl)

plus_is : (at : ℕ) (text : List ℕ) → bytes_eq text (codes "+") ≡ true → plus_step at text ≡ Ok (tree Reward 0 ∷ more_parts ∷ [])
unfolding plus_step
plus_is at text e = rw e refl

plus_left : (at : ℕ) (text : List ℕ) → bytes_eq text (codes "+") ≡ false → (bytes_eq text (codes "*") || (bytes_eq text (codes "-") || bytes_eq text (codes "max"))) ≡ true → plus_step at text ≡ Err (LeftOut at)
unfolding plus_step
plus_left at text e l = rw (e, l) refl

plus_other : (at : ℕ) (text : List ℕ) → bytes_eq text (codes "+") ≡ false → (bytes_eq text (codes "*") || (bytes_eq text (codes "-") || bytes_eq text (codes "max"))) ≡ false → plus_step at text ≡ Err (Expected at wants.Plus)
unfolding plus_step
plus_other at text e l = rw (e, l) refl

pub plus_left_out : (file : List ℕ) (w : Word) (a b : List Token) → AWord w a b → bytes_eq (text_of file w) (codes "+") ≡ false
    → (bytes_eq (text_of file w) (codes "*") || (bytes_eq (text_of file w) (codes "-") || bytes_eq (text_of file w) (codes "max"))) ≡ true → Faults file (plus_sign ∷ []) a (LeftOut w.from)
plus_left_out file w a b word e l = stops_word file plus_sign w a b (LeftOut w.from) word (plus_left w.from (text_of file w) e l)

pub plus_expected : (file : List ℕ) (w : Word) (a b : List Token) → AWord w a b → bytes_eq (text_of file w) (codes "+") ≡ false
    → (bytes_eq (text_of file w) (codes "*") || (bytes_eq (text_of file w) (codes "-") || bytes_eq (text_of file w) (codes "max"))) ≡ false → Faults file (plus_sign ∷ []) a (Expected w.from wants.Plus)
plus_expected file w a b word e l = stops_word file plus_sign w a b (Expected w.from wants.Plus) word (plus_other w.from (text_of file w) e l)

pub plus_goes : (file : List ℕ) (w : Word) (a b : List Token) → Key file (codes "+") w a b → Moves file (plus_sign ∷ []) a (tree Reward 0 ∷ more_parts ∷ []) b
plus_goes file w a b key = goes_word file plus_sign (tree Reward 0 ∷ more_parts ∷ []) w a b key.word (plus_is w.from (text_of file w) key.says.is)

-- ---- settings

pub setting_only : (q : Quantity) → Only (number q) WordKind wants.Number
setting_only q = only_word (number q) wants.Number (λ at text. refl) (λ at text. refl) (λ at text. refl) (λ at text. refl) (λ end ps. refl)

pub setting_stops : (file : List ℕ) (q : Quantity) (w : Word) (a b : List Token) (f : Refusal) → AWord w a b → Err f ≡ number_of q w.from (text_of file w) → Faults file (number q ∷ []) a f
setting_stops file q w a b f word found = stops_word file (number q) w a b f word (then_err (number_of q w.from (text_of file w)) (Ok []) f (sym found))

pub setting_goes : (file : List ℕ) (q : Quantity) (w : Word) (units : ℤ) (a b : List Token) → AWord w a b → IsNumber file q w units → Moves file (number q ∷ []) a [] b
setting_goes file q w units a b word is = goes_word file (number q) [] w a b word (then_ok (number_of q w.from (text_of file w)) units [] is.is)

-- ---- judgements of further values

pub judged_err : (n tests at : ℕ) (text : List ℕ) (f : Refusal) → Err f ≡ value_passes wants.Close at text → Err f ≡ value_judged n tests at text
judged_err n tests at text f e = ap (λ r. r then counted whats.Values 64 n at (counted whats.Tests 256 tests at (Ok (tt {0})))) e

pub judged_values : (n tests at : ℕ) (text : List ℕ) → Ok (tt {0}) ≡ value_passes wants.Close at text → 64 ≤ n → Err (TooMany at whats.Values) ≡ value_judged n tests at text
judged_values n tests at text e h =
    sym (over whats.Values 64 n at (counted whats.Tests 256 tests at (Ok (tt {0}))) h) ∙ ap (λ r. r then counted whats.Values 64 n at (counted whats.Tests 256 tests at (Ok (tt {0})))) e

pub judged_tests : (n tests at : ℕ) (text : List ℕ) → Ok (tt {0}) ≡ value_passes wants.Close at text → n < 64 → 256 ≤ tests → Err (TooMany at whats.Tests) ≡ value_judged n tests at text
judged_tests n tests at text e few h =
    sym (under whats.Values 64 n at (counted whats.Tests 256 tests at (Ok (tt {0}))) few ∙ over whats.Tests 256 tests at (Ok (tt {0})) h)
    ∙ ap (λ r. r then counted whats.Values 64 n at (counted whats.Tests 256 tests at (Ok (tt {0})))) e

pub judged_ok : (n tests at : ℕ) (text : List ℕ) → Ok (tt {0}) ≡ value_passes wants.Close at text → n < 64 → tests < 256 → Ok (tt {0}) ≡ value_judged n tests at text
judged_ok n tests at text e few h =
    sym (under whats.Values 64 n at (counted whats.Tests 256 tests at (Ok (tt {0}))) few ∙ under whats.Tests 256 tests at (Ok (tt {0})) h)
    ∙ ap (λ r. r then counted whats.Values 64 n at (counted whats.Tests 256 tests at (Ok (tt {0})))) e

-- ---- where no section begins

section_opens : (file : List ℕ) (c : Counts) (a b : List Token) (one : One Open a b) → Moves file (section c ∷ []) a (no_section one.token.from ∷ []) b
section_opens file c a b one = goes_at file (section c) (λ (at : ℕ). no_section at ∷ []) Open a b one (λ at text. refl)

pub observations_left : (file : List ℕ) (c : Counts) (w : Word) (a b d : List Token) → One Open a b → AWord w b d → bytes_eq (text_of file w) (codes "observations") ≡ true → Faults file (section c ∷ []) a (LeftOut w.from)
observations_left file c w a b d one word is =
    faults_after file _ (no_section one.token.from ∷ []) a b (LeftOut w.from) (section_opens file c a b one)
    (stops_word file (no_section one.token.from) w b d (LeftOut w.from) word (ap (λ t. cond t (Err (LeftOut w.from)) (Err (Expected one.token.from wants.Section))) is))

here_first : (file : List ℕ) (kind : Kind) (a b : List Token) (one : One kind a b) → here file a ≡ one.token.from
here_first file kind a b one = ap (here file) one.first

pub other_word : (file : List ℕ) (c : Counts) (w : Word) (a b d : List Token) (f : Refusal) → One Open a b → AWord w b d → bytes_eq (text_of file w) (codes "observations") ≡ false → f ≡ Expected (here file a) wants.Section
    → Faults file (section c ∷ []) a f
other_word file c w a b d f one word is e =
    subst (λ (g : Refusal). Faults file (section c ∷ []) a g) (sym (e ∙ ap (λ (at : ℕ). Expected at wants.Section) (here_first file Open a b one)))
    (faults_after file _ (no_section one.token.from ∷ []) a b (Expected one.token.from wants.Section) (section_opens file c a b one)
    (stops_word file (no_section one.token.from) w b d (Expected one.token.from wants.Section) word (ap (λ t. cond t (Err (LeftOut w.from)) (Err (Expected one.token.from wants.Section))) is)))

no_word : (file : List ℕ) (before : ℕ) (ts : List Token) → Lacks WordKind ts → Faults file (no_section before ∷ []) ts (Expected before wants.Section)
unfolding fault_from
no_word file before [] lacks = record { is = λ behind. refl }
no_word file before (t ∷ ts) lacks = record { is = λ behind. ap (fault_step (λ rs. fault_from file (rs ++ behind) ts)) (other t.kind lacks t.from (text_of file (record { from = t.from; to = t.to }))) }
  where
    other : (k : Kind) → (k ≡ WordKind → ⊥) → (at : ℕ) (text : List ℕ) → takes (no_section before) k at text ≡ Err (Expected before wants.Section)
    other WordKind lw at text = absurd (lw refl)
    other k lw at text = refl

pub no_other_word : (file : List ℕ) (c : Counts) (a b : List Token) (f : Refusal) → One Open a b → Lacks WordKind b → f ≡ Expected (here file a) wants.Section → Faults file (section c ∷ []) a f
no_other_word file c a b f one lacks e =
    subst (λ (g : Refusal). Faults file (section c ∷ []) a g) (sym (e ∙ ap (λ (at : ℕ). Expected at wants.Section) (here_first file Open a b one)))
    (faults_after file _ (no_section one.token.from ∷ []) a b (Expected one.token.from wants.Section) (section_opens file c a b one) (no_word file one.token.from b lacks))

pub section_stopped : (file : List ℕ) (c : Counts) (ts : List Token) (f : Refusal) → 0 < length ts → Lacks WordKind ts → Lacks Open ts → f ≡ Expected (here file ts) wants.Section → Faults file (section c ∷ []) ts f
unfolding fault_from
section_stopped file c [] f some lw lo is = absurd (omega arith)
section_stopped file c (t ∷ ts) f some lw lo is = record {
  is = λ behind.
      ap (fault_step (λ rs. fault_from file (rs ++ behind) ts)) (other t.kind lw lo t.from (text_of file (record { from = t.from; to = t.to }))) ∙ ap (λ (r : Refusal). Some r) (sym is);
}
  where
    other : (k : Kind) → (k ≡ WordKind → ⊥) → (k ≡ Open → ⊥) → (at : ℕ) (text : List ℕ) → takes (section c) k at text ≡ Err (Expected at wants.Section)
    other WordKind lw lo at text = absurd (lw refl)
    other Open lw lo at text = absurd (lo refl)
    other k lw lo at text = refl

-- ---- faults behind values

pub further_fault : (file : List ℕ) (vs : List Word) (c : Counts) (n tests : ℕ) (w : Word) (a b d : List Token) (f : Refusal) → Each (AValue file) vs a b → 0 < length vs → length vs ≤ 64 → c.tests + (length vs - 1) ≤ 256
    → n ≡ length vs → tests ≡ c.tests + (length vs - 1) → AWord w b d → Err f ≡ value_judged n tests w.from (text_of file w) → Faults file (first_value c ∷ []) a f
further_fault file vs c n tests w a b d f each some few most count all word found =
    faults_after file _ (more_values (length vs) (with_tests c (length vs - 1)) ∷ []) a b f (read_move file vs c a b each some few most)
    (further_stops file (length vs) (with_tests c (length vs - 1)) w b d f word (found ∙ ap (λ (m : ℕ). value_judged m tests w.from (text_of file w)) count ∙ ap (λ (m : ℕ). value_judged (length vs) m w.from (text_of file w)) all))

pub values_fault : (file : List ℕ) (vs : List Word) (c : Counts) (a b : List Token) (f : Refusal) → Each (AValue file) vs a b → 0 < length vs → length vs ≤ 64 → c.tests + (length vs - 1) ≤ 256
    → Lacks WordKind b → Misses file Close wants.Close b f → Faults file (first_value c ∷ []) a f
values_fault file vs c a b f each some few most lacks m =
    faults_after file _ (more_values (length vs) (with_tests c (length vs - 1)) ∷ []) a b f (read_move file vs c a b each some few most)
    (values_stopped file (length vs) (with_tests c (length vs - 1)) b f lacks m.lacks m.fault)

-- ---- the trees of a sum

parts_open : (file : List ℕ) (a b : List Token) → One Open a b → Moves file (more_parts ∷ []) a (inside Reward 0 ∷ more_parts ∷ []) b
parts_open file a b one = goes file more_parts (inside Reward 0 ∷ more_parts ∷ []) Open a b one (λ at text. refl)

parts_move : (file : List ℕ) (ts : List Shape) (a e : List Token) → Each (IsTree file Reward 0) ts a e → Moves file (more_parts ∷ []) a (more_parts ∷ []) e
parts_move file [] a e each = stay file (more_parts ∷ []) a e each
parts_move file (t ∷ ts) a e each =
    let is = each.1 in
    then_moves file _ (inside Reward 0 ∷ more_parts ∷ []) _ a is.b e (parts_open file a is.b is.opens)
    (then_moves file _ (more_parts ∷ []) _ is.b each.0 e (moves_more file (more_parts ∷ []) (inside Reward 0 ∷ []) [] is.b each.0 (inside_moves file Reward 0 t is.b each.0 is.inside)) (parts_move file ts each.0 e each.2))

pub trees_move : (file : List ℕ) (ts : List Shape) (a e : List Token) → Each (IsTree file Reward 0) ts a e → 0 < length ts → Moves file (tree Reward 0 ∷ more_parts ∷ []) a (more_parts ∷ []) e
trees_move file [] a e each some = absurd (omega arith)
trees_move file (t ∷ ts) a e each some =
    then_moves file _ (more_parts ∷ []) _ a each.0 e (moves_more file (more_parts ∷ []) (tree Reward 0 ∷ []) [] a each.0 (tree_moves file Reward 0 t a each.0 each.1)) (parts_move file ts each.0 e each.2)

pub trees_inside : (file : List ℕ) (ts : List Shape) (a b d : List Token) (u : Unread) → Each (IsTree file Reward 0) ts a b → 0 < length ts → One Open b d → Fails file (inside Reward 0 ∷ []) d u
    → Fails file (tree Reward 0 ∷ more_parts ∷ []) a u
trees_inside file ts a b d u each some one fails =
    fails_after file _ (inside Reward 0 ∷ more_parts ∷ []) a d u (then_moves file _ (more_parts ∷ []) _ a b d (trees_move file ts a b each some) (parts_open file b d one))
    (fails_more file (more_parts ∷ []) (inside Reward 0 ∷ []) d u fails)

parts_stopped : (file : List ℕ) (ts : List Token) (f : Refusal) → Lacks Open ts → Lacks CloseSum ts → f ≡ Expected (here file ts) wants.Close → Faults file (more_parts ∷ []) ts f
unfolding fault_from
parts_stopped file [] f lo lc is = record { is = λ behind. ap (λ (r : Refusal). Some r) (sym is) }
parts_stopped file (t ∷ ts) f lo lc is = record {
  is = λ behind.
      ap (fault_step (λ rs. fault_from file (rs ++ behind) ts)) (other t.kind lo lc t.from (text_of file (record { from = t.from; to = t.to }))) ∙ ap (λ (r : Refusal). Some r) (sym is);
}
  where
    other : (k : Kind) → (k ≡ Open → ⊥) → (k ≡ CloseSum → ⊥) → (at : ℕ) (text : List ℕ) → takes more_parts k at text ≡ Err (Expected at wants.Close)
    other Open lo lc at text = absurd (lo refl)
    other CloseSum lo lc at text = absurd (lc refl)
    other k lo lc at text = refl

pub trees_end : (file : List ℕ) (ts : List Shape) (a b : List Token) (f : Refusal) → Each (IsTree file Reward 0) ts a b → 0 < length ts → Lacks Open b → Misses file CloseSum wants.Close b f
    → Faults file (tree Reward 0 ∷ more_parts ∷ []) a f
trees_end file ts a b f each some lacks m = faults_after file _ (more_parts ∷ []) a b f (trees_move file ts a b each some) (parts_stopped file b f lacks m.lacks m.fault)

pub are_trees_move : (file : List ℕ) (ts : List Shape) (a e : List Token) → AreTrees file ts a e → Moves file (tree Reward 0 ∷ more_parts ∷ []) a [] e
are_trees_move file ts a e are =
    then_moves file _ (more_parts ∷ []) _ a are.b e (trees_move file ts a are.b are.each are.some) (goes file more_parts [] CloseSum are.b e are.close (λ at text. refl))

-- ---- parts

-- where no `[` stands first, a part is a tree
part_tree : (file : List ℕ) (a : List Token) → Lacks OpenSum a → Moves file (part ∷ []) a (tree Reward 0 ∷ []) a
unfolding fault_from
part_tree file [] lacks = record { is = λ behind. refl }
part_tree file (t ∷ ts) lacks = record { is = λ behind. ap (fault_step (λ rs. fault_from file (rs ++ behind) ts)) (other t.kind lacks t.from (text_of file (record { from = t.from; to = t.to }))) }
  where
    other : (k : Kind) → (k ≡ OpenSum → ⊥) → (at : ℕ) (text : List ℕ) → takes part k at text ≡ takes (tree Reward 0) k at text
    other OpenSum lacks at text = absurd (lacks refl)
    other k lacks at text = refl

part_sum : (file : List ℕ) (a b : List Token) → One OpenSum a b → Moves file (part ∷ []) a (plus_sign ∷ []) b
part_sum file a b one = goes file part (plus_sign ∷ []) OpenSum a b one (λ at text. refl)

pub part_of_tree : (file : List ℕ) (a : List Token) (u : Unread) → Lacks OpenSum a → Fails file (tree Reward 0 ∷ []) a u → Fails file (part ∷ []) a u
part_of_tree file a u lacks fails = fails_after file _ (tree Reward 0 ∷ []) a a u (part_tree file a lacks) fails

pub part_of_sum : (file : List ℕ) (a b : List Token) (u : Unread) → One OpenSum a b → Fails file (plus_sign ∷ []) b u → Fails file (part ∷ []) a u
part_of_sum file a b u one fails = fails_after file _ (plus_sign ∷ []) a b u (part_sum file a b one) fails

pub sum_of_trees : (file : List ℕ) (w : Word) (a b : List Token) (u : Unread) → Key file (codes "+") w a b → Fails file (tree Reward 0 ∷ more_parts ∷ []) b u → Fails file (plus_sign ∷ []) a u
sum_of_trees file w a b u key fails = fails_after file _ (tree Reward 0 ∷ more_parts ∷ []) a b u (plus_goes file w a b key) fails

lacks_sum : (a b : List Token) → One Open a b → Lacks OpenSum a
lacks_sum a b one = subst (Lacks OpenSum) (sym one.first) (λ e. let same : Open ≡ OpenSum = sym one.kind ∙ e in absurd (cc))

pub part_moves : (file : List ℕ) (trees : List Shape) (a e : List Token) → APart file trees a e → Moves file (part ∷ []) a [] e
part_moves file trees a e (a_tree shape is_one is) = then_moves file _ (tree Reward 0 ∷ []) _ a a e (part_tree file a (lacks_sum a is.b is.opens)) (tree_moves file Reward 0 shape a e is)
part_moves file trees a e (a_sum b one is) =
    then_moves file _ (plus_sign ∷ []) _ a b e (part_sum file a b one)
    (then_moves file _ (tree Reward 0 ∷ more_parts ∷ []) _ b is.b e (plus_goes file is.plus b is.b is.key) (are_trees_move file trees is.b e is.are))

pub variable_values : (file : List ℕ) (c : Counts) (w : Word) (a b : List Token) (u : Unread) → AName file w a b → c.vars < 100 → Fails file (first_value (one_variable c) ∷ []) b u → Fails file (variable_name c ∷ []) a u
variable_values file c w a b u name few fails =
    fails_after file _ (first_value (one_variable c) ∷ []) a b u (names_go file (variable_name c) whats.Variables 100 c.vars (first_value (one_variable c) ∷ []) w a b (variable_names c) name few) fails

-- ---- the bodies of sections

pub dd_tree : (file : List ℕ) (n : ℕ) (w : Word) (a b : List Token) (u : Unread) → AName file w a b → n < 4096 → Fails file (tree Diagram 0 ∷ []) b u → Fails file (dd_name n ∷ tree Diagram 0 ∷ dd_end ∷ []) a u
dd_tree file n w a b u name few fails =
    fails_after file _ (tree Diagram 0 ∷ dd_end ∷ []) a b u (moves_more file (tree Diagram 0 ∷ dd_end ∷ []) (dd_name n ∷ []) [] a b (names_go file (dd_name n) whats.Dds 4096 n [] w a b (dd_names n) name few))
    (fails_more file (dd_end ∷ []) (tree Diagram 0 ∷ []) b u fails)

dd_moves : (file : List ℕ) (n : ℕ) (w : Word) (shape : Shape) (a b d : List Token) → AName file w a b → n < 4096 → IsTree file Diagram 0 shape b d → Moves file (dd_name n ∷ tree Diagram 0 ∷ dd_end ∷ []) a (dd_end ∷ []) d
dd_moves file n w shape a b d name few is =
    then_moves file _ (tree Diagram 0 ∷ dd_end ∷ []) _ a b d (moves_more file (tree Diagram 0 ∷ dd_end ∷ []) (dd_name n ∷ []) [] a b (names_go file (dd_name n) whats.Dds 4096 n [] w a b (dd_names n) name few))
    (moves_more file (dd_end ∷ []) (tree Diagram 0 ∷ []) [] b d (tree_moves file Diagram 0 shape b d is))

pub dd_ends : (file : List ℕ) (n : ℕ) (w : Word) (shape : Shape) (a b d : List Token) (f : Refusal) → AName file w a b → n < 4096 → IsTree file Diagram 0 shape b d → Faults file (dd_end ∷ []) d f
    → Faults file (dd_name n ∷ tree Diagram 0 ∷ dd_end ∷ []) a f
dd_ends file n w shape a b d f name few is faults = faults_after file _ (dd_end ∷ []) a d f (dd_moves file n w shape a b d name few is) faults

pub action_items : (file : List ℕ) (n : ℕ) (p : Position) (w : Word) (a b : List Token) (u : Unread) → AName file w a b → n < 64 → Fails file (p ∷ []) b u → Fails file (action_name n ∷ p ∷ []) a u
action_items file n p w a b u name few fails =
    fails_after file _ (p ∷ []) a b u (moves_more file (p ∷ []) (action_name n ∷ []) [] a b (names_go file (action_name n) whats.Actions 64 n [] w a b (action_names n) name few)) fails

-- ---- items of actions

pub item_other : (k : ItemWord) → (k ≡ EndAction → ⊥) → (k ≡ Cost → ⊥) → (k ≡ LeftOutItem → ⊥) → k ≡ ATable
item_other EndAction a b d = absurd (a refl)
item_other Cost a b d = absurd (b refl)
item_other LeftOutItem a b d = absurd (d refl)
item_other ATable a b d = refl

pub item_only : (c : Counts) → Only (item c) WordKind wants.Name
item_only c = only_word (item c) wants.Name (λ at text. refl) (λ at text. refl) (λ at text. refl) (λ at text. refl) (λ end ps. refl)

cost_goes : (file : List ℕ) (c : Counts) (w : Word) (a b : List Token) → AWord w a b → item_word (text_of file w) ≡ Cost → Moves file (item c ∷ []) a (part ∷ item c ∷ []) b
cost_goes file c w a b word is = goes_word file (item c) (part ∷ item c ∷ []) w a b word (ap (λ (k : ItemWord). item_step c w.from (text_of file w) k) is)

table_goes : (file : List ℕ) (c : Counts) (w : Word) (a b : List Token) → AName file w a b → item_word (text_of file w) ≡ ATable → Moves file (item c ∷ []) a (tree Table 0 ∷ item c ∷ []) b
table_goes file c w a b name is =
    goes_word file (item c) (tree Table 0 ∷ item c ∷ []) w a b name.word
    (ap (λ (k : ItemWord). item_step c w.from (text_of file w) k) is ∙ then_ok (name_passes wants.Name w.from (text_of file w)) tt (tree Table 0 ∷ item c ∷ []) name.name.is)

pub cost_parts : (file : List ℕ) (c : Counts) (w : Word) (a b : List Token) (u : Unread) → AWord w a b → item_word (text_of file w) ≡ Cost → Fails file (part ∷ []) b u → Fails file (item c ∷ []) a u
cost_parts file c w a b u word is fails = fails_after file _ (part ∷ item c ∷ []) a b u (cost_goes file c w a b word is) (fails_more file (item c ∷ []) (part ∷ []) b u fails)

pub observe_left : (file : List ℕ) (c : Counts) (w : Word) (a b : List Token) → AWord w a b → item_word (text_of file w) ≡ LeftOutItem → Faults file (item c ∷ []) a (LeftOut w.from)
observe_left file c w a b word is = stops_word file (item c) w a b (LeftOut w.from) word (ap (λ (k : ItemWord). item_step c w.from (text_of file w) k) is)

pub table_stops : (file : List ℕ) (c : Counts) (w : Word) (a b : List Token) (f : Refusal) → AWord w a b → item_word (text_of file w) ≡ ATable → Err f ≡ name_passes wants.Name w.from (text_of file w) → Faults file (item c ∷ []) a f
table_stops file c w a b f word is found =
    stops_word file (item c) w a b f word
    (ap (λ (k : ItemWord). item_step c w.from (text_of file w) k) is ∙ then_err (name_passes wants.Name w.from (text_of file w)) (Ok (tree Table 0 ∷ item c ∷ [])) f (sym found))

pub table_tree : (file : List ℕ) (c : Counts) (w : Word) (a b : List Token) (u : Unread) → AName file w a b → item_word (text_of file w) ≡ ATable → Fails file (tree Table 0 ∷ []) b u → Fails file (item c ∷ []) a u
table_tree file c w a b u name is fails = fails_after file _ (tree Table 0 ∷ item c ∷ []) a b u (table_goes file c w a b name is) (fails_more file (item c ∷ []) (tree Table 0 ∷ []) b u fails)

item_moves : (file : List ℕ) (c : Counts) (i : Item) (a e : List Token) → AnItem file i a e → Moves file (item c ∷ []) a (item c ∷ []) e
item_moves file c (items.Table w shape) a e is =
    then_moves file _ (tree Table 0 ∷ item c ∷ []) _ a is.0 e (table_goes file c w a is.0 is.1 is.2) (moves_more file (item c ∷ []) (tree Table 0 ∷ []) [] is.0 e (tree_moves file Table 0 shape is.0 e is.3))
item_moves file c (items.Cost w parts) a e is =
    then_moves file _ (part ∷ item c ∷ []) _ a is.0 e (cost_goes file c w a is.0 is.1 is.2) (moves_more file (item c ∷ []) (part ∷ []) [] is.0 e (part_moves file parts is.0 e is.3))

pub items_move : (file : List ℕ) (c : Counts) (its : List Item) (a e : List Token) → Each (AnItem file) its a e → Moves file (item c ∷ []) a (item c ∷ []) e
items_move file c [] a e each = stay file (item c ∷ []) a e each
items_move file c (i ∷ its) a e each = then_moves file _ (item c ∷ []) _ a each.0 e (item_moves file c i a each.0 each.1) (items_move file c its each.0 e each.2)

are_items_move : (file : List ℕ) (c : Counts) (its : List Item) (end : Word) (a e : List Token) → AreItems file its end a e → Moves file (item c ∷ []) a (section c ∷ []) e
are_items_move file c its end a e are =
    then_moves file _ (item c ∷ []) _ a are.b e (items_move file c its a are.b are.items)
    (goes_word file (item c) (section c ∷ []) end are.b e are.word (ap (λ (k : ItemWord). item_step c end.from (text_of file end) k) are.ends))

-- ---- whole sections

pub section_goes : (file : List ℕ) (c : Counts) (w : Word) (a b : List Token) (k : SectionWord) (qs : List Position) → AWord w a b → section_word (text_of file w) ≡ k → section_step c w.from k ≡ Ok qs → Moves file (section c ∷ []) a qs b
section_goes file c w a b k qs word is step = goes_word file (section c) qs w a b word (ap (λ (s : SectionWord). section_step c w.from s) is ∙ step)

pub section_stops : (file : List ℕ) (c : Counts) (w : Word) (a b : List Token) (k : SectionWord) (f : Refusal) → AWord w a b → section_word (text_of file w) ≡ k → section_step c w.from k ≡ Err f → Faults file (section c ∷ []) a f
section_stops file c w a b k f word is step = stops_word file (section c) w a b f word (ap (λ (s : SectionWord). section_step c w.from s) is ∙ step)

-- a fault of the body of a section is one of the section
pub body_fails : (file : List ℕ) (c : Counts) (w : Word) (a b : List Token) (k : SectionWord) (u : Unread) → AWord w a b → section_word (text_of file w) ≡ k → (k ≡ LeftOutSection → ⊥) → (k ≡ NoSection → ⊥)
    → Fails file (body_positions c k) b u → Fails file (section c ∷ []) a u
body_fails file c w a b Dd u word is l o fails =
    fails_after file _ (dd_name c.dds ∷ tree Diagram 0 ∷ dd_end ∷ section (one_dd c) ∷ []) a b u (section_goes file c w a b Dd _ word is refl) (fails_more file (section (one_dd c) ∷ []) (dd_name c.dds ∷ tree Diagram 0 ∷ dd_end ∷ []) b u fails)
body_fails file c w a b Action u word is l o fails = fails_after file _ (action_name c.actions ∷ item (one_action c) ∷ []) a b u (section_goes file c w a b Action _ word is refl) fails
body_fails file c w a b RewardWord u word is l o fails =
    fails_after file _ (part ∷ section (with_reward c) ∷ []) a b u (section_goes file c w a b RewardWord _ word is refl) (fails_more file (section (with_reward c) ∷ []) (part ∷ []) b u fails)
body_fails file c w a b (Setting q) u word is l o fails =
    fails_after file _ (number q ∷ section (after_setting q c) ∷ []) a b u (section_goes file c w a b (Setting q) _ word is refl) (fails_more file (section (after_setting q c) ∷ []) (number q ∷ []) b u fails)
body_fails file c w a b LeftOutSection u word is l o fails = absurd (l refl)
body_fails file c w a b NoSection u word is l o fails = absurd (o refl)

body_moves : (file : List ℕ) (c : Counts) (w : Word) (s : Section) (a b e : List Token) → AWord w a b → IsBody file c (section_word (text_of file w)) w s b e → Moves file (section c ∷ []) a (section (after_section c s) ∷ []) e
body_moves file c w (sections.Dd name shape) a b e word is =
    let behind = section (one_dd c) ∷ [] in
    then_moves file _ (dd_name c.dds ∷ tree Diagram 0 ∷ dd_end ∷ behind) _ a b e (section_goes file c w a b Dd _ word is.3 refl)
    (then_moves file _ (dd_end ∷ behind) _ b is.1 e (moves_more file behind (dd_name c.dds ∷ tree Diagram 0 ∷ dd_end ∷ []) (dd_end ∷ []) b is.1 (dd_moves file c.dds name shape b is.0 is.1 is.4 is.5 is.6))
    (moves_more file behind (dd_end ∷ []) [] is.1 e (keyword_goes file dd_end (codes "enddd") wants.EndDd [] enddd_at is.2 is.1 e is.7)))
body_moves file c w (sections.Action name its end) a b e word is =
    then_moves file _ (action_name c.actions ∷ item (one_action c) ∷ []) _ a b e (section_goes file c w a b Action _ word is.1 refl)
    (then_moves file _ (item (one_action c) ∷ []) _ b is.0 e
    (moves_more file (item (one_action c) ∷ []) (action_name c.actions ∷ []) [] b is.0 (names_go file (action_name c.actions) whats.Actions 64 c.actions [] name b is.0 (action_names c.actions) is.2 is.3))
    (are_items_move file (one_action c) its end is.0 e is.4))
body_moves file c w (sections.Reward key parts) a b e word is =
    then_moves file _ (part ∷ section (with_reward c) ∷ []) _ a b e (section_goes file c w a b RewardWord _ word is.0 refl) (moves_more file (section (with_reward c) ∷ []) (part ∷ []) [] b e (part_moves file parts b e is.2))
body_moves file c w (sections.Setting key q units) a b e word is =
    then_moves file _ (number q ∷ section (after_setting q c) ∷ []) _ a b e (section_goes file c w a b (Setting q) _ word is.1 refl)
    (moves_more file (section (after_setting q c) ∷ []) (number q ∷ []) [] b e (setting_goes file q is.0 units b e is.3 is.4))

pub section_moves : (file : List ℕ) (c : Counts) (s : Section) (a e : List Token) → ASection file c s a e → Moves file (section c ∷ []) a (section (after_section c s) ∷ []) e
section_moves file c s a e is = body_moves file c is.word s a is.b e is.first is.body

pub sections_move : (file : List ℕ) (c k : Counts) (ss : List Section) (a e : List Token) → AreSections file c ss k a e → Moves file (section c ∷ []) a (section k ∷ []) e
sections_move file c k [] a e are = record { is = λ behind. ap (λ (l : List Token). fault_from file (section c ∷ behind) l) are.1 ∙ ap (λ (d : Counts). fault_from file (section d ∷ behind) e) are.0 }
sections_move file c k (s ∷ ss) a e are =
    then_moves file _ (section (after_section c s) ∷ []) _ a are.0 e (section_moves file c s a are.0 are.1) (sections_move file (after_section c s) k ss are.0 e are.2)

pub sections_more : (file : List ℕ) (c k : Counts) (ss : List Section) (s : Section) (a e m : List Token) → AreSections file c ss k a e → ASection file k s e m → AreSections file c (ss ++ s ∷ []) (after_section k s) a m
sections_more file c k [] s a e m are is =
    (m, subst (λ (l : List Token). ASection file c s l m) (sym are.1) (subst (λ (d : Counts). ASection file d s e m) (sym are.0) is), (ap (λ (d : Counts). after_section d s) are.0, refl))
sections_more file c k (x ∷ ss) s a e m are is = (are.0, are.1, sections_more file (after_section c x) k ss s are.0 e m are.2 is)

setting_keeps : (q : Quantity) (c : Counts) → ((after_setting q c).dds ≡ c.dds) × ((after_setting q c).actions ≡ c.actions)
setting_keeps Discount c = (refl, refl)
setting_keeps q c = (refl, refl)

-- at most 4,096 decision diagrams and 64 actions were read
pub section_keeps : (file : List ℕ) (c : Counts) (s : Section) (a e : List Token) → ASection file c s a e → c.dds ≤ 4096 → c.actions ≤ 64 → ((after_section c s).dds ≤ 4096) × ((after_section c s).actions ≤ 64)
section_keeps file c s a e is dds actions = by_body s is.body
  where
    by_body : (s : Section) → IsBody file c (section_word (text_of file is.word)) is.word s is.b e → ((after_section c s).dds ≤ 4096) × ((after_section c s).actions ≤ 64)
    by_body (sections.Dd name shape) body = (omega (arith, body.5), actions)
    by_body (sections.Action name its end) body = (dds, omega (arith, body.3))
    by_body (sections.Reward word parts) body = (dds, actions)
    by_body (sections.Setting word q units) body = let keeps = setting_keeps q c in (omega (arith, keeps.0), omega (arith, keeps.1))

-- the word of a section that is no other
pub reward_else : (k : SectionWord) → (k ≡ Dd → ⊥) → (k ≡ Action → ⊥) → ((q : Quantity) → k ≡ Setting q → ⊥) → (k ≡ LeftOutSection → ⊥) → (k ≡ NoSection → ⊥) → k ≡ RewardWord
reward_else Dd a b d l o = absurd (a refl)
reward_else Action a b d l o = absurd (b refl)
reward_else RewardWord a b d l o = refl
reward_else (Setting q) a b d l o = absurd (d q refl)
reward_else LeftOutSection a b d l o = absurd (l refl)
reward_else NoSection a b d l o = absurd (o refl)

-- the file ends before each section that must stand was read
pub sections_lack : (file : List ℕ) (c k : Counts) (ss : List Section) (a e : List Token) (f : Refusal) → AreSections file c ss k a e → e ≡ [] → has_all k ≡ false → f ≡ Expected (here file e) wants.Section → Faults file (section c ∷ []) a f
unfolding fault_from
sections_lack file c k ss a e f are none lacks is =
    record {
      is = λ behind.
          (sections_move file c k ss a e are).is behind ∙ ap (λ (l : List Token). fault_from file (section k ∷ behind) l) none
          ∙ ap (λ t. cond t None (Some (Expected (length file) wants.Section))) lacks ∙ ap (λ (r : Refusal). Some r) (sym (is ∙ ap (λ (l : List Token). Expected (here file l) wants.Section) none));
    }

-- ---- whole files

file_opens : (file : List ℕ) (a b : List Token) → One Open a b → Moves file (file_begins ∷ []) a (variables_word ∷ []) b
file_opens file a b one = goes file file_begins (variables_word ∷ []) Open a b one (λ at text. refl)

variables_close : (file : List ℕ) (k : Counts) (a b : List Token) → One Close a b → Moves file (more_variables k ∷ []) a (section k ∷ []) b
variables_close file k a b one = goes file (more_variables k) (section k ∷ []) Close a b one (λ at text. refl)

variables_goes : (file : List ℕ) (w : Word) (a b : List Token) → Key file (codes "variables") w a b → Moves file (variables_word ∷ []) a (first_variable ∷ []) b
variables_goes file w a b key = keyword_goes file variables_word (codes "variables") wants.Variables (first_variable ∷ []) variables_at w a b key

pub file_variables_word : (file : List ℕ) (a b : List Token) (f : Refusal) → One Open a b → Faults file (variables_word ∷ []) b f → Faults file (file_begins ∷ []) a f
file_variables_word file a b f one faults = faults_after file _ (variables_word ∷ []) a b f (file_opens file a b one) faults

pub file_variables : (file : List ℕ) (w : Word) (a b d : List Token) (u : Unread) → One Open a b → Key file (codes "variables") w b d → Fails file (first_variable ∷ []) d u → Fails file (file_begins ∷ []) a u
file_variables file w a b d u one key fails =
    fails_after file _ (first_variable ∷ []) a d u (then_moves file _ (variables_word ∷ []) _ a b d (file_opens file a b one) (variables_goes file w b d key)) fails

to_sections : (file : List ℕ) (w : Word) (k : Counts) (vs : List Variable) (a b d e m : List Token) → One Open a b → Key file (codes "variables") w b d → AreVariables file none_yet vs k d e → 0 < length vs → One Close e m
    → Moves file (file_begins ∷ []) a (section k ∷ []) m
to_sections file w k vs a b d e m one key are some close =
    then_moves file _ (variables_word ∷ []) _ a b m (file_opens file a b one)
    (then_moves file _ (first_variable ∷ []) _ b d m (variables_goes file w b d key)
    (then_moves file _ (more_variables k ∷ []) _ d e m (first_move file k vs d e are some) (variables_close file k e m close)))

pub file_sections : (file : List ℕ) (w : Word) (k : Counts) (vs : List Variable) (a b d e m : List Token) (u : Unread) → One Open a b → Key file (codes "variables") w b d → AreVariables file none_yet vs k d e → 0 < length vs → One Close e m
    → Fails file (section k ∷ []) m u → Fails file (file_begins ∷ []) a u
file_sections file w k vs a b d e m u one key are some close fails = fails_after file _ (section k ∷ []) a m u (to_sections file w k vs a b d e m one key are some close) fails

no_fault : (file : List ℕ) (f : File) (ts : List Token) → IsFile file f ts → fault_from file (file_begins ∷ []) ts ≡ None
unfolding fault_from
no_fault file f ts is =
    (to_sections file is.word is.counts f.variables ts is.a is.b is.d is.e is.opens is.key is.variables is.some is.closes).is [] ∙ (sections_move file is.counts is.all f.sections is.e [] is.sections).is []
    ∙ ap (λ t. cond t None (Some (Expected (length file) wants.Section))) is.has_all

pub written_no_fault : (file : List ℕ) (f : File) → IsWritten file f → first_fault file ≡ None
written_no_fault file f is = ap (λ (o : Option ℕ). fault_after file o) is.clean ∙ no_fault file f (tokens_of file) is.is
