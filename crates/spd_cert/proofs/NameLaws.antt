-- Names: they are words, no `=` stands in them, and each is found by its name.
use Rattle.std.proofs.Common.{inl, inr, ◌≡◌, ℕ, ◌+◌, ◌<◌, Bool, true, false, cond, eqb, ltb, ◌&&◌, ◌||◌, not, List, [], ◌∷◌, ◌++◌, length, map, take, drop, get_or, codes, Option, Some, None, refl, sym, ap, subst, ◌∙◌, arith, append_assoc, append-nil}
use Rattle.std.specs.Prelude.{bytes_eq, position, slice_get, IsTrue, count_by, ◌==◌}
use Rattle.std.specs.List.{list_all, position_or_len}
use Rattle.std.specs.Char.{is_ascii_alphabetic, is_ascii_alphanumeric}
use Rattle.std.proofs.lemmas.Bool.{true≢false, and_parts, and_from, or_from, not_from_false, not-true, ne_eqb, eqb-true, eq-eqb, ltb-true, lt-ltb}
use Rattle.std.proofs.lemmas.List.{get_or-map, length-map, take-append-drop, drop_more}
use Rattle.std.proofs.lemmas.List.Folds.{list_all-append}
use Rattle.std.proofs.lemmas.List.Sums.{passes_at_first, position_or_len_is, sum_by-cons}
use Rattle.std.proofs.lemmas.Option.{same_Some, slice_get-get_or, slice_get_cases}
use Rattle.std.proofs.lemmas.Slice.Eq.{bytes_eq-Decides}
use Rattle.spd_edge.proofs.CallerLemmas.{bytes_eq-other}
use Rattle.spd_model.specs.declared.process.Var.{Var}
use Rattle.spd_model.specs.declared.process.Action.{Action}
use Rattle.spd_model.specs.Process.{Process}
use Rattle.spd_model.specs.Names.{is_name, has_name_form, is_value_name, has_value_form}
use Rattle.spd_model.specs.Lawful.{AreDistinct, HasValues, IsLawful}
use Rattle.spd_model.specs.ResultText.{action_name, var_name, value_name}
use Rattle.spd_cert.specs.Grammar.{IsWord}
use Rattle.spd_cert.specs.Reading.{is_break}
use Rattle.spd_cert.specs.Words.{is_equals, is_pair, pair_from, pair_value, var_number, action_number, value_number}
use Rattle.spd_cert.proofs.WordLaws.{first_found, front_at, behind_at}

-- ---- the bytes of names

-- neither a space nor LF nor `=`
abbrev pub is_plain : ℕ → Bool
is_plain byte = not (is_break byte) && not (is_equals byte)

differs : (test : ℕ → Bool) (k byte : ℕ) → test k ≡ false → test byte ≡ true → eqb byte k ≡ false
differs test k byte failing passes = ne_eqb byte k (λ same. true≢false (sym passes ∙ ap test same ∙ failing))

-- a byte that passes a test that these three fail
plain_byte : (test : ℕ → Bool) → test 32 ≡ false → test 10 ≡ false → test 61 ≡ false → (byte : ℕ) → test byte ≡ true → is_plain byte ≡ true
plain_byte test a b c byte passes =
    and_from (not (is_break byte)) (not (is_equals byte))
    (not_from_false (is_break byte) (or_from (eqb byte 32) (eqb byte 10) (differs test 32 byte a passes) (differs test 10 byte b passes)))
    (not_from_false (is_equals byte) (differs test 61 byte c passes))

plain_all : (test : ℕ → Bool) → test 32 ≡ false → test 10 ≡ false → test 61 ≡ false → (bytes : List ℕ) → list_all test bytes ≡ true → list_all is_plain bytes ≡ true
plain_all test a b c [] h = refl
plain_all test a b c (byte ∷ bytes) h =
    let parts = and_parts (test byte) (list_all test bytes) h in
    and_from (is_plain byte) (list_all is_plain bytes) (plain_byte test a b c byte parts.0) (plain_all test a b c bytes parts.1)

form_plain : (name : List ℕ) → has_name_form name ≡ true → list_all is_plain name ≡ true
form_plain [] h = absurd cc
form_plain (c ∷ cs) h =
    let parts = and_parts (is_ascii_alphabetic c || c == 95) (list_all (λ d. is_ascii_alphanumeric d || (d == 95 || d == 45)) cs) h in
    and_from (is_plain c) (list_all is_plain cs) (plain_byte (λ d. is_ascii_alphabetic d || d == 95) refl refl refl c parts.0)
    (plain_all (λ d. is_ascii_alphanumeric d || (d == 95 || d == 45)) refl refl refl cs parts.1)

value_form_plain : (name : List ℕ) → has_value_form name ≡ true → list_all is_plain name ≡ true
value_form_plain [] h = absurd cc
value_form_plain (c ∷ cs) h =
    let parts = and_parts (is_ascii_alphanumeric c || c == 95) (list_all (λ d. is_ascii_alphanumeric d || (d == 95 || (d == 45 || d == 46))) cs) h in
    and_from (is_plain c) (list_all is_plain cs) (plain_byte (λ d. is_ascii_alphanumeric d || d == 95) refl refl refl c parts.0)
    (plain_all (λ d. is_ascii_alphanumeric d || (d == 95 || (d == 45 || d == 46))) refl refl refl cs parts.1)

pub name_plain : (name : List ℕ) → IsTrue (is_name name) → list_all is_plain name ≡ true
name_plain name h = form_plain name (and_parts (has_name_form name) _ h).0

pub value_plain : (name : List ℕ) → IsTrue (is_value_name name) → list_all is_plain name ≡ true
value_plain name h = value_form_plain name (and_parts (has_value_form name) _ h).0

pub plain_word : (w : List ℕ) → list_all is_plain w ≡ true → IsWord w
plain_word [] h = refl
plain_word (c ∷ cs) h =
    let parts = and_parts (is_plain c) (list_all is_plain cs) h in
    and_from (not (is_break c)) (list_all (λ d. not (is_break d)) cs) (and_parts (not (is_break c)) (not (is_equals c)) parts.0).0 (plain_word cs parts.1)

pub word_append : (v w : List ℕ) → IsWord v → IsWord w → IsWord (v ++ w)
word_append v w a b = list_all-append (λ c. not (is_break c)) v w ∙ and_from _ _ a b

abbrev one_for : ℕ → ℕ
one_for byte = cond (is_equals byte) 1 0

no_equals : (w rest : List ℕ) → list_all is_plain w ≡ true → count_by is_equals (w ++ rest) ≡ count_by is_equals rest
no_equals [] rest h = refl
no_equals (c ∷ cs) rest h =
    let parts = and_parts (is_plain c) (list_all is_plain cs) h in
    let none = not-true (is_equals c) (and_parts (not (is_break c)) (not (is_equals c)) parts.0).1 in
    let more = no_equals cs rest parts.1 in
    let zero : one_for c ≡ 0 = ap (λ b. cond b 1 0) none in
    omega (arith, more, zero, sum_by-cons one_for c (cs ++ rest))

plain_differs : (w : List ℕ) → list_all is_plain w ≡ true → list_all (λ c. not (is_equals c)) w ≡ true
plain_differs [] h = refl
plain_differs (c ∷ cs) h =
    let parts = and_parts (is_plain c) (list_all is_plain cs) h in
    and_from (not (is_equals c)) (list_all (λ d. not (is_equals d)) cs) (and_parts (not (is_break c)) (not (is_equals c)) parts.0).1 (plain_differs cs parts.1)

-- ---- what is found by its name

-- the entry at a place
pub entry_at : {X : Type 0} (xs : List X) (i : ℕ) → i < length xs → (x : X) × (get_or xs i x ≡ x)
entry_at xs i within = elim (slice_get_cases xs i).1 [ inl there ↦ (there.0, there.3) | inr past ↦ absurd (omega (arith, past.0, within)) ]

module _ {X : Type 0} (name_of : X → List ℕ) (xs : List X) where
  abbrev pub name_at : ℕ → List ℕ
  name_at i = elim (slice_get xs i) [ None ↦ [] | Some x ↦ name_of x ]

  abbrev pub number_of : List ℕ → Option ℕ
  number_of w = position (λ x. bytes_eq (name_of x) w) xs

  pub name_at_is : (i : ℕ) (d : X) → i < length xs → name_at i ≡ name_of (get_or xs i d)
  name_at_is i d within = ap (λ (o : Option X). elim o [ None ↦ [] | Some x ↦ name_of x ]) (slice_get-get_or xs i d within)

  pub number_told : (w : List ℕ) (i : ℕ) → number_of w ≡ Some i → (i < length xs) × (w ≡ name_at i)
  number_told w i e = by (ltb (position_or_len (λ x. bytes_eq (name_of x) w) xs) (length xs)) refl e
    where
      by : (b : Bool) → ltb (position_or_len (λ x. bytes_eq (name_of x) w) xs) (length xs) ≡ b → cond b (Some (position_or_len (λ x. bytes_eq (name_of x) w) xs)) None ≡ Some i
          → (i < length xs) × (w ≡ name_at i)
      by false t is = absurd cc
      by true t is =
          let p : X → Bool = λ x. bytes_eq (name_of x) w in
          let n = position_or_len p xs in
          let within : n < length xs = ltb-true n (length xs) t in
          let d = (entry_at xs n within).0 in
          let same : n ≡ i = same_Some n i is in
          let passes : name_of (get_or xs n d) ≡ w = (bytes_eq-Decides (name_of (get_or xs n d)) w).0 (passes_at_first p xs d within) in
          subst (λ (k : ℕ). (k < length xs) × (w ≡ name_at k)) same (within, sym passes ∙ sym (name_at_is n d within))

  -- no earlier one has the name of this one
  abbrev pub IsFirst : ℕ → Type 0
  IsFirst i = (k : ℕ) (d : X) → k < i → name_of (get_or xs k d) ≡ name_of (get_or xs i d) → ⊥

  pub number_read : (i : ℕ) → i < length xs → IsFirst i → number_of (name_at i) ≡ Some i
  number_read i within first =
      let d = (entry_at xs i within).0 in
      let is = name_at_is i d within in
      let p : X → Bool = λ x. bytes_eq (name_of x) (name_at i) in
      let here : p (get_or xs i d) ≡ true = (bytes_eq-Decides (name_of (get_or xs i d)) (name_at i)).1 (sym is) in
      let place : position_or_len p xs ≡ i =
      position_or_len_is p xs i d (omega (arith, within)) (λ k below. bytes_eq-other (name_of (get_or xs k d)) (name_at i) (λ e. first k d below (e ∙ is))) (λ _. here) in
      ap (λ (k : ℕ). cond (ltb k (length xs)) (Some k) None) place ∙ ap (λ (b : Bool). cond b (Some i) None) (lt-ltb i (length xs) within)

  pub distinct_first : AreDistinct (map name_of xs) → (i : ℕ) → i < length xs → IsFirst i
  distinct_first distinct i within k d below e =
      distinct k i [] below (omega (arith, length-map xs name_of, within))
      (get_or-map name_of xs k d [] (omega (arith, within, below)) ∙ e ∙ sym (get_or-map name_of xs i d [] within))

-- ---- variables, actions, and values

module _ (m : Process) (lawful : IsLawful m) where
  pub var_is_word : (i : ℕ) → i < length m.vars → IsWord (var_name m i)
  var_is_word i within =
      let d = (entry_at m.vars i within).0 in
      subst (λ (w : List ℕ). IsWord w) (sym (name_at_is (λ (x : Var). x.name) m.vars i d within))
      (plain_word (get_or m.vars i d).name (name_plain (get_or m.vars i d).name (lawful.vars_named i d within)))

  pub action_is_word : (a : ℕ) → a < length m.actions → IsWord (action_name m a)
  action_is_word a within =
      let d = (entry_at m.actions a within).0 in
      subst (λ (w : List ℕ). IsWord w) (sym (name_at_is (λ (x : Action). x.name) m.actions a d within))
      (plain_word (get_or m.actions a d).name (name_plain (get_or m.actions a d).name (lawful.actions a d within).named))

  pub var_read : (i : ℕ) → i < length m.vars → var_number m.vars (var_name m i) ≡ Some i
  var_read i within = number_read (λ (x : Var). x.name) m.vars i within (distinct_first (λ (x : Var). x.name) m.vars lawful.vars_distinct i within)

  pub action_read : (a : ℕ) → a < length m.actions → action_number m.actions (action_name m a) ≡ Some a
  action_read a within = number_read (λ (x : Action). x.name) m.actions a within (distinct_first (λ (x : Action). x.name) m.actions lawful.actions_distinct a within)

pub var_told : (m : Process) (w : List ℕ) (i : ℕ) → var_number m.vars w ≡ Some i → (i < length m.vars) × (w ≡ var_name m i)
var_told m w i e = number_told (λ (x : Var). x.name) m.vars w i e

pub action_told : (m : Process) (w : List ℕ) (a : ℕ) → action_number m.actions w ≡ Some a → (a < length m.actions) × (w ≡ action_name m a)
action_told m w a e = number_told (λ (x : Action). x.name) m.actions w a e

-- ---- `variable=value`

abbrev pub pair_word : Var → ℕ → List ℕ
pair_word var v = var.name ++ codes "=" ++ value_name var v

regroup : (var : Var) (v : ℕ) → pair_word var v ≡ var.name ++ 61 ∷ value_name var v
regroup var v = append_assoc var.name (codes "=") (value_name var v)

pub pair_told : (var : Var) (w : List ℕ) (v : ℕ) → pair_value var w ≡ Some v → (v < length var.values) × (w ≡ pair_word var v)
pair_told var w v e = by (ltb (position_or_len is_equals w) (length w)) refl e
  where
    named : (n : ℕ) → n ≡ position_or_len is_equals w → n < length w → (b : Bool) → bytes_eq (take n w) var.name ≡ b → cond b (value_number var.values (drop (n + 1) w)) None ≡ Some v
        → (v < length var.values) × (w ≡ pair_word var v)
    named n at within false t is = absurd cc
    named n at within true t is =
        let value = number_told (λ (x : List ℕ). x) var.values (drop (n + 1) w) v is in
        let name : take n w ≡ var.name = (bytes_eq-Decides (take n w) var.name).0 t in
        let inside : position_or_len is_equals w < length w = omega (arith, at, within) in
        let byte : get_or w n 0 ≡ 61 = eqb-true (get_or w n 0) 61 (ap (λ (k : ℕ). is_equals (get_or w k 0)) at ∙ passes_at_first is_equals w 0 inside) in
        let parts : w ≡ take n w ++ get_or w n 0 ∷ drop (n + 1) w = sym (take-append-drop n w) ∙ ap (λ (l : List ℕ). take n w ++ l) (drop_more w n 0 within) in
        (value.0, parts ∙ (λ i. name i ++ byte i ∷ value.1 i) ∙ sym (regroup var v))

    by : (b : Bool) → ltb (position_or_len is_equals w) (length w) ≡ b → pair_from var w (cond b (Some (position_or_len is_equals w)) None) ≡ Some v → (v < length var.values) × (w ≡ pair_word var v)
    by false t is = absurd cc
    by true t is = named (position_or_len is_equals w) refl (ltb-true (position_or_len is_equals w) (length w) t) (bytes_eq (take (position_or_len is_equals w) w) var.name) refl is

module _ (var : Var) (named : IsTrue (is_name var.name)) (has : HasValues var) (v : ℕ) (within : v < length var.values) where
  value_is_plain : list_all is_plain (value_name var v) ≡ true
  value_is_plain =
      subst (λ (w : List ℕ). list_all is_plain w ≡ true) (sym (name_at_is (λ (w : List ℕ). w) var.values v [] within))
      (value_plain (get_or var.values v []) (has.named v [] within))

  pub pair_is_word : IsWord (pair_word var v)
  pair_is_word = word_append (var.name ++ codes "=") (value_name var v) (word_append var.name (codes "=") (plain_word var.name (name_plain var.name named)) refl) (plain_word (value_name var v) value_is_plain)

  pub pair_is_pair : is_pair (pair_word var v) ≡ true
  pair_is_pair =
      let none : count_by is_equals (value_name var v) ≡ 0 = ap (count_by is_equals) (sym (append-nil (value_name var v))) ∙ no_equals (value_name var v) [] value_is_plain in
      let one : count_by is_equals (pair_word var v) ≡ 1 + count_by is_equals (value_name var v) =
      ap (count_by is_equals) (regroup var v) ∙ no_equals var.name (61 ∷ value_name var v) (name_plain var.name named) ∙ sum_by-cons one_for 61 (value_name var v) in
      eq-eqb (count_by is_equals (pair_word var v)) 1 (omega (arith, one, none))

  pub pair_read : pair_value var (pair_word var v) ≡ Some v
  pair_read =
      let value = value_name var v in
      ap (pair_value var) (regroup var v)
      ∙ ap (pair_from var (var.name ++ 61 ∷ value)) (first_found is_equals var.name 61 value (plain_differs var.name (name_plain var.name named)) refl)
      ∙ (λ i. cond (bytes_eq (front_at var.name 61 value i) var.name) (value_number var.values (behind_at var.name 61 value i)) None)
      ∙ ap (λ b. cond b (value_number var.values value) None) ((bytes_eq-Decides var.name var.name).1 refl)
      ∙ number_read (λ (w : List ℕ). w) var.values v within (λ k d below e. has.distinct k v d below within e)
