-- A line that begins with a pair.
use Rattle.std.proofs.Common.{◌≡◌, ℕ, ◌+◌, ◌<◌, ◌≤◌, ⊎_elim, true, false, Bool, not, List, [], ◌∷◌, ◌++◌, length, take, drop, Option, Some, None, refl, sym, ap, ◌∙◌, subst, arith, append_assoc, append-nil, length-append}
use Rattle.std.specs.Prelude.{◌&&◌, ◌||◌, ◌==◌, nat_le, IsTrue, option_map, slice_get}
use Rattle.std.specs.List.{position_or_len, list_all}
use Rattle.std.specs.Char.{is_ascii_alphabetic, is_ascii_alphanumeric}
use Rattle.std.specs.Int.{is_in_range}
use Rattle.std.proofs.Math.ListN.{get_or}
use Rattle.std.proofs.lemmas.Bool.{true≢false, ne_eqb, and_parts, and_from, or_from, or_right, or_cases, not-true, not_from_false, leb-true, le-leb}
use Rattle.std.proofs.lemmas.Bool.Decides.{Decides-eqb}
use Rattle.std.proofs.lemmas.List.{take_at, drop_at, drop-drop}
use Rattle.std.proofs.lemmas.List.Folds.{list_all-append}
use Rattle.std.proofs.lemmas.Option.{slice_get-get_or}
use Rattle.spd_model.specs.declared.process.Var.{Var}
use Rattle.spd_model.specs.Lawful.{HasValues}
use Rattle.spd_model.specs.Names.{is_name, has_name_form, has_value_form}
use Rattle.spd_query.specs.Lines.{is_blank, may_stand, is_equals, words_of, sides_of, numbers_of, var_number, value_number}
use Rattle.spd_query.specs.inner.Places.{AreVars, IsAtWord, Stands, ends_word, BeginsWithValue, BeginsWithPair}
use Rattle.spd_query.proofs.WordLaws.{words-first, sides-both}
use Rattle.spd_query.proofs.NameLaws.{var-here, value-here}

-- ---- names hold no blank and no `=`

abbrev is_plain : ℕ → Bool
is_plain byte = not (is_blank byte) && not (is_equals byte)

not-blank : (byte : ℕ) → is_plain byte ≡ true → is_blank byte ≡ false
not-blank byte h = not-true (is_blank byte) (and_parts (not (is_blank byte)) (not (is_equals byte)) h).0

not-equals : (byte : ℕ) → is_plain byte ≡ true → is_equals byte ≡ false
not-equals byte h = not-true (is_equals byte) (and_parts (not (is_blank byte)) (not (is_equals byte)) h).1

differs : (test : ℕ → Bool) (k byte : ℕ) → test k ≡ false → test byte ≡ true → byte == k ≡ false
differs test k byte failing passes = ne_eqb byte k (λ same. true≢false (sym passes ∙ ap test same ∙ failing))

-- a byte that passes a test that blanks and `=` fail
plain-byte : (test : ℕ → Bool) → test 32 ≡ false → test 9 ≡ false → test 13 ≡ false → test 61 ≡ false → (byte : ℕ) → test byte ≡ true → is_plain byte ≡ true
plain-byte test a b c d byte passes =
    and_from (not (is_blank byte)) (not (is_equals byte))
    (not_from_false (is_blank byte) (or_from (byte == 32) (byte == 9 || byte == 13) (differs test 32 byte a passes) (or_from (byte == 9) (byte == 13) (differs test 9 byte b passes) (differs test 13 byte c passes))))
    (not_from_false (is_equals byte) (differs test 61 byte d passes))

plain-all : (test : ℕ → Bool) → test 32 ≡ false → test 9 ≡ false → test 13 ≡ false → test 61 ≡ false → (bytes : List ℕ) → list_all test bytes ≡ true → list_all is_plain bytes ≡ true
plain-all test a b c d [] h = refl
plain-all test a b c d (byte ∷ bytes) h =
    let parts = and_parts (test byte) (list_all test bytes) h in
    and_from (is_plain byte) (list_all is_plain bytes) (plain-byte test a b c d byte parts.0) (plain-all test a b c d bytes parts.1)

-- ---- the bytes of names may stand in a line

either : (byte : ℕ) (x y : Bool) → (x ≡ true → may_stand byte ≡ true) → (y ≡ true → may_stand byte ≡ true) → (x || y) ≡ true → may_stand byte ≡ true
either byte x y one other h = ⊎_elim one other (or_cases x y h)

same-stands : (byte k : ℕ) → may_stand k ≡ true → byte == k ≡ true → may_stand byte ≡ true
same-stands byte k stands e = subst (λ (b : ℕ). may_stand b ≡ true) (sym ((Decides-eqb byte k).0 e)) stands

range-stands : (byte low high : ℕ) → 32 ≤ low → high ≤ 126 → is_in_range low high byte ≡ true → may_stand byte ≡ true
range-stands byte low high l h e =
    let parts = and_parts (nat_le low byte) (nat_le byte high) e in
    let above : low ≤ byte = leb-true low byte parts.0 in
    let below : byte ≤ high = leb-true byte high parts.1 in
    or_right (byte == 9) _ (or_right (byte == 13) _ (and_from (nat_le 32 byte) (nat_le byte 126) (le-leb 32 byte (omega arith)) (le-leb byte 126 (omega arith))))

upper-stands : (byte : ℕ) → is_in_range 65 90 byte ≡ true → may_stand byte ≡ true
upper-stands byte = range-stands byte 65 90 (omega arith) (omega arith)

lower-stands : (byte : ℕ) → is_in_range 97 122 byte ≡ true → may_stand byte ≡ true
lower-stands byte = range-stands byte 97 122 (omega arith) (omega arith)

letter-stands : (byte : ℕ) → is_ascii_alphabetic byte ≡ true → may_stand byte ≡ true
letter-stands byte = either byte (is_in_range 65 90 byte) (is_in_range 97 122 byte) (upper-stands byte) (lower-stands byte)

alphanumeric-stands : (byte : ℕ) → is_ascii_alphanumeric byte ≡ true → may_stand byte ≡ true
alphanumeric-stands byte =
    either byte (is_in_range 48 57 byte || is_in_range 65 90 byte) (is_in_range 97 122 byte)
    (either byte (is_in_range 48 57 byte) (is_in_range 65 90 byte) (range-stands byte 48 57 (omega arith) (omega arith)) (upper-stands byte)) (lower-stands byte)

stand-all : (test : ℕ → Bool) → ((byte : ℕ) → test byte ≡ true → may_stand byte ≡ true) → (bytes : List ℕ) → list_all test bytes ≡ true → Stands bytes
stand-all test each [] h = refl
stand-all test each (byte ∷ bytes) h =
    let parts = and_parts (test byte) (list_all test bytes) h in
    and_from (may_stand byte) (list_all may_stand bytes) (each byte parts.0) (stand-all test each bytes parts.1)

-- ---- a name

-- it has a byte, no blank and no `=`, and may stand in a line
abbrev IsPlain : List ℕ → Type 0
IsPlain name = (0 < length name) × (list_all is_plain name ≡ true) × Stands name

name-plain : (name : List ℕ) → has_name_form name ≡ true → IsPlain name
name-plain [] h = absurd (cc)
name-plain (c ∷ cs) h =
    let first = λ (d : ℕ). is_ascii_alphabetic d || d == 95 in
    let others = λ (d : ℕ). is_ascii_alphanumeric d || (d == 95 || d == 45) in
    let parts = and_parts (first c) (list_all others cs) h in
    let first_stands = either c (is_ascii_alphabetic c) (c == 95) (letter-stands c) (same-stands c 95 refl) parts.0 in
    let each = λ (d : ℕ). either d (is_ascii_alphanumeric d) (d == 95 || d == 45) (alphanumeric-stands d) (either d (d == 95) (d == 45) (same-stands d 95 refl) (same-stands d 45 refl)) in (
      omega arith,
      and_from (is_plain c) (list_all is_plain cs) (plain-byte first refl refl refl refl c parts.0) (plain-all others refl refl refl refl cs parts.1),
      and_from (may_stand c) (list_all may_stand cs) first_stands (stand-all others each cs parts.1),
    )

value-plain : (value : List ℕ) → has_value_form value ≡ true → IsPlain value
value-plain [] h = absurd (cc)
value-plain (c ∷ cs) h =
    let first = λ (d : ℕ). is_ascii_alphanumeric d || d == 95 in
    let others = λ (d : ℕ). is_ascii_alphanumeric d || (d == 95 || (d == 45 || d == 46)) in
    let parts = and_parts (first c) (list_all others cs) h in
    let first_stands = either c (is_ascii_alphanumeric c) (c == 95) (alphanumeric-stands c) (same-stands c 95 refl) parts.0 in
    let each = λ (d : ℕ). either d (is_ascii_alphanumeric d) (d == 95 || (d == 45 || d == 46)) (alphanumeric-stands d)
    (either d (d == 95) (d == 45 || d == 46) (same-stands d 95 refl) (either d (d == 45) (d == 46) (same-stands d 45 refl) (same-stands d 46 refl))) in (
      omega arith,
      and_from (is_plain c) (list_all is_plain cs) (plain-byte first refl refl refl refl c parts.0) (plain-all others refl refl refl refl cs parts.1),
      and_from (may_stand c) (list_all may_stand cs) first_stands (stand-all others each cs parts.1),
    )

-- ---- where a word and its name end

position-past : (p : ℕ → Bool) → ((byte : ℕ) → is_plain byte ≡ true → p byte ≡ false) → (name rest : List ℕ) → list_all is_plain name ≡ true
    → position_or_len p (name ++ rest) ≡ length name + position_or_len p rest
position-past p fails [] rest h = omega arith
position-past p fails (byte ∷ name) rest h =
    let parts = and_parts (is_plain byte) (list_all is_plain name) h in
    rw (fails byte parts.0) (omega (arith, position-past p fails name rest parts.1))

position-here : (p : ℕ → Bool) (byte : ℕ) (rest : List ℕ) → p byte ≡ true → position_or_len p (byte ∷ rest) ≡ 0
position-here p byte rest h = rw h refl

position-end : (behind : List ℕ) → ends_word behind ≡ true → position_or_len is_blank behind ≡ 0
position-end [] h = refl
position-end (byte ∷ rest) h = position-here is_blank byte rest h

at-name : (name rest : List ℕ) → IsPlain name → IsAtWord (name ++ rest)
at-name [] rest h = absurd (omega (arith, h.0))
at-name (c ∷ cs) rest h = not-blank c (and_parts (is_plain c) (list_all is_plain cs) h.1).0

-- the first word of a line that begins with a pair
word-first : (word behind : List ℕ) → 0 < length word → IsAtWord (word ++ behind) → position_or_len is_blank (word ++ behind) ≡ length word → words_of (word ++ behind) ≡ word ∷ words_of behind
word-first word behind some at ends =
    let n = position_or_len is_blank (word ++ behind) in
    let front : take n (word ++ behind) ≡ word = take_at word behind n (sym ends) in
    let rest : drop n (word ++ behind) ≡ behind = drop_at word behind n (sym ends) in
    words-first (word ++ behind) (omega (arith, length-append word behind)) at ∙ (λ i. front i ∷ words_of (rest i))

module _ (name value : List ℕ) (name_plain : IsPlain name) (value_plain : IsPlain value) where
  abbrev word : List ℕ
  word = name ++ 61 ∷ value

  word-words : (behind : List ℕ) → ends_word behind ≡ true → words_of (word ++ behind) ≡ word ∷ words_of behind
  word-words behind ends =
      let all : word ++ behind ≡ name ++ 61 ∷ (value ++ behind) = append_assoc name (61 ∷ value) behind in
      let at : IsAtWord (word ++ behind) = subst IsAtWord (sym all) (at-name name (61 ∷ (value ++ behind)) name_plain) in
      let last : position_or_len is_blank (value ++ behind) ≡ length value = omega (arith, position-past is_blank not-blank value behind value_plain.1, position-end behind ends) in
      let more : position_or_len is_blank (61 ∷ (value ++ behind)) ≡ 1 + length value = ap (λ (n : ℕ). 1 + n) last in
      let count : length word ≡ length name + (1 + length value) = omega (arith, length-append name (61 ∷ value)) in
      let whole : position_or_len is_blank (name ++ 61 ∷ (value ++ behind)) ≡ length word = omega (arith, position-past is_blank not-blank name (61 ∷ (value ++ behind)) name_plain.1, more, count) in
      word-first word behind (omega (arith, count)) at (ap (position_or_len is_blank) all ∙ whole)

  word-sides : sides_of word ≡ Some (name, value)
  word-sides =
      let n = length name in
      let zero_is : position_or_len is_equals (61 ∷ value) ≡ 0 = refl in
      let at : n ≡ position_or_len is_equals word = omega (arith, position-past is_equals not-equals name (61 ∷ value) name_plain.1, zero_is) in
      let front : take n word ≡ name = take_at name (61 ∷ value) n refl in
      let back : drop (n + 1) word ≡ value = sym (drop-drop 1 n word) ∙ ap (drop 1) (drop_at name (61 ∷ value) n refl) in
      let last : position_or_len is_equals (value ++ []) ≡ length value = omega (arith, position-past is_equals not-equals value [] value_plain.1) in
      let none : length value ≤ position_or_len is_equals value = omega (arith, ap (position_or_len is_equals) (append-nil value), last) in
      let count : length word ≡ length name + (1 + length value) = omega (arith, length-append name (61 ∷ value)) in
      sides-both word n at name_plain.0 (omega (arith, count, value_plain.0)) (subst (λ (l : List ℕ). length l ≤ position_or_len is_equals l) (sym back) none)
      ∙ (λ i. Some (front i, back i))

  word-stands : Stands word
  word-stands =
      list_all-append may_stand name (61 ∷ value)
      ∙ and_from (list_all may_stand name) (list_all may_stand (61 ∷ value)) name_plain.2 (and_from (may_stand 61) (list_all may_stand value) refl value_plain.2)

-- the numbers that two sides name
numbers-are : (vars : List Var) (name value : List ℕ) (i v : ℕ) (var : Var) → var_number vars name ≡ Some i → slice_get vars i ≡ Some var → value_number var.values value ≡ Some v
    → numbers_of vars (name, value) ≡ Some (i, v)
numbers-are vars name value i v var at there is =
    ap (λ (o : Option ℕ). elim o as (λ _. Option (ℕ × ℕ)) [ None ↦ None | Some k ↦ elim (slice_get vars k) [ None ↦ None | Some found ↦ option_map (λ n. (k, n)) (value_number found.values value) ] ]) at
    ∙ ap (λ (o : Option Var). elim o as (λ _. Option (ℕ × ℕ)) [ None ↦ None | Some found ↦ option_map (λ n. (i, n)) (value_number found.values value) ]) there
    ∙ ap (option_map (λ n. (i, n))) is

-- a variable's name, `=`, one of its values and the end of a word
pub pair-begins : (vars : List Var) (line text behind : List ℕ) (i v : ℕ) (var : Var) → AreVars vars → i < length vars → var ≡ get_or vars i var → line ≡ var.name ++ 61 ∷ text
    → BeginsWithValue var.values text v behind → BeginsWithPair vars line (i, v) behind
pair-begins vars line text behind i v var are within is begins rest =
    let value : List ℕ = get_or var.values v [] in
    let named : IsTrue (is_name var.name) = subst (λ (x : Var). IsTrue (is_name x.name)) (sym is) (are.named i var within) in
    let has : HasValues var = subst HasValues (sym is) (are.values i var within) in
    let name_plain = name-plain var.name (and_parts (has_name_form var.name) _ named).0 in
    let value_plain = value-plain value (and_parts (has_value_form value) _ (has.named v [] rest.within)).0 in
    let w = word var.name value name_plain value_plain in
    let line_is : line ≡ w ++ behind = begins ∙ ap (λ (l : List ℕ). var.name ++ 61 ∷ l) rest.begins ∙ sym (append_assoc var.name (61 ∷ value) behind) in
    let there : slice_get vars i ≡ Some var = slice_get-get_or vars i var within ∙ ap Some (sym is) in
    record {
      word = w;
      sides = (var.name, value);
      words = ap words_of line_is ∙ word-words var.name value name_plain value_plain behind rest.ends;
      parted = word-sides var.name value name_plain value_plain;
      named = numbers-are vars var.name value i v var (var-here vars i var are.distinct within is) there (value-here var.values v has.distinct rest.within);
      stands = word-stands var.name value name_plain value_plain;
      shorter = omega (arith, ap length line_is, length-append w behind, length-append var.name (61 ∷ value));
    }
