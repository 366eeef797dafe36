-- Reading the text of a number gives the decimal that it writes, and no other.
use Rattle.std.proofs.Common.{◌≡◌, ◌≢◌, ℕ, suc, ◌+◌, ◌^◌, ◌<◌, ◌≤◌, ◌⊎◌, inl, inr, Bool, true, false, cond, ◌||◌, eqb, List, [], ◌∷◌, ◌++◌, length, get_or, Option, Some, None, ℤ, pos, ◌-ℤ◌, refl, sym, ap, subst, ◌∙◌, arith, append-nil}
use Rattle.std.proofs.lemmas.List.{take-append-drop}
use Rattle.std.proofs.lemmas.Bool.Decides.{nat_tests}
use Rattle.std.specs.List.{list_all, prefix_len}
use Rattle.std.specs.Char.{is_ascii_digit}
use Rattle.std.specs.Str.Parse.{AllDigits, digits_value}
use Rattle.spd_scaled.specs.declared.decimal.Decimal.{Decimal}
use Rattle.spd_scaled.specs.Decimal.{Sign, bare, plus, minus, sign_bytes, is_minus, Exponent, Numeral, fraction_text, exponent_text, numeral_text, digits_behind, IsExponent, IsNumeral, digits_of, with_sign, exponent_of, places_of, IsLowest, Writes}
use Rattle.spd_scaled.specs.DecimalReading.{sign_at, digits_at, fraction_at, exponent_at, exponent_step, are_exponent_digits, lowest_of, number_step, decimal_of}
use Rattle.spd_scaled.proofs.DecimalParts.{sign_at-other, fraction_at-other, AllDigits-digits_at, AllDigits-fraction_at, AllDigits-append, AllDigits-list_all, list_all-AllDigits, is_digit}
use Rattle.spd_scaled.proofs.DecimalValue.{lowest_of-told, lowest_of-every}

-- ---- each part is spelled as it is read

record SignRead (text : List ℕ) (read : Bool × List ℕ) : Type 0 where
  sign : Sign
  spelled : text ≡ sign_bytes sign ++ read.1
  says : is_minus sign ≡ read.0

sign_read : (text : List ℕ) → SignRead text (sign_at text)
unfolding sign_at
sign_read [] = record { sign = bare; spelled = refl; says = refl }
sign_read (c ∷ cs) = by_minus (eqb c 45) refl
  where
    by_plus : (b : Bool) → eqb c 43 ≡ b → SignRead (c ∷ cs) (cond b (false, cs) (false, c ∷ cs))
    by_plus true e = let is : c ≡ 43 = grind (arith, nat_tests) in record { sign = plus; spelled = ap (λ (k : ℕ). k ∷ cs) is; says = refl }
    by_plus false e = record { sign = bare; spelled = refl; says = refl }

    by_minus : (b : Bool) → eqb c 45 ≡ b → SignRead (c ∷ cs) (cond b (true, cs) (cond (eqb c 43) (false, cs) (false, c ∷ cs)))
    by_minus true e = let is : c ≡ 45 = grind (arith, nat_tests) in record { sign = minus; spelled = ap (λ (k : ℕ). k ∷ cs) is; says = refl }
    by_minus false e = by_plus (eqb c 43) refl

digits_read : (text : List ℕ) → text ≡ (digits_at text).0 ++ (digits_at text).1
unfolding digits_at
digits_read text = sym (take-append-drop (prefix_len is_ascii_digit text) text)

record FractionRead (text : List ℕ) (read : List ℕ × List ℕ) : Type 0 where
  fraction : Option (List ℕ)
  spelled : text ≡ fraction_text fraction ++ read.1
  says : digits_behind fraction ≡ read.0

fraction_read : (text : List ℕ) → FractionRead text (fraction_at text)
unfolding fraction_at
fraction_read [] = record { fraction = None; spelled = refl; says = refl }
fraction_read (c ∷ cs) = by_point (eqb c 46) refl
  where
    by_point : (b : Bool) → eqb c 46 ≡ b → FractionRead (c ∷ cs) (cond b (digits_at cs) ([], c ∷ cs))
    by_point true e =
        let is : c ≡ 46 = grind (arith, nat_tests) in
        record { fraction = Some (digits_at cs).0; spelled = ap (λ (k : ℕ). k ∷ cs) is ∙ ap (λ (l : List ℕ). 46 ∷ l) (digits_read cs); says = refl }
    by_point false e = record { fraction = None; spelled = refl; says = refl }

record ExponentRead (text : List ℕ) (value : ℤ) : Type 0 where
  exponent : Option Exponent
  spelled : text ≡ exponent_text exponent
  formed : IsExponent exponent
  says : exponent_of exponent ≡ value

letter_of : (c : ℕ) → (eqb c 101 || eqb c 69) ≡ true → (c ≡ 101) ⊎ (c ≡ 69)
letter_of c e = by_lower (eqb c 101) refl e
  where
    by_lower : (b : Bool) → eqb c 101 ≡ b → (b || eqb c 69) ≡ true → (c ≡ 101) ⊎ (c ≡ 69)
    by_lower true e all = inl (grind (arith, nat_tests))
    by_lower false e all = inr (grind (arith, nat_tests))

step_read : (c : ℕ) (cs : List ℕ) (value : ℤ) → (c ≡ 101) ⊎ (c ≡ 69) → exponent_step (sign_at cs) ≡ Some value → ExponentRead (c ∷ cs) value
step_read c cs value letter e = by_digits (are_exponent_digits (sign_at cs).1) refl e
  where
    by_digits : (b : Bool) → are_exponent_digits (sign_at cs).1 ≡ b → cond b (Some (with_sign (sign_at cs).0 (digits_value 10 (sign_at cs).1))) None ≡ Some value → ExponentRead (c ∷ cs) value
    by_digits false t e = absurd (cc)
    by_digits true t e =
        let read = sign_read cs in
        let all : list_all is_ascii_digit (sign_at cs).1 ≡ true = grind (arith, nat_tests) in
        let least : 1 ≤ length (sign_at cs).1 = grind (arith, nat_tests) in
        let most : length (sign_at cs).1 ≤ 2 = grind (arith, nat_tests) in
        let same : with_sign (sign_at cs).0 (digits_value 10 (sign_at cs).1) ≡ value = cc in
        record {
          exponent = Some (record { letter = c; sign = read.sign; digits = (sign_at cs).1 });
          spelled = ap (λ (l : List ℕ). c ∷ l) read.spelled;
          formed = (letter, AllDigits-list_all (sign_at cs).1 all, least, most);
          says = ap (λ (b : Bool). with_sign b (digits_value 10 (sign_at cs).1)) read.says ∙ same;
        }

exponent_read : (text : List ℕ) (value : ℤ) → exponent_at text ≡ Some value → ExponentRead text value
unfolding exponent_at
exponent_read [] value e = let same : pos 0 ≡ value = cc in record { exponent = None; spelled = refl; formed = tt; says = same }
exponent_read (c ∷ cs) value e = by_letter (eqb c 101 || eqb c 69) refl e
  where
    by_letter : (b : Bool) → (eqb c 101 || eqb c 69) ≡ b → cond b (exponent_step (sign_at cs)) None ≡ Some value → ExponentRead (c ∷ cs) value
    by_letter true t e = step_read c cs value (letter_of c t) e
    by_letter false t e = absurd (cc)

-- ---- what is read is written

record NumberRead (negative : Bool) (whole fraction : List ℕ) (exponent : Option ℤ) (d : Decimal) : Type 0 where
  value : ℤ
  is : exponent ≡ Some value
  some : 0 < length (whole ++ fraction)
  lowest : lowest_of negative (whole ++ fraction) (pos (length fraction) -ℤ value) ≡ Some d

number_read : (negative : Bool) (whole fraction : List ℕ) (exponent : Option ℤ) (d : Decimal) → number_step negative whole fraction exponent ≡ Some d → NumberRead negative whole fraction exponent d
number_read negative whole fraction None d e = absurd (cc)
number_read negative whole fraction (Some value) d e = by_empty (eqb (length (whole ++ fraction)) 0) refl e
  where
    by_empty : (b : Bool) → eqb (length (whole ++ fraction)) 0 ≡ b → cond b None (lowest_of negative (whole ++ fraction) (pos (length fraction) -ℤ value)) ≡ Some d
        → NumberRead negative whole fraction (Some value) d
    by_empty true t e = absurd (cc)
    by_empty false t e = record { value = value; is = refl; some = grind (arith, nat_tests); lowest = e }

writes_from : (text u af : List ℕ) (negative : Bool) (w f : List ℕ) (d : Decimal) → SignRead text (negative, u) → AllDigits 10 w → AllDigits 10 f → (aw : List ℕ) → u ≡ w ++ aw → FractionRead aw (f, af)
    → NumberRead negative w f (exponent_at af) d → Writes text d
writes_from text u af negative w f d s all_w all_f aw is_u fr nr =
    let er = exponent_read af nr.value nr.is in
    let told = lowest_of-told negative (w ++ f) (pos (length f) -ℤ nr.value) d (AllDigits-append w f all_w all_f) nr.lowest in
    record {
      numeral = record { sign = s.sign; whole = w; fraction = fr.fraction; exponent = er.exponent };
      spelled = s.spelled ∙ ap (λ (l : List ℕ). sign_bytes s.sign ++ l) (is_u ∙ ap (λ (l : List ℕ). w ++ l) (fr.spelled ∙ ap (λ (l : List ℕ). fraction_text fr.fraction ++ l) er.spelled));
      formed = record {
        whole = all_w;
        fraction = subst (AllDigits 10) (sym fr.says) all_f;
        some = subst (λ (l : List ℕ). 0 < length (w ++ l)) (sym fr.says) nr.some;
        exponent = er.formed;
      };
      value = rw (s.says, fr.says, er.says) told.0;
      few = told.1;
    }

pub decimal_of-writes : (text : List ℕ) (d : Decimal) → decimal_of text ≡ Some d → Writes text d
unfolding decimal_of
decimal_of-writes text d e =
    let u = (sign_at text).1 in
    let aw = (digits_at u).1 in
    writes_from text u (fraction_at aw).1 (sign_at text).0 (digits_at u).0 (fraction_at aw).0 d (sign_read text) (AllDigits-digits_at u) (AllDigits-fraction_at aw) aw (digits_read u) (fraction_read aw)
    (number_read (sign_at text).0 (digits_at u).0 (fraction_at aw).0 (exponent_at (fraction_at aw).1) d e)

-- ---- each part is read as it is spelled

digit_first : (ds rest : List ℕ) → AllDigits 10 ds → 0 < length ds → (c : ℕ) → is_ascii_digit c ≡ false → get_or (ds ++ rest) 0 0 ≢ c
digit_first [] rest all some c other = absurd (omega arith)
digit_first (d ∷ ds) rest all some c other = λ same. let digit = is_digit d all.0 in absurd (grind (arith, nat_tests, digit, other, same))

sign_again : (sign : Sign) (rest : List ℕ) → get_or rest 0 0 ≢ 45 → get_or rest 0 0 ≢ 43 → sign_at (sign_bytes sign ++ rest) ≡ (is_minus sign, rest)
unfolding sign_at
sign_again bare rest no_minus no_plus = sign_at-other rest no_minus no_plus
sign_again plus rest no_minus no_plus = refl
sign_again minus rest no_minus no_plus = refl

digits_again : (ds rest : List ℕ) → AllDigits 10 ds → is_ascii_digit (get_or rest 0 0) ≡ false → digits_at (ds ++ rest) ≡ (ds, rest)
unfolding digits_at
digits_again [] [] all stop = refl
digits_again [] (c ∷ cs) all stop = rw stop refl
digits_again (d ∷ ds) rest all stop =
    let first = is_digit d all.0 in
    let more = digits_again ds rest all.1 stop in
    let n : 1 + prefix_len is_ascii_digit (ds ++ rest) ≡ suc (prefix_len is_ascii_digit (ds ++ rest)) = omega arith in
    rw (first, n) (ap (λ (p : List ℕ × List ℕ). (d ∷ p.0, p.1)) more)

fraction_again : (fraction : Option (List ℕ)) (rest : List ℕ) → AllDigits 10 (digits_behind fraction) → is_ascii_digit (get_or rest 0 0) ≡ false → get_or rest 0 0 ≢ 46
    → fraction_at (fraction_text fraction ++ rest) ≡ (digits_behind fraction, rest)
unfolding fraction_at
fraction_again None rest all stop no_point = fraction_at-other rest no_point
fraction_again (Some ds) rest all stop no_point = digits_again ds rest all stop

letter_again : (c : ℕ) → (c ≡ 101) ⊎ (c ≡ 69) → (eqb c 101 || eqb c 69) ≡ true
letter_again c (inl e) = grind (arith, nat_tests)
letter_again c (inr e) = grind (arith, nat_tests)

exponent_again : (exponent : Option Exponent) → IsExponent exponent → exponent_at (exponent_text exponent) ≡ Some (exponent_of exponent)
unfolding exponent_at
exponent_again None formed = refl
exponent_again (Some e) formed =
    let all = list_all-AllDigits e.digits formed.1 in
    let are : are_exponent_digits e.digits ≡ true = grind (arith, nat_tests, all, formed.2, formed.3) in
    let same : e.digits ++ [] ≡ e.digits = append-nil e.digits in
    let no_minus : get_or e.digits 0 0 ≢ 45 = subst (λ (l : List ℕ). get_or l 0 0 ≢ 45) same (digit_first e.digits [] formed.1 formed.2 45 refl) in
    let no_plus : get_or e.digits 0 0 ≢ 43 = subst (λ (l : List ℕ). get_or l 0 0 ≢ 43) same (digit_first e.digits [] formed.1 formed.2 43 refl) in
    rw (letter_again e.letter formed.0, sign_again e.sign e.digits no_minus no_plus, are) refl

-- behind the digits of a number stands no digit, and no point behind its fraction
exponent_first : (exponent : Option Exponent) → IsExponent exponent → (is_ascii_digit (get_or (exponent_text exponent) 0 0) ≡ false) × (get_or (exponent_text exponent) 0 0 ≢ 46)
exponent_first None formed = (refl, omega arith)
exponent_first (Some e) formed = by_letter formed.0
  where
    by_letter : (e.letter ≡ 101) ⊎ (e.letter ≡ 69) → (is_ascii_digit e.letter ≡ false) × (e.letter ≢ 46)
    by_letter (inl is) = (rw is refl, omega arith)
    by_letter (inr is) = (rw is refl, omega arith)

fraction_first : (fraction : Option (List ℕ)) (rest : List ℕ) → is_ascii_digit (get_or rest 0 0) ≡ false → is_ascii_digit (get_or (fraction_text fraction ++ rest) 0 0) ≡ false
fraction_first None rest stop = stop
fraction_first (Some ds) rest stop = refl

-- a number begins with no sign behind its own
number_first : (whole : List ℕ) (fraction : Option (List ℕ)) (rest : List ℕ) → AllDigits 10 whole → 0 < length (whole ++ digits_behind fraction) → (c : ℕ) → is_ascii_digit c ≡ false → c ≢ 46
    → get_or (whole ++ (fraction_text fraction ++ rest)) 0 0 ≢ c
number_first [] None rest all some c other no_point = absurd (omega arith)
number_first [] (Some ds) rest all some c other no_point = λ e. no_point (sym e)
number_first (d ∷ ds) fraction rest all some c other no_point = digit_first (d ∷ ds) (fraction_text fraction ++ rest) all (omega arith) c other

again : (n : Numeral) (d : Decimal) → IsNumeral n → IsLowest (is_minus n.sign) (digits_of n) (places_of n) d → d.digits < 10 ^ 38 → decimal_of (numeral_text n) ≡ Some d
unfolding decimal_of
again n d formed value few =
    let ends = exponent_first n.exponent formed.exponent in
    let number = n.whole ++ (fraction_text n.fraction ++ exponent_text n.exponent) in
    let sign = sign_again n.sign number (number_first n.whole n.fraction (exponent_text n.exponent) formed.whole formed.some 45 refl (omega arith)) (number_first n.whole n.fraction (exponent_text n.exponent) formed.whole formed.some 43 refl (omega arith)) in
    let whole = digits_again n.whole (fraction_text n.fraction ++ exponent_text n.exponent) formed.whole (fraction_first n.fraction (exponent_text n.exponent) ends.0) in
    let fraction = fraction_again n.fraction (exponent_text n.exponent) formed.fraction ends.0 ends.1 in
    let exponent = exponent_again n.exponent formed.exponent in
    let some : eqb (length (n.whole ++ digits_behind n.fraction)) 0 ≡ false = grind (arith, nat_tests) in
    rw (sign, whole, fraction, exponent, some)
    (lowest_of-every (is_minus n.sign) (n.whole ++ digits_behind n.fraction) (places_of n) d (AllDigits-append n.whole (digits_behind n.fraction) formed.whole formed.fraction) value few)

pub decimal_of-every : (text : List ℕ) (d : Decimal) → Writes text d → decimal_of text ≡ Some d
decimal_of-every text d w = ap decimal_of w.spelled ∙ again w.numeral d w.formed w.value w.few
