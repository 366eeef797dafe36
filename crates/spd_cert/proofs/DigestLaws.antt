-- Digests as their hexadecimal digits.
use Rattle.std.proofs.Common.{◌≡◌, ℕ, zero, suc, ◌/◌, ◌%◌, Bool, true, false, cond, not, List, [], ◌∷◌, length, get_or, Some, None, Result, Ok, Err, refl, sym, ap, subst, ◌∙◌, arith}
use Rattle.std.specs.Prelude.{bytes_eq}
use Rattle.std.specs.List.{list_all}
use Rattle.std.proofs.lemmas.Bool.{and_parts, and_from}
use Rattle.std.proofs.lemmas.Slice.Eq.{bytes_eq-Decides}
use Rattle.hex.specs.declared.error.FromHexError.{FromHexError}
use Rattle.hex.specs.Hex.{IsBytes, lower_digits, encode_with, encode_lower, decode_sized}
use Rattle.hex.proofs.HexLemmas.{decode_sized-ok, decode_sized-twice, decode_of-ok, decode_sized-encode_lower}
use Rattle.spd_cert.specs.Grammar.{IsWord}
use Rattle.spd_cert.specs.Reading.{is_break}
use Rattle.spd_cert.specs.Words.{same_digits, digest_of}

pub digest_told : (w d : List ℕ) → digest_of w ≡ Some d → (w ≡ encode_lower d) × (length d ≡ 32) × IsBytes d
unfolding digest_of
digest_told w d e = by (decode_sized w 32) refl e
  where
    found : (b : List ℕ) → decode_sized w 32 ≡ Ok b → (t : Bool) → bytes_eq (encode_lower b) w ≡ t → cond t (Some b) None ≡ Some d → (w ≡ encode_lower d) × (length d ≡ 32) × IsBytes d
    found b read false t is = absurd cc
    found b read true t is =
        let same : b ≡ d = cc in
        let long = decode_sized-ok w 32 b read in
        let told = decode_of-ok w b (sym (decode_sized-twice w 32 long) ∙ read) in
        subst (λ (x : List ℕ). (w ≡ encode_lower x) × (length x ≡ 32) × IsBytes x) same (sym ((bytes_eq-Decides (encode_lower b) w).0 t), omega (arith, long, told.2), told.3)

    by : (r : Result (List ℕ) FromHexError) → decode_sized w 32 ≡ r → same_digits w r ≡ Some d → (w ≡ encode_lower d) × (length d ≡ 32) × IsBytes d
    by (Err x) read is = absurd cc
    by (Ok b) read is = found b read (bytes_eq (encode_lower b) w) refl is

pub digest_read : (d : List ℕ) → length d ≡ 32 → IsBytes d → digest_of (encode_lower d) ≡ Some d
unfolding digest_of
digest_read d long bytes =
    ap (same_digits (encode_lower d)) (decode_sized-encode_lower d 32 long bytes) ∙ ap (λ b. cond b (Some d) None) ((bytes_eq-Decides (encode_lower d) (encode_lower d)).1 refl)

-- no digit is a space or LF
digit_at : (xs : List ℕ) → IsWord xs → (i : ℕ) → not (is_break (get_or xs i 0)) ≡ true
digit_at [] h i = refl
digit_at (c ∷ cs) h zero = (and_parts (not (is_break c)) (list_all (λ d. not (is_break d)) cs) h).0
digit_at (c ∷ cs) h (suc i) = digit_at cs (and_parts (not (is_break c)) (list_all (λ d. not (is_break d)) cs) h).1 i

pub digest_is_word : (d : List ℕ) → IsWord (encode_lower d)
unfolding encode_with
digest_is_word [] = refl
digest_is_word (b ∷ bs) =
    let high = digit_at lower_digits refl (b / 16) in
    let low = digit_at lower_digits refl (b % 16) in
    and_from (not (is_break (get_or lower_digits (b / 16) 0))) _ high (and_from (not (is_break (get_or lower_digits (b % 16) 0))) _ low (digest_is_word bs))
