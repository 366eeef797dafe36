-- The digest that bytes name is the one of their first two lines.
use Rattle.std.proofs.Common.{◌≡◌, ℕ, ◌≤◌, Bool, true, false, cond, eqb, ltb, List, [], ◌∷◌, ◌++◌, length, take, drop, get_or, codes, Option, Some, None, refl, sym, ap, ◌∙◌, arith, append_assoc, length-append}
use Rattle.std.specs.Prelude.{bytes_eq, IfSome}
use Rattle.std.proofs.lemmas.Bool.{eqb-true, eq-eqb, ltb-false, le-ltb}
use Rattle.std.proofs.lemmas.List.{take-append-drop, take_at, drop-drop, drop_more}
use Rattle.std.proofs.lemmas.Slice.Eq.{bytes_eq-Decides}
use Rattle.hex.specs.Hex.{lower_digits, encode_lower}
use Rattle.hex.proofs.HexLemmas.{length-encode_with}
use Rattle.spd_model.specs.ResultText.{line}
use Rattle.spd_cert.specs.Grammar.{version_lines, NamesModel}
use Rattle.spd_cert.specs.Words.{digest_of}
use Rattle.spd_cert.specs.inner.Naming.{before_digest, named_of}
use Rattle.spd_cert.proofs.WordLaws.{byte_at}
use Rattle.spd_cert.proofs.LineLaws.{line_is}
use Rattle.spd_cert.proofs.DigestLaws.{digest_told, digest_read}

-- the first two lines and what stands behind
lines_are : (d rest : List ℕ) → version_lines (Some d) ++ rest ≡ before_digest ++ (encode_lower d ++ 10 ∷ rest)
lines_are d rest =
    let first = line (codes "spd" ∷ codes "result" ∷ codes "2" ∷ []) in
    append_assoc first (line (codes "model" ∷ encode_lower d ∷ [])) rest ∙ ap (λ (t : List ℕ). first ++ t) (line_is (codes "model" ∷ encode_lower d ∷ []) rest)

parts_are : (bytes d : List ℕ) → 84 ≤ length bytes → take 19 bytes ≡ before_digest → get_or bytes 83 0 ≡ 10 → take 64 (drop 19 bytes) ≡ encode_lower d → bytes ≡ before_digest ++ (encode_lower d ++ 10 ∷ drop 84 bytes)
parts_are bytes d long front byte digits =
    let behind : drop 64 (drop 19 bytes) ≡ 10 ∷ drop 84 bytes = drop-drop 64 19 bytes ∙ drop_more bytes 83 0 (omega (arith, long)) ∙ ap (λ (b : ℕ). b ∷ drop 84 bytes) byte in
    sym (take-append-drop 19 bytes) ∙ (λ i. front i ++ sym (take-append-drop 64 (drop 19 bytes)) i) ∙ (λ i. before_digest ++ (digits i ++ behind i))

pub named_told : (bytes d : List ℕ) → named_of bytes ≡ Some d → NamesModel bytes d
unfolding named_of
named_told bytes d e = by_length (ltb (length bytes) 84) refl e
  where
    by_byte : 84 ≤ length bytes → take 19 bytes ≡ before_digest → (b : Bool) → eqb (get_or bytes 83 0) 10 ≡ b → cond b (digest_of (take 64 (drop 19 bytes))) None ≡ Some d → NamesModel bytes d
    by_byte long front false t is = absurd cc
    by_byte long front true t is =
        let digest = digest_told (take 64 (drop 19 bytes)) d is in
        record {
          rest = drop 84 bytes;
          begins = parts_are bytes d long front (eqb-true (get_or bytes 83 0) 10 t) digest.0 ∙ sym (lines_are d (drop 84 bytes));
          long = digest.1;
          digits = digest.2;
        }

    by_front : 84 ≤ length bytes → (b : Bool) → bytes_eq (take 19 bytes) before_digest ≡ b → cond b (cond (eqb (get_or bytes 83 0) 10) (digest_of (take 64 (drop 19 bytes))) None) None ≡ Some d → NamesModel bytes d
    by_front long false t is = absurd cc
    by_front long true t is = by_byte long ((bytes_eq-Decides (take 19 bytes) before_digest).0 t) (eqb (get_or bytes 83 0) 10) refl is

    by_length : (b : Bool) → ltb (length bytes) 84 ≡ b
        → cond b None (cond (bytes_eq (take 19 bytes) before_digest) (cond (eqb (get_or bytes 83 0) 10) (digest_of (take 64 (drop 19 bytes))) None) None) ≡ Some d → NamesModel bytes d
    by_length true t is = absurd cc
    by_length false t is = by_front (ltb-false (length bytes) 84 t) (bytes_eq (take 19 bytes) before_digest) refl is

pub named_read : (bytes d : List ℕ) → NamesModel bytes d → named_of bytes ≡ Some d
unfolding named_of
named_read bytes d names =
    let digits = encode_lower d in
    let tail = digits ++ 10 ∷ names.rest in
    let whole = before_digest ++ tail in
    let long : length digits ≡ 64 = omega (arith, length-encode_with lower_digits d, names.long) in
    let enough : ltb (length whole) 84 ≡ false = le-ltb (length whole) 84 (omega (arith, length-append before_digest tail, length-append digits (10 ∷ names.rest), long)) in
    let byte : get_or tail 64 0 ≡ 10 = ap (λ (n : ℕ). get_or tail n 0) (sym long) ∙ byte_at digits 10 names.rest in
    let read : digest_of (take 64 tail) ≡ Some d = ap digest_of (take_at digits (10 ∷ names.rest) 64 long) ∙ digest_read d names.long names.digits in
    ap named_of (names.begins ∙ lines_are d names.rest)
    ∙ ap (λ (b : Bool). cond b None (cond (bytes_eq (take 19 whole) before_digest) (cond (eqb (get_or whole 83 0) 10) (digest_of (take 64 (drop 19 whole))) None) None)) enough
    ∙ ap (λ (b : Bool). cond b (digest_of (take 64 tail)) None) (eq-eqb (get_or tail 64 0) 10 byte)
    ∙ read

pub some_named : (bytes : List ℕ) (o : Option (List ℕ)) → o ≡ named_of bytes → IfSome o (NamesModel bytes)
some_named bytes None e = tt
some_named bytes (Some d) e = named_told bytes d (sym e)
