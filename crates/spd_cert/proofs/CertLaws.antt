-- The whole text: a certificate that is read is written so, and one that is written so is read.
use Rattle.std.proofs.Common.{◌≡◌, ◌⊎◌, inl, inr, ◌≤ℤ◌, ℕ, ◌≤◌, ◌^◌, Bool, true, false, cond, eqb, List, [], ◌∷◌, ◌++◌, length, codes, decimal, Option, Some, None, Result, Ok, Err, ℤ, pos, negsuc, unsigned_abs, refl, sym, ap, subst, ◌∙◌, arith, append_assoc}
use Rattle.std.specs.Prelude.{bytes_eq, position, IfOk}
use Rattle.std.proofs.lemmas.Int.{ints}
use Rattle.std.proofs.lemmas.Bool.{eqb-true}
use Rattle.std.proofs.lemmas.List.{nil_from_length}
use Rattle.std.proofs.lemmas.Slice.Eq.{bytes_eq-Decides}
use Rattle.hex.specs.Hex.{encode_lower}
use Rattle.spd_model.specs.declared.Why.{Why}
use Rattle.spd_model.specs.declared.Why.TheVariants.{Done, Limit}
use Rattle.spd_model.specs.Process.{Process}
use Rattle.spd_model.specs.Turns.{Place}
use Rattle.spd_model.specs.Lawful.{IsLawful}
use Rattle.spd_model.specs.Reduced.{Node}
use Rattle.spd_model.specs.ResultText.{line, why_text, var_name, place_line, nodes_text}
use Rattle.spd_nodes.specs.declared.leaf.Leaf.{Leaf}
use Rattle.spd_cert.specs.declared.cert.Cert.{Cert}
use Rattle.spd_cert.specs.declared.head.Head.{Head}
use Rattle.spd_cert.specs.declared.nodes.Part.TheVariants.{Value, Policy}
use Rattle.spd_cert.specs.declared.ending.Kind.TheVariants.{Expected, Number, End}
use Rattle.spd_cert.specs.declared.ending.Stop.{Stop}
use Rattle.spd_cert.specs.declared.refusal.CertRefusal.{CertRefusal}
use Rattle.spd_cert.specs.declared.refusal.Uncert.{Uncert}
use Rattle.spd_cert.specs.Certificates.{IsVersion, IsDistance, FitsModel}
use Rattle.spd_cert.specs.Grammar.{IsWord, Says, Spelling, version_lines, place_of, cert_text, IsWritten}
use Rattle.spd_cert.specs.Words.{units_of, not_negative, distance_of, whole_in, version_of, why_of, digest_of}
use Rattle.spd_cert.specs.Reading.{◌>>=◌, stop, Word, word_at, ends, keyword, field_at, version_at, digest_at, why_at, turn_at, distance_at, head_at, place_at, list_at, end_at, cert_at, is_bad, placed, judged_from, judged, Tells}
use Rattle.spd_cert.proofs.WordLaws.{bind_ok, done, ok_is, passed, line_told, line_read, keyword_told, keyword_read, field_told, field_read}
use Rattle.spd_cert.proofs.NumberLaws.{whole_told, whole_read, decimal_is_word}
use Rattle.spd_cert.proofs.LineLaws.{line_is}
use Rattle.spd_cert.proofs.PlaceLaws.{place_told, place_read}
use Rattle.spd_cert.proofs.NodeLaws.{AreGood, list_told, list_read, good_is_frozen}
use Rattle.spd_cert.proofs.DigestLaws.{digest_told, digest_read, digest_is_word}
use Rattle.spd_cert.proofs.UnitLaws.{units_are_few}

-- ---- the lines before the place

version_told : (w : List ℕ) (n : ℕ) → version_of w ≡ Some n → ((n ≡ 1) × (w ≡ codes "1")) ⊎ ((n ≡ 2) × (w ≡ codes "2"))
version_told w n e = by (bytes_eq w (codes "1")) refl e
  where
    second : (b : Bool) → bytes_eq w (codes "2") ≡ b → cond b (Some 2) None ≡ Some n → ((n ≡ 1) × (w ≡ codes "1")) ⊎ ((n ≡ 2) × (w ≡ codes "2"))
    second false t is = absurd cc
    second true t is = let same : 2 ≡ n = cc in inr (sym same, (bytes_eq-Decides w (codes "2")).0 t)

    by : (b : Bool) → bytes_eq w (codes "1") ≡ b → cond b (Some 1) (cond (bytes_eq w (codes "2")) (Some 2) None) ≡ Some n → ((n ≡ 1) × (w ≡ codes "1")) ⊎ ((n ≡ 2) × (w ≡ codes "2"))
    by true t is = let same : 1 ≡ n = cc in inl (sym same, (bytes_eq-Decides w (codes "1")).0 t)
    by false t is = second (bytes_eq w (codes "2")) refl is

why_told : (w : List ℕ) (why : Why) → why_of w ≡ Some why → w ≡ why_text why
why_told w why e = by (bytes_eq w (codes "done")) refl e
  where
    second : (b : Bool) → bytes_eq w (codes "limit") ≡ b → cond b (Some Limit) None ≡ Some why → w ≡ why_text why
    second false t is = absurd cc
    second true t is = let same : Limit ≡ why = cc in (bytes_eq-Decides w (codes "limit")).0 t ∙ ap why_text same

    by : (b : Bool) → bytes_eq w (codes "done") ≡ b → cond b (Some Done) (cond (bytes_eq w (codes "limit")) (Some Limit) None) ≡ Some why → w ≡ why_text why
    by true t is = let same : Done ≡ why = cc in (bytes_eq-Decides w (codes "done")).0 t ∙ ap why_text same
    by false t is = second (bytes_eq w (codes "limit")) refl is

why_is_word : (why : Why) → IsWord (why_text why)
why_is_word Done = refl
why_is_word Limit = refl

why_read : (why : Why) → why_of (why_text why) ≡ Some why
why_read Done = refl
why_read Limit = refl

pub record VersionTold (bytes : List ℕ) (version : ℕ) (digest : Option (List ℕ)) (rest : List ℕ) : Type 0 where
  pub is : IsVersion version digest
  pub parts : bytes ≡ version_lines digest ++ rest

first_line_told : (bytes : List ℕ) (n : ℕ) (rest : List ℕ) → version_at bytes ≡ Ok (n, rest)
    → ((n ≡ 1) × (bytes ≡ line (codes "spd" ∷ codes "result" ∷ codes "1" ∷ []) ++ rest)) ⊎ ((n ≡ 2) × (bytes ≡ line (codes "spd" ∷ codes "result" ∷ codes "2" ∷ []) ++ rest))
unfolding version_at
first_line_told bytes n rest e =
    let a = bind_ok (keyword (codes "spd") bytes) (field_at (codes "result") Expected version_of) (n, rest) e in
    let spd = keyword_told (codes "spd") bytes a.0 a.1 in
    let told = field_told Expected version_of (codes "result") a.0 n rest a.2 in
    let all : bytes ≡ codes "spd" ++ 32 ∷ (codes "result" ++ 32 ∷ (told.0 ++ 10 ∷ rest)) = spd ∙ ap (λ (t : List ℕ). codes "spd" ++ 32 ∷ t) told.1 in
    elim (version_told told.0 n told.3) [
      | inl one ↦ inl (one.0, all ∙ ap (λ (w : List ℕ). codes "spd" ++ 32 ∷ (codes "result" ++ 32 ∷ (w ++ 10 ∷ rest))) one.1)
      | inr two ↦ inr (two.0, all ∙ ap (λ (w : List ℕ). codes "spd" ++ 32 ∷ (codes "result" ++ 32 ∷ (w ++ 10 ∷ rest))) two.1)
    ]

digest_line_is : (d rest : List ℕ) → line (codes "model" ∷ d ∷ []) ++ rest ≡ codes "model" ++ 32 ∷ (d ++ 10 ∷ rest)
digest_line_is d rest = line_is (codes "model" ∷ d ∷ []) rest

-- what is read of the line of a digest
abbrev some_digest : List ℕ × List ℕ → Result (Option (List ℕ) × List ℕ) Stop
some_digest x = Ok (Some x.0, x.1)

abbrev digest_step : ℕ → List ℕ → Result (Option (List ℕ) × List ℕ) Stop
digest_step n middle = cond (eqb n 1) (Ok (None, middle)) (field_at (codes "model") Expected digest_of middle >>= some_digest)

-- a version with what is read of its digest
abbrev paired : ℕ → Option (List ℕ) × List ℕ → Result ((ℕ × Option (List ℕ)) × List ℕ) Stop
paired n d = Ok ((n, d.0), d.1)

version_lines_told : (bytes middle : List ℕ) (n : ℕ) (digest : Option (List ℕ)) (rest : List ℕ) → version_at bytes ≡ Ok (n, middle) → digest_at n middle ≡ Ok (digest, rest) → VersionTold bytes n digest rest
unfolding digest_at
version_lines_told bytes middle n digest rest first second =
    elim (first_line_told bytes n middle first) [
      | inl one ↦ by_one one.0 one.1 second
      | inr two ↦ by_two two.0 two.1 second
    ]
  where
    by_one : n ≡ 1 → bytes ≡ line (codes "spd" ∷ codes "result" ∷ codes "1" ∷ []) ++ middle
        → digest_step n middle ≡ Ok (digest, rest) → VersionTold bytes n digest rest
    by_one is parts e =
        let none : done (None, middle) ≡ done (digest, rest) = sym (ap (λ (k : ℕ). digest_step k middle) is) ∙ e in
        let both = ok_is (None, middle) (digest, rest) none in
        subst (λ (x : Option (List ℕ) × List ℕ). VersionTold bytes n x.0 x.1) both (record { is = is; parts = parts })

    by_two : n ≡ 2 → bytes ≡ line (codes "spd" ∷ codes "result" ∷ codes "2" ∷ []) ++ middle
        → digest_step n middle ≡ Ok (digest, rest) → VersionTold bytes n digest rest
    by_two is parts e =
        let some : (field_at (codes "model") Expected digest_of middle >>= some_digest) ≡ Ok (digest, rest) =
        sym (ap (λ (k : ℕ). digest_step k middle) is) ∙ e in
        let a = bind_ok (field_at (codes "model") Expected digest_of middle) some_digest (digest, rest) some in
        let both = ok_is (Some a.0.0, a.0.1) (digest, rest) a.2 in
        let told = field_told Expected digest_of (codes "model") middle a.0.0 a.0.1 a.1 in
        let digits = digest_told told.0 a.0.0 told.3 in
        let line_parts : middle ≡ line (codes "model" ∷ encode_lower a.0.0 ∷ []) ++ a.0.1 =
        told.1 ∙ ap (λ (w : List ℕ). codes "model" ++ 32 ∷ (w ++ 10 ∷ a.0.1)) digits.0 ∙ sym (digest_line_is (encode_lower a.0.0) a.0.1) in
        subst (λ (x : Option (List ℕ) × List ℕ). VersionTold bytes n x.0 x.1) both (record {
          is = (is, digits.1, digits.2);
          parts = parts ∙ ap (λ (t : List ℕ). line (codes "spd" ∷ codes "result" ∷ codes "2" ∷ []) ++ t) line_parts
              ∙ sym (append_assoc (line (codes "spd" ∷ codes "result" ∷ codes "2" ∷ [])) (line (codes "model" ∷ encode_lower a.0.0 ∷ [])) a.0.1);
        })

-- ---- numbers of units that aren't below zero

distance_told : (w : List ℕ) (x : ℤ) → IsWord w → distance_of w ≡ Some x → Says w x × (pos 0 ≤ℤ x)
distance_told w x word e = let t = told (units_of w) e in ((word, t.0), t.1)
  where
    told : (o : Option ℤ) → not_negative o ≡ Some x → (o ≡ Some x) × (pos 0 ≤ℤ x)
    told None is = absurd cc
    told (Some (pos n)) is = let same : pos n ≡ x = cc in (is, subst (λ (y : ℤ). pos 0 ≤ℤ y) same (omega (arith, ints)))
    told (Some (negsuc n)) is = absurd cc

distance_read : (w : List ℕ) (x : ℤ) → Says w x → pos 0 ≤ℤ x → distance_of w ≡ Some x
distance_read w x says above = ap not_negative says.1 ∙ same x above
  where
    same : (x : ℤ) → pos 0 ≤ℤ x → not_negative (Some x) ≡ Some x
    same (pos n) h = refl
    same (negsuc n) h = absurd (omega (arith, ints))

-- 0 to 10^30 units
distance_is : (w : List ℕ) (x : ℤ) → IsWord w → distance_of w ≡ Some x → Says w x × IsDistance x
distance_is w x word e =
    let told = distance_told w x word e in
    let few = units_are_few w x told.0.1 in
    (told.0, (told.1, upper x told.1 few))
  where
    upper : (x : ℤ) → pos 0 ≤ℤ x → unsigned_abs x ≤ 10 ^ 30 → x ≤ℤ pos (10 ^ 30)
    upper x low few = omega (arith, ints, low, few)

-- ---- the first lines

version_read : (version : ℕ) (digest : Option (List ℕ)) (rest : List ℕ) → IsVersion version digest
    → (version_at (version_lines digest ++ rest) >>= λ v. digest_at v.0 v.1 >>= λ d. paired v.0 d) ≡ Ok ((version, digest), rest)
unfolding version_at digest_at
version_read version None rest is =
    let one : version_at (version_lines None ++ rest) ≡ Ok (1, rest) =
    ap version_at (line_is (codes "spd" ∷ codes "result" ∷ codes "1" ∷ []) rest)
    ∙ ap (λ (r : Result (List ℕ) Stop). r >>= field_at (codes "result") Expected version_of) (keyword_read (codes "spd") (codes "result" ++ 32 ∷ (codes "1" ++ 10 ∷ rest)) refl)
    ∙ field_read Expected version_of (codes "result") (codes "1") 1 rest refl refl refl in
    ap (λ (r : Result (ℕ × List ℕ) Stop). r >>= λ v. digest_at v.0 v.1 >>= λ d. paired v.0 d) one
    ∙ ap (λ (n : ℕ). paired n (None, rest)) (sym is)
version_read version (Some digest) rest is =
    let model = line (codes "model" ∷ encode_lower digest ∷ []) in
    let two : version_at (version_lines (Some digest) ++ rest) ≡ Ok (2, model ++ rest) =
    ap version_at (append_assoc (line (codes "spd" ∷ codes "result" ∷ codes "2" ∷ [])) model rest ∙ line_is (codes "spd" ∷ codes "result" ∷ codes "2" ∷ []) (model ++ rest))
    ∙ ap (λ (r : Result (List ℕ) Stop). r >>= field_at (codes "result") Expected version_of) (keyword_read (codes "spd") (codes "result" ++ 32 ∷ (codes "2" ++ 10 ∷ (model ++ rest))) refl)
    ∙ field_read Expected version_of (codes "result") (codes "2") 2 (model ++ rest) refl refl refl in
    let digits : field_at (codes "model") Expected digest_of (model ++ rest) ≡ Ok (digest, rest) =
    ap (field_at (codes "model") Expected digest_of) (digest_line_is (encode_lower digest) rest)
    ∙ field_read Expected digest_of (codes "model") (encode_lower digest) digest rest refl (digest_is_word digest) (digest_read digest is.1 is.2) in
    ap (λ (r : Result (ℕ × List ℕ) Stop). r >>= λ v. digest_at v.0 v.1 >>= λ d. paired v.0 d) two
    ∙ ap (λ (r : Result (List ℕ × List ℕ) Stop). (r >>= some_digest) >>= paired 2) digits
    ∙ ap (λ (n : ℕ). paired n (Some digest, rest)) (sym is.0)

-- the lines of a word of the grammar and a value
value_line_is : (k w rest : List ℕ) → line (k ∷ w ∷ []) ++ rest ≡ k ++ 32 ∷ (w ++ 10 ∷ rest)
value_line_is k w rest = line_is (k ∷ w ∷ []) rest

why_line_told : (bytes : List ℕ) (why : Why) (rest : List ℕ) → why_at bytes ≡ Ok (why, rest) → bytes ≡ line (codes "status" ∷ why_text why ∷ []) ++ rest
unfolding why_at
why_line_told bytes why rest e =
    let told = field_told Expected why_of (codes "status") bytes why rest e in
    told.1 ∙ ap (λ (w : List ℕ). codes "status" ++ 32 ∷ (w ++ 10 ∷ rest)) (why_told told.0 why told.3) ∙ sym (value_line_is (codes "status") (why_text why) rest)

why_line_read : (why : Why) (rest : List ℕ) → why_at (line (codes "status" ∷ why_text why ∷ []) ++ rest) ≡ Ok (why, rest)
unfolding why_at
why_line_read why rest =
    ap (field_at (codes "status") Expected why_of) (value_line_is (codes "status") (why_text why) rest) ∙ field_read Expected why_of (codes "status") (why_text why) why rest refl (why_is_word why) (why_read why)

turn_line_told : (bytes : List ℕ) (turn : ℕ) (rest : List ℕ) → turn_at bytes ≡ Ok (turn, rest) → (bytes ≡ line (codes "turn" ∷ decimal turn ∷ []) ++ rest) × (turn ≤ 1000000)
unfolding turn_at
turn_line_told bytes turn rest e =
    let told = field_told Number (whole_in 0 1000000) (codes "turn") bytes turn rest e in
    let number = whole_told 0 1000000 told.0 turn (omega arith) told.3 in
    (told.1 ∙ ap (λ (w : List ℕ). codes "turn" ++ 32 ∷ (w ++ 10 ∷ rest)) number.0 ∙ sym (value_line_is (codes "turn") (decimal turn) rest), number.2)

turn_line_read : (turn : ℕ) (rest : List ℕ) → turn ≤ 1000000 → turn_at (line (codes "turn" ∷ decimal turn ∷ []) ++ rest) ≡ Ok (turn, rest)
unfolding turn_at
turn_line_read turn rest few =
    ap (field_at (codes "turn") Number (whole_in 0 1000000)) (value_line_is (codes "turn") (decimal turn) rest)
    ∙ field_read Number (whole_in 0 1000000) (codes "turn") (decimal turn) turn rest refl (decimal_is_word turn (omega (arith, few))) (whole_read 0 1000000 turn (omega arith) few (omega arith))

distance_line_told : (k bytes : List ℕ) (x : ℤ) (rest : List ℕ) → distance_at k bytes ≡ Ok (x, rest) → (w : List ℕ) × (bytes ≡ line (k ∷ w ∷ []) ++ rest) × Says w x × IsDistance x
unfolding distance_at
distance_line_told k bytes x rest e =
    let told = field_told Number distance_of k bytes x rest e in
    let says = distance_is told.0 x told.2 told.3 in
    (told.0, told.1 ∙ sym (value_line_is k told.0 rest), says.0, says.1)

distance_line_read : (k w : List ℕ) (x : ℤ) (rest : List ℕ) → IsWord k → Says w x → IsDistance x → distance_at k (line (k ∷ w ∷ []) ++ rest) ≡ Ok (x, rest)
unfolding distance_at
distance_line_read k w x rest key says range =
    ap (field_at k Number distance_of) (value_line_is k w rest) ∙ field_read Number distance_of k w x rest key says.0 (distance_read w x says range.0)

abbrev head_text : Head → List ℕ → List ℕ → List ℕ
head_text h w rest =
    version_lines h.digest
    ++ (line (codes "status" ∷ why_text h.why ∷ []) ++ (line (codes "turn" ∷ decimal h.turn ∷ []) ++ (line (codes "residual" ∷ w ∷ []) ++ rest)))

pub record HeadTold (bytes : List ℕ) (h : Head) (rest : List ℕ) : Type 0 where
  pub word : List ℕ
  pub parts : bytes ≡ head_text h word rest
  pub version : IsVersion h.version h.digest
  pub turn : h.turn ≤ 1000000
  pub says : Says word h.residual
  pub range : IsDistance h.residual

head_told : (bytes : List ℕ) (h : Head) (rest : List ℕ) → head_at bytes ≡ Ok (h, rest) → HeadTold bytes h rest
unfolding head_at
head_told bytes h rest e =
    let a = bind_ok (version_at bytes)
    (λ version. digest_at version.0 version.1 >>= λ digest. why_at digest.1 >>= λ why. turn_at why.1 >>= λ turn. distance_at (codes "residual") turn.1 >>= λ residual. Ok (record { version = version.0; digest = digest.0; why = why.0; turn = turn.0; residual = residual.0 }, residual.1)) (h, rest) e in
    let b = bind_ok (digest_at a.0.0 a.0.1)
    (λ digest. why_at digest.1 >>= λ why. turn_at why.1 >>= λ turn. distance_at (codes "residual") turn.1 >>= λ residual. Ok (record { version = a.0.0; digest = digest.0; why = why.0; turn = turn.0; residual = residual.0 }, residual.1)) (h, rest) a.2 in
    let c = bind_ok (why_at b.0.1)
    (λ why. turn_at why.1 >>= λ turn. distance_at (codes "residual") turn.1 >>= λ residual. Ok (record { version = a.0.0; digest = b.0.0; why = why.0; turn = turn.0; residual = residual.0 }, residual.1)) (h, rest) b.2 in
    let d = bind_ok (turn_at c.0.1)
    (λ turn. distance_at (codes "residual") turn.1 >>= λ residual. Ok (record { version = a.0.0; digest = b.0.0; why = c.0.0; turn = turn.0; residual = residual.0 }, residual.1)) (h, rest) c.2 in
    let f = bind_ok (distance_at (codes "residual") d.0.1)
    (λ residual. Ok (record { version = a.0.0; digest = b.0.0; why = c.0.0; turn = d.0.0; residual = residual.0 }, residual.1)) (h, rest) d.2 in
    let read : Head = record { version = a.0.0; digest = b.0.0; why = c.0.0; turn = d.0.0; residual = f.0.0 } in
    let both = ok_is (read, f.0.1) (h, rest) f.2 in
    let version = version_lines_told bytes a.0.1 a.0.0 b.0.0 b.0.1 a.1 b.1 in
    let why = why_line_told b.0.1 c.0.0 c.0.1 c.1 in
    let turn = turn_line_told c.0.1 d.0.0 d.0.1 d.1 in
    let residual = distance_line_told (codes "residual") d.0.1 f.0.0 f.0.1 f.1 in
    subst (λ (x : Head × List ℕ). HeadTold bytes x.0 x.1) both (record {
      word = residual.0;
      parts = version.parts ∙ ap (λ (t : List ℕ). version_lines b.0.0 ++ t) (why ∙ ap (λ (t : List ℕ). line (codes "status" ∷ why_text c.0.0 ∷ []) ++ t) (turn.0 ∙ ap (λ (t : List ℕ). line (codes "turn" ∷ decimal d.0.0 ∷ []) ++ t) residual.1));
      version = version.is;
      turn = turn.1;
      says = residual.2;
      range = residual.3;
    })

-- what is read behind the digest
abbrev head_from : ℕ → Option (List ℕ) → List ℕ → Result (Head × List ℕ) Stop
head_from v d rest = why_at rest >>= λ why. turn_at why.1 >>= λ turn. distance_at (codes "residual") turn.1 >>= λ residual. Ok (record { version = v; digest = d; why = why.0; turn = turn.0; residual = residual.0 }, residual.1)

head_read : (h : Head) (w rest : List ℕ) → IsVersion h.version h.digest → h.turn ≤ 1000000 → Says w h.residual → IsDistance h.residual → head_at (head_text h w rest) ≡ Ok (h, rest)
unfolding head_at
head_read h w rest version turn says range =
    let third = line (codes "residual" ∷ w ∷ []) ++ rest in
    let second = line (codes "turn" ∷ decimal h.turn ∷ []) ++ third in
    let first = line (codes "status" ∷ why_text h.why ∷ []) ++ second in
    regroup (version_at (version_lines h.digest ++ first)) digest_at
    head_from
    ∙ ap (λ (r : Result ((ℕ × Option (List ℕ)) × List ℕ) Stop).
    r >>= λ x. head_from x.0.0 x.0.1 x.1)
    (version_read h.version h.digest first version)
    ∙ rw (why_line_read h.why second, turn_line_read h.turn third turn, distance_line_read (codes "residual") w h.residual rest refl says range) refl
  where
    regroup : (r : Result (ℕ × List ℕ) Stop) (f : ℕ → List ℕ → Result (Option (List ℕ) × List ℕ) Stop) (g : ℕ → Option (List ℕ) → List ℕ → Result (Head × List ℕ) Stop)
        → (r >>= λ v. f v.0 v.1 >>= λ d. g v.0 d.0 d.1) ≡ ((r >>= λ v. f v.0 v.1 >>= λ d. paired v.0 d) >>= λ x. g x.0.0 x.0.1 x.1)
    regroup (Err s) f g = refl
    regroup (Ok v) f g = inner (f v.0 v.1)
      where
        inner : (q : Result (Option (List ℕ) × List ℕ) Stop) → (q >>= λ d. g v.0 d.0 d.1) ≡ ((q >>= λ d. paired v.0 d) >>= λ x. g x.0.0 x.0.1 x.1)
        inner (Err s) = refl
        inner (Ok d) = refl

-- ---- the last line

end_told : (bytes nothing : List ℕ) → end_at bytes ≡ Ok nothing → bytes ≡ line (codes "end" ∷ [])
unfolding end_at
end_told bytes nothing e =
    let a = bind_ok (word_at bytes) (λ w. cond (bytes_eq w.text (codes "end")) (ends w >>= λ rest. cond (eqb (length rest) 0) (Ok []) (stop End (length rest))) (stop Expected w.left)) nothing e in
    let t = passed (bytes_eq a.0.text (codes "end")) (ends a.0 >>= λ rest. cond (eqb (length rest) 0) (Ok []) (stop End (length rest))) (record { kind = Expected; left = a.0.left }) nothing a.2 in
    let b = bind_ok (ends a.0) (λ rest. cond (eqb (length rest) 0) (Ok []) (stop End (length rest))) nothing t.1 in
    let last = passed (eqb (length b.0) 0) (Ok []) (record { kind = End; left = length b.0 }) nothing b.2 in
    let empty : b.0 ≡ [] = nil_from_length b.0 (eqb-true (length b.0) 0 last.0) in
    let text : a.0.text ≡ codes "end" = (bytes_eq-Decides a.0.text (codes "end")).0 t.0 in
    (line_told bytes a.0 b.0 a.1 b.1).0 ∙ (λ i. text i ++ 10 ∷ empty i)

end_read : end_at (line (codes "end" ∷ [])) ≡ Ok []
unfolding end_at
end_read = ap (λ (r : Result Word Stop). r >>= λ w. cond (bytes_eq w.text (codes "end")) (ends w >>= λ rest. cond (eqb (length rest) 0) (Ok []) (stop End (length rest))) (stop Expected w.left)) (line_read (codes "end") [] refl)

-- ---- the whole

abbrev rest_text : Process → Place → List ℕ → List (Node (List ℕ)) → List (Node (List ℕ)) → List ℕ
rest_text m p error value policy =
    place_line m p
    ++ (line (codes "error" ∷ error ∷ [])
    ++ (nodes_text (λ (w : List ℕ). w) (var_name m) (codes "value") value ++ (nodes_text (λ (w : List ℕ). w) (var_name m) (codes "policy") policy ++ line (codes "end" ∷ []))))

abbrev head_of : Cert → Head
head_of c = record { version = c.version; digest = c.digest; why = c.why; turn = c.turn; residual = c.residual }

text_is : (m : Process) (c : Cert) (w : Spelling) → cert_text m c w ≡ head_text (head_of c) w.residual (rest_text m (place_of c) w.error w.value w.policy)
text_is m c w =
    nest (version_lines c.digest) (line (codes "status" ∷ why_text c.why ∷ [])) (line (codes "turn" ∷ decimal c.turn ∷ [])) (line (codes "residual" ∷ w.residual ∷ []))
    (place_line m (place_of c)) (line (codes "error" ∷ w.error ∷ [])) (nodes_text (λ (x : List ℕ). x) (var_name m) (codes "value") w.value) (nodes_text (λ (x : List ℕ). x) (var_name m) (codes "policy") w.policy) (line (codes "end" ∷ []))
  where
    nest : (a b c d e f g h i : List ℕ) → a ++ b ++ c ++ d ++ e ++ f ++ g ++ h ++ i ≡ a ++ (b ++ (c ++ (d ++ (e ++ (f ++ (g ++ (h ++ i)))))))
    nest a b c d e f g h i = simp append_assoc

abbrev cert_of : Head → Place → ℤ → List (Node Leaf) → List (Node Leaf) → Cert
cert_of h p error value policy = record {
  version = h.version;
  digest = h.digest;
  why = h.why;
  turn = h.turn;
  residual = h.residual;
  place = p.state;
  side = p.side;
  action = p.action;
  error = error;
  value = value;
  policy = policy;
}

-- what was read of clean bytes is written so
pub cert_told : (m : Process) (bytes : List ℕ) (c : Cert) → IsLawful m → position is_bad bytes ≡ None → cert_at m bytes ≡ Ok c → IsWritten m bytes c
unfolding cert_at
cert_told m bytes c lawful clean e =
    let a = bind_ok (head_at bytes)
    (λ head. place_at m head.1 >>= λ place. distance_at (codes "error") place.1 >>= λ error. list_at m Value error.1 >>= λ value. list_at m Policy value.1 >>= λ policy. end_at policy.1 >>= λ nothing. Ok (cert_of head.0 place.0 error.0 value.0 policy.0)) c e in
    let b = bind_ok (place_at m a.0.1)
    (λ place. distance_at (codes "error") place.1 >>= λ error. list_at m Value error.1 >>= λ value. list_at m Policy value.1 >>= λ policy. end_at policy.1 >>= λ nothing. Ok (cert_of a.0.0 place.0 error.0 value.0 policy.0)) c a.2 in
    let d = bind_ok (distance_at (codes "error") b.0.1)
    (λ error. list_at m Value error.1 >>= λ value. list_at m Policy value.1 >>= λ policy. end_at policy.1 >>= λ nothing. Ok (cert_of a.0.0 b.0.0 error.0 value.0 policy.0)) c b.2 in
    let f = bind_ok (list_at m Value d.0.1)
    (λ value. list_at m Policy value.1 >>= λ policy. end_at policy.1 >>= λ nothing. Ok (cert_of a.0.0 b.0.0 d.0.0 value.0 policy.0)) c d.2 in
    let g = bind_ok (list_at m Policy f.0.1)
    (λ policy. end_at policy.1 >>= λ nothing. Ok (cert_of a.0.0 b.0.0 d.0.0 f.0.0 policy.0)) c f.2 in
    let h = bind_ok (end_at g.0.1) (λ nothing. Ok (cert_of a.0.0 b.0.0 d.0.0 f.0.0 g.0.0)) c g.2 in
    let read = cert_of a.0.0 b.0.0 d.0.0 f.0.0 g.0.0 in
    let head = head_told bytes a.0.0 a.0.1 a.1 in
    let place = place_told m a.0.1 b.0.0 b.0.1 b.1 in
    let error = distance_line_told (codes "error") b.0.1 d.0.0 d.0.1 d.1 in
    let value = list_told m Value d.0.1 f.0.0 f.0.1 lawful f.1 in
    let policy = list_told m Policy f.0.1 g.0.0 g.0.1 lawful g.1 in
    let end = end_told g.0.1 h.0 h.1 in
    let words : Spelling = record { residual = head.word; error = error.0; value = value.words; policy = policy.words } in
    let behind : a.0.1 ≡ rest_text m b.0.0 error.0 value.words policy.words =
    place.parts ∙ ap (λ (t : List ℕ). place_line m b.0.0 ++ t) (error.1 ∙ ap (λ (t : List ℕ). line (codes "error" ∷ error.0 ∷ []) ++ t)
    (value.parts ∙ ap (λ (t : List ℕ). nodes_text (λ (w : List ℕ). w) (var_name m) (codes "value") value.words ++ t)
    (policy.parts ∙ ap (λ (t : List ℕ). nodes_text (λ (w : List ℕ). w) (var_name m) (codes "policy") policy.words ++ t) end))) in
    subst (λ (x : Cert). IsWritten m bytes x) (ok_is read c h.2) (record {
      fits = record {
        iterate = record { value = value.good.fits; policy = policy.good.fits; values = value.good.good; choices = policy.good.good; state = place.state; action = place.action };
        version = head.version;
        value = good_is_frozen m Value f.0.0 value.some value.good;
        policy = good_is_frozen m Policy g.0.0 policy.some policy.good;
        range = record { turn = head.turn; value_nodes = value.few; policy_nodes = policy.few; residual = head.range; error = error.3 };
      };
      words = words;
      say = record { residual = head.says; error = error.2; value = value.say; policy = policy.say };
      spelled = head.parts ∙ ap (λ (t : List ℕ). head_text a.0.0 head.word t) behind ∙ sym (text_is m read words);
      clean = clean;
    })

-- what is written so is read
pub cert_read : (m : Process) (bytes : List ℕ) (c : Cert) → IsLawful m → IsWritten m bytes c → cert_at m bytes ≡ Ok c
unfolding cert_at
cert_read m bytes c lawful is =
    let w = is.words in
    let fits = is.fits in
    let value_good : AreGood m Value c.value = record { each = fits.value.each; fits = fits.iterate.value; good = fits.iterate.values } in
    let policy_good : AreGood m Policy c.policy = record { each = fits.policy.each; fits = fits.iterate.policy; good = fits.iterate.choices } in
    let end = line (codes "end" ∷ []) in
    let policy = nodes_text (λ (x : List ℕ). x) (var_name m) (codes "policy") w.policy ++ end in
    let value = nodes_text (λ (x : List ℕ). x) (var_name m) (codes "value") w.value ++ policy in
    let error = line (codes "error" ∷ w.error ∷ []) ++ value in
    ap (cert_at m) (is.spelled ∙ text_is m c w)
    ∙ rw (
      head_read (head_of c) w.residual (rest_text m (place_of c) w.error w.value w.policy) fits.version fits.range.turn is.say.residual fits.range.residual,
      place_read m (place_of c) error lawful fits.iterate.state fits.iterate.action,
      distance_line_read (codes "error") w.error c.error value refl is.say.error fits.range.error,
      list_read m Value w.value c.value policy lawful fits.value.some fits.range.value_nodes is.say.value value_good,
      list_read m Policy w.policy c.policy end lawful fits.policy.some fits.range.policy_nodes is.say.policy policy_good,
      end_read,
    ) refl

-- ---- what is told of a file

pub judged_read : (m : Process) (bytes : List ℕ) (c : Cert) → IsLawful m → IsWritten m bytes c → judged m bytes ≡ Ok c
judged_read m bytes c lawful is =
    ap (judged_from m bytes) is.clean ∙ ap (λ (r : Result Cert Stop). elim r [ Ok x ↦ Ok x | Err s ↦ Err (placed (length bytes) s) ]) (cert_read m bytes c lawful is)

pub judged_told : (m : Process) (bytes : List ℕ) (c : Cert) → IsLawful m → judged m bytes ≡ Ok c → IsWritten m bytes c
judged_told m bytes c lawful e = by (position is_bad bytes) refl e
  where
    inside : (r : Result Cert Stop) → cert_at m bytes ≡ r → position is_bad bytes ≡ None → elim r as (λ _. Result Cert CertRefusal) [ Ok x ↦ Ok x | Err s ↦ Err (placed (length bytes) s) ] ≡ Ok c → IsWritten m bytes c
    inside (Ok x) read clean is = let same : x ≡ c = cc in cert_told m bytes c lawful clean (read ∙ ap (λ (y : Cert). Ok y) same)
    inside (Err s) read clean is = absurd cc

    by : (o : Option ℕ) → position is_bad bytes ≡ o → judged_from m bytes o ≡ Ok c → IsWritten m bytes c
    by (Some at) clean is = absurd cc
    by None clean is = inside (cert_at m bytes) refl clean is

pub is_written : (m : Process) (bytes : List ℕ) (r : Result Cert Uncert) → IsLawful m → Tells r (judged m bytes) → IfOk r (IsWritten m bytes)
is_written m bytes (Ok c) lawful told = judged_told m bytes c lawful told
is_written m bytes (Err e) lawful told = tt

pub is_fit : (m : Process) (bytes : List ℕ) (r : Result Cert Uncert) → IsLawful m → Tells r (judged m bytes) → IfOk r (FitsModel m)
is_fit m bytes (Ok c) lawful told = (judged_told m bytes c lawful told).fits
is_fit m bytes (Err e) lawful told = tt
