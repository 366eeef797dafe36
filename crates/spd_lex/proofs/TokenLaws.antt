-- How tokens grow from the right.
use Rattle.std.proofs.Common.{◌≡◌, ℕ, suc, ◌+◌, ◌-◌, ◌≤◌, ◌<◌, Bool, true, false, cond, List, [], ◌∷◌, ◌++◌, length, get_or, take, drop, Option, Some, None, refl, sym, ap, ◌∙◌, arith, append_assoc, eq-eqb}
use Rattle.std.specs.Prelude.{◌==◌, ◌&&◌, is_some}
use Rattle.std.proofs.lemmas.Grind.{common_steps}
use Rattle.spd_lex.specs.declared.token.Token.{Token}
use Rattle.spd_lex.specs.declared.token.Kind.{Kind}
use Rattle.spd_lex.specs.declared.token.Kind.TheVariants.{Word}
use Rattle.spd_lex.specs.Tokens.{AreApart, tokens_of, is_word, extended, with_word, with_bracket, with_byte, bracket_of, is_blank, tokens_from, blanked, in_comment, bad_from, is_bad}
use Rattle.spd_lex.specs.Lexing.{opened, IsApart}

pub with_word-apart : (from at : ℕ) (ts : List Token) → IsApart at ts → with_word from at ts ≡ record { kind = Word; from = from; to = at } ∷ ts
unfolding with_word
with_word-apart from at [] apart = refl
with_word-apart from at (t ∷ ts) apart = ap (λ (b : Bool). extended b from at t ts) apart

pub with_word-extended : (from at : ℕ) (ts : List Token) → with_word from at (with_word at (at + 1) ts) ≡ with_word from (at + 1) ts
unfolding with_word
with_word-extended from at [] = ap (λ (b : Bool). extended b from at (record { kind = Word; from = at; to = at + 1 }) []) (eq-eqb at at refl)
with_word-extended from at (t ∷ ts) = by_case (is_word t.kind && t.from == at + 1) refl
  where
    by_case : (b : Bool) → (is_word t.kind && t.from == at + 1) ≡ b → with_word from at (extended b at (at + 1) t ts) ≡ extended b from (at + 1) t ts
    by_case true is = word (is_word t.kind) refl
      where
        word : (w : Bool) → is_word t.kind ≡ w → extended (is_word t.kind && at == at) from at (record t { from = at }) ts ≡ record t { from = from } ∷ ts
        word true w = ap (λ (b : Bool). extended (b && at == at) from at (record t { from = at }) ts) w ∙ ap (λ (b : Bool). extended b from at (record t { from = at }) ts) (eq-eqb at at refl)
        word false w = let no : (is_word t.kind && t.from == at + 1) ≡ false = ap (λ (b : Bool). b && t.from == at + 1) w in absurd cc
    by_case false is = ap (λ (b : Bool). extended b from at (record { kind = Word; from = at; to = at + 1 }) (t ∷ ts)) (eq-eqb at at refl)

-- ---- tokens lie apart

later : (least less most : ℕ) (ts : List Token) → AreApart least most ts → less ≤ least → AreApart less most ts
later least less most [] apart h = tt
later least less most (t ∷ ts) apart h = (omega (arith, apart.0), apart.1, apart.2, apart.3)

-- a byte of a word
apart_word : (at most : ℕ) (ts : List Token) → AreApart (at + 1) most ts → at + 1 ≤ most → AreApart at most (with_word at (at + 1) ts)
unfolding with_word
apart_word at most [] apart h = (omega arith, omega arith, h, tt)
apart_word at most (t ∷ ts) apart h = by_case (is_word t.kind && t.from == at + 1)
  where
    by_case : (b : Bool) → AreApart at most (extended b at (at + 1) t ts)
    by_case true = (omega arith, omega (arith, apart.0, apart.1), apart.2, apart.3)
    by_case false = (omega arith, omega arith, h, apart)

apart_byte : (at byte most : ℕ) (ts : List Token) → AreApart (at + 1) most ts → at + 1 ≤ most → AreApart at most (with_byte at byte ts)
apart_byte at byte most ts apart h = by_blank (is_blank byte)
  where
    by_bracket : (o : Option Kind) → AreApart at most (with_bracket o at ts)
    by_bracket None = apart_word at most ts apart h
    by_bracket (Some kind) = (omega arith, omega arith, h, apart)

    by_blank : (c : Bool) → AreApart at most (cond c ts (with_bracket (bracket_of byte) at ts))
    by_blank true = later (at + 1) at most ts apart (omega arith)
    by_blank false = by_bracket (bracket_of byte)

apart_from : (at most : ℕ) (bytes : List ℕ) → at + length bytes ≤ most → AreApart at most (tokens_from at bytes)
unfolding tokens_from
apart_from at most [] h = tt
apart_from at most (byte ∷ bytes) h = apart_byte at byte most (tokens_from (at + 1) bytes) (apart_from (at + 1) most bytes (omega arith)) (omega arith)

length-blanked : (comment : Bool) (bytes : List ℕ) → length (blanked comment bytes) ≡ length bytes
unfolding blanked
length-blanked comment [] = refl
length-blanked comment (byte ∷ bytes) = ap suc (length-blanked (in_comment comment byte bytes) bytes)

pub tokens_of-AreApart : (file : List ℕ) → AreApart 0 (length file) (tokens_of file)
tokens_of-AreApart file = apart_from 0 (length file) (blanked false file) (omega (arith, length-blanked false file))

-- no word begins where the tokens lie behind
pub apart : (at : ℕ) (bytes : List ℕ) → IsApart at (tokens_from (at + 1) bytes)
apart at bytes = none_here (tokens_from (at + 1) bytes) (apart_from (at + 1) (at + 1 + length bytes) bytes (omega arith))
  where
    none_here : (ts : List Token) → AreApart (at + 1) (at + 1 + length bytes) ts → IsApart at ts
    none_here [] behind = tt
    none_here (t ∷ ts) behind = by_case (is_word t.kind)
      where
        by_case : (w : Bool) → (w && t.from == at) ≡ false
        by_case true = let low : at + 1 ≤ t.from = behind.0 in grind arith
        by_case false = refl

pub begin_word-none : (at : ℕ) (ts : List Token) (o : Option ℕ) → is_some o ≡ false → opened (Some at) (at + 1) ts ≡ opened o at (with_word at (at + 1) ts)
begin_word-none at ts None e = refl
begin_word-none at ts (Some from) e = absurd cc

pub begin_word-some : (at : ℕ) (ts : List Token) (o : Option ℕ) → is_some o ≡ true → opened o (at + 1) ts ≡ opened o at (with_word at (at + 1) ts)
begin_word-some at ts None e = absurd cc
begin_word-some at ts (Some from) e = sym (with_word-extended from at ts)

pub end_word-some : (old new ts : List Token) (o : Option ℕ) (from at : ℕ) → o ≡ Some from → new ≡ old ++ record { kind = Word; from = from; to = at } ∷ [] → IsApart at ts
    → new ++ ts ≡ old ++ opened o at ts
end_word-some old new ts o from at is pushed apart =
    ap (λ (l : List Token). l ++ ts) pushed ∙ append_assoc old (record { kind = Word; from = from; to = at } ∷ []) ts
    ∙ ap (λ (l : List Token). old ++ l) (sym (with_word-apart from at ts apart)) ∙ ap (λ (p : Option ℕ). old ++ opened p at ts) (sym is)

-- the bytes after the first
abbrev pub after_first : List ℕ → List ℕ
after_first bytes = take (length bytes - 1) (drop 1 bytes)

after_first-cons : (byte : ℕ) (bytes : List ℕ) → after_first (byte ∷ bytes) ≡ bytes
after_first-cons byte bytes = grind (arith, common_steps)

pub tokens_step : (at : ℕ) (comment : Bool) (bytes : List ℕ) → 0 < length bytes
    → tokens_from at (blanked comment bytes) ≡ with_byte at (cond (in_comment comment (get_or bytes 0 0) (after_first bytes)) 32 (get_or bytes 0 0))
    (tokens_from (at + 1) (blanked (in_comment comment (get_or bytes 0 0) (after_first bytes)) (after_first bytes)))
unfolding tokens_from blanked
tokens_step at comment [] some = absurd (omega arith)
tokens_step at comment (byte ∷ bytes) some = rw (after_first-cons byte bytes) refl

pub bad_step : (at : ℕ) (comment : Bool) (bytes : List ℕ) → 0 < length bytes
    → bad_from at (blanked comment bytes) ≡ cond (is_bad (cond (in_comment comment (get_or bytes 0 0) (after_first bytes)) 32 (get_or bytes 0 0))) (Some at)
    (bad_from (at + 1) (blanked (in_comment comment (get_or bytes 0 0) (after_first bytes)) (after_first bytes)))
unfolding bad_from blanked
bad_step at comment [] some = absurd (omega arith)
bad_step at comment (byte ∷ bytes) some = rw (after_first-cons byte bytes) refl

pub none_left : (at : ℕ) (comment : Bool) (bytes : List ℕ) → length bytes < 1 → (tokens_from at (blanked comment bytes) ≡ []) × (bad_from at (blanked comment bytes) ≡ None)
unfolding tokens_from bad_from blanked
none_left at comment [] none = (refl, refl)
none_left at comment (byte ∷ bytes) none = absurd (omega arith)

-- one byte more was read
pub kept : (before after all : List Token) (w v : Option ℕ) (at : ℕ) (comment inside : Bool) (seen : ℕ) (rest : List ℕ) → 0 < length rest
    → inside ≡ in_comment comment (get_or rest 0 0) (after_first rest) → seen ≡ cond inside 32 (get_or rest 0 0)
    → before ++ opened w at (tokens_from at (blanked comment rest)) ≡ all
    → ((ts : List Token) → IsApart at ts → after ++ opened v (at + 1) ts ≡ before ++ opened w at (with_byte at seen ts))
    → after ++ opened v (at + 1) (tokens_from (at + 1) (blanked inside (after_first rest))) ≡ all
kept before after all w v at comment inside seen rest some is sees told took =
    took (tokens_from (at + 1) (blanked inside (after_first rest))) (apart at (blanked inside (after_first rest)))
    ∙ ap (λ (n : ℕ). before ++ opened w at (with_byte at n (tokens_from (at + 1) (blanked inside (after_first rest))))) sees
    ∙ ap (λ (b : Bool). before ++ opened w at (with_byte at (cond b 32 (get_or rest 0 0)) (tokens_from (at + 1) (blanked b (after_first rest))))) is
    ∙ sym (ap (λ (ts : List Token). before ++ opened w at ts) (tokens_step at comment rest some)) ∙ told

pub kept_bad : (all : Option ℕ) (at : ℕ) (comment inside bad : Bool) (seen : ℕ) (rest : List ℕ) → 0 < length rest
    → inside ≡ in_comment comment (get_or rest 0 0) (after_first rest) → seen ≡ cond inside 32 (get_or rest 0 0) → bad ≡ is_bad seen
    → bad_from at (blanked comment rest) ≡ all
    → cond bad (Some at) (bad_from (at + 1) (blanked inside (after_first rest))) ≡ all
kept_bad all at comment inside bad seen rest some is sees judged told =
    ap (λ (b : Bool). cond b (Some at) (bad_from (at + 1) (blanked inside (after_first rest)))) judged
    ∙ ap (λ (n : ℕ). cond (is_bad n) (Some at) (bad_from (at + 1) (blanked inside (after_first rest)))) sees
    ∙ ap (λ (b : Bool). cond (is_bad (cond b 32 (get_or rest 0 0))) (Some at) (bad_from (at + 1) (blanked b (after_first rest)))) is
    ∙ sym (bad_step at comment rest some) ∙ told

pub after_first-length : (bytes : List ℕ) → 0 < length bytes → suc (length (after_first bytes)) ≡ length bytes
after_first-length bytes some = grind (arith, common_steps)
