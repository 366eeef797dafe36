-- Spots of a file: the tokens from a place on, by the bytes that are left there, and how each token moves on to the next spot.
use Rattle.std.proofs.Common.{◌≡◌, ℕ, zero, suc, ◌+◌, ◌-◌, ◌<◌, ◌≤◌, Bool, true, false, cond, List, [], ◌∷◌, ◌++◌, length, take, drop, Option, Some, None, ◌⊎◌, inl, inr, refl, sym, ap, ◌∙◌, subst, arith, eq-eqb}
use Rattle.std.specs.Prelude.{◌==◌, ◌&&◌, not, is_none}
use Rattle.std.specs.List.{list_all}
use Rattle.std.proofs.Math.Seq.{take-append_seam, drop-append_seam}
use Rattle.std.proofs.lemmas.Bool.{and_parts}
use Rattle.std.proofs.lemmas.List.{take-append-le}
use Rattle.spd_lex.specs.declared.token.Token.{Token}
use Rattle.spd_lex.specs.declared.token.Kind.{Kind}
use Rattle.spd_lex.specs.declared.token.Kind.TheVariants.{Word as WordKind}
use Rattle.spd_lex.specs.Tokens.{is_word, extended, with_word, with_bracket, with_byte, bracket_of, is_blank, tokens_from}
use Rattle.spd_syntax.specs.declared.file.Word.{Word}
use Rattle.spd_syntax.specs.Grammar.{One, AWord}
use Rattle.spd_syntax.specs.Words.{text_of, front_of}

-- these tokens stand from a place of the file on, where these bytes are left
pub record Spot (file : List ℕ) (ts : List Token) (bytes : List ℕ) : Type 0 where
  pub at : ℕ
  pub left : drop at file ≡ bytes
  pub tokens : ts ≡ tokens_from at bytes

pub same-spot : (file : List ℕ) (ts : List Token) (a b : List ℕ) → a ≡ b → Spot file ts a → Spot file ts b
same-spot file ts a b e s = subst (Spot file ts) e s

-- ---- bytes that are left

drop-more : (n : ℕ) (file xs ys : List ℕ) → drop n file ≡ xs ++ ys → drop (n + length xs) file ≡ ys
drop-more zero file xs ys e = let same : 0 + length xs ≡ length xs = omega arith in ap (λ (k : ℕ). drop k file) same ∙ ap (drop (length xs)) e ∙ drop-append_seam xs ys
drop-more (suc n) [] [] ys e = let same : suc n + 0 ≡ suc n = omega arith in ap (λ (k : ℕ). drop k []) same ∙ e
drop-more (suc n) [] (x ∷ xs) ys e = absurd (cc e)
drop-more (suc n) (byte ∷ file) xs ys e =
    let same : suc n + length xs ≡ suc (n + length xs) = omega arith in
    ap (λ (k : ℕ). drop k (byte ∷ file)) same ∙ drop-more n file xs ys e

-- ---- blanks and brackets

pub blank : (file : List ℕ) (ts : List Token) (byte : ℕ) (bs : List ℕ) → is_blank byte ≡ true → Spot file ts (byte ∷ bs) → Spot file ts bs
unfolding tokens_from
blank file ts byte bs is s = record {
  at = s.at + 1;
  left = drop-more s.at file (byte ∷ []) bs s.left;
  tokens = s.tokens ∙ ap (λ b. cond b (tokens_from (s.at + 1) bs) (with_bracket (bracket_of byte) s.at (tokens_from (s.at + 1) bs))) is;
}

pub record Sign (file : List ℕ) (kind : Kind) (ts : List Token) (bs : List ℕ) : Type 0 where
  pub next : List Token
  pub one : One kind ts next
  pub spot : Spot file next bs

pub sign : (file : List ℕ) (kind : Kind) (ts : List Token) (byte : ℕ) (bs : List ℕ) → is_blank byte ≡ false → bracket_of byte ≡ Some kind
    → Spot file ts (byte ∷ bs) → Sign file kind ts bs
unfolding tokens_from
sign file kind ts byte bs apart is s =
    let behind = tokens_from (s.at + 1) bs in
    record {
      next = behind;
      one = record {
        token = record { kind = kind; from = s.at; to = s.at + 1 };
        kind = refl;
        first = s.tokens ∙ ap (λ b. cond b behind (with_bracket (bracket_of byte) s.at behind)) apart ∙ ap (λ (o : Option Kind). with_bracket o s.at behind) is;
      };
      spot = record { at = s.at + 1; left = drop-more s.at file (byte ∷ []) bs s.left; tokens = refl };
    }

-- ---- words

-- the first token begins at k or behind it
abbrev Behind : ℕ → List Token → Type 0
Behind k [] = Unit {0}
Behind k (t ∷ ts) = k ≤ t.from

less : (k : ℕ) (ts : List Token) → Behind (k + 1) ts → Behind k ts
less k [] h = tt
less k (t ∷ ts) h = omega arith

behind-word : (k : ℕ) (ts : List Token) → Behind k (with_word k (k + 1) ts)
unfolding with_word
behind-word k [] = omega arith
behind-word k (t ∷ ts) = by_case (is_word t.kind && t.from == k + 1)
  where
    by_case : (b : Bool) → Behind k (extended b k (k + 1) t ts)
    by_case true = omega arith
    by_case false = omega arith

all-behind : (k : ℕ) (bs : List ℕ) → Behind k (tokens_from k bs)
unfolding tokens_from
all-behind k [] = tt
all-behind k (byte ∷ bs) = by_blank (is_blank byte) (all-behind (k + 1) bs)
  where
    by_bracket : (o : Option Kind) → Behind k (with_bracket o k (tokens_from (k + 1) bs))
    by_bracket None = behind-word k (tokens_from (k + 1) bs)
    by_bracket (Some kind) = omega arith

    by_blank : (b : Bool) → Behind (k + 1) (tokens_from (k + 1) bs) → Behind k (cond b (tokens_from (k + 1) bs) (with_bracket (bracket_of byte) k (tokens_from (k + 1) bs)))
    by_blank true h = less k (tokens_from (k + 1) bs) h
    by_blank false h = by_bracket (bracket_of byte)

-- a byte of a word, and one that ends a word
abbrev pub is_of_word : ℕ → Bool
is_of_word byte = not (is_blank byte) && is_none (bracket_of byte)

abbrev pub is_a_word : List ℕ → Bool
is_a_word [] = false
is_a_word (byte ∷ bytes) = is_of_word byte && list_all is_of_word bytes

word-alone : (from at : ℕ) (ts : List Token) → from < at → Behind (at + 1) ts → with_word from at ts ≡ record { kind = WordKind; from = from; to = at } ∷ ts
unfolding with_word
word-alone from at [] near h = refl
word-alone from at (t ∷ ts) near h = by_case (is_word t.kind) (t.from == at) (grind arith)
  where
    by_case : (w b : Bool) → b ≡ false → extended (w && b) from at t ts ≡ record { kind = WordKind; from = from; to = at } ∷ t ∷ ts
    by_case true b e = ap (λ (c : Bool). extended c from at t ts) e
    by_case false b e = refl

-- a blank and a `)` end a word
abbrev pub Ends : ℕ → Type 0
Ends byte = (is_blank byte ≡ true) ⊎ (byte ≡ 41)

ends-word : (from at byte : ℕ) (bs : List ℕ) → from < at → Ends byte
    → with_word from at (tokens_from at (byte ∷ bs)) ≡ record { kind = WordKind; from = from; to = at } ∷ tokens_from at (byte ∷ bs)
unfolding tokens_from with_word
ends-word from at byte bs near (inl is) =
    let behind = tokens_from (at + 1) bs in
    let same : with_byte at byte behind ≡ behind = ap (λ b. cond b behind (with_bracket (bracket_of byte) at behind)) is in
    ap (with_word from at) same ∙ word-alone from at behind near (all-behind (at + 1) bs) ∙ ap (λ (ts : List Token). record { kind = WordKind; from = from; to = at } ∷ ts) (sym same)
ends-word from at byte bs near (inr is) =
    subst (λ (b : ℕ). with_word from at (tokens_from at (b ∷ bs)) ≡ record { kind = WordKind; from = from; to = at } ∷ tokens_from at (b ∷ bs)) (sym is) refl

first-byte : (at byte : ℕ) (bs : List ℕ) → is_of_word byte ≡ true → tokens_from at (byte ∷ bs) ≡ with_word at (at + 1) (tokens_from (at + 1) bs)
unfolding tokens_from
first-byte at byte bs own = by_case (is_blank byte) (bracket_of byte) own
  where
    behind : List Token
    behind = tokens_from (at + 1) bs

    by_case : (b : Bool) (o : Option Kind) → (not b && is_none o) ≡ true → cond b behind (with_bracket o at behind) ≡ with_word at (at + 1) behind
    by_case true o e = absurd (cc e)
    by_case false (Some kind) e = absurd (cc e)
    by_case false None e = refl

-- the tokens where a word stands first
word-first : (at first : ℕ) (more : List ℕ) (byte : ℕ) (bs : List ℕ) → is_of_word first ≡ true → list_all is_of_word more ≡ true → Ends byte
    → tokens_from at (first ∷ (more ++ byte ∷ bs)) ≡ record { kind = WordKind; from = at; to = at + suc (length more) } ∷ tokens_from (at + suc (length more)) (byte ∷ bs)
unfolding with_word
word-first at first [] byte bs own all end = first-byte at first (byte ∷ bs) own ∙ ends-word at (at + 1) byte bs (omega arith) end
word-first at first (x ∷ l) byte bs own all end =
    let two = and_parts (is_of_word x) (list_all is_of_word l) all in
    let far : at + 1 + suc (length l) ≡ at + suc (suc (length l)) = omega arith in
    first-byte at first (x ∷ (l ++ byte ∷ bs)) own
    ∙ ap (with_word at (at + 1)) (word-first (at + 1) x l byte bs two.0 two.1 end)
    ∙ ap (λ (b : Bool). extended b at (at + 1) (record { kind = WordKind; from = at + 1; to = at + 1 + suc (length l) }) (tokens_from (at + 1 + suc (length l)) (byte ∷ bs))) (eq-eqb (at + 1) (at + 1) refl)
    ∙ ap (λ (k : ℕ). record { kind = WordKind; from = at; to = k } ∷ tokens_from k (byte ∷ bs)) far

pub record Said (file text : List ℕ) (ts : List Token) (bs : List ℕ) : Type 0 where
  pub word : Word
  pub next : List Token
  pub stands : AWord word ts next
  pub says : text_of file word ≡ text
  -- without its last byte
  pub front : text_of file (record { from = word.from; to = word.to - 1 }) ≡ front_of text
  pub spot : Spot file next bs

pub said : (file text : List ℕ) (ts : List Token) (byte : ℕ) (bs : List ℕ) → is_a_word text ≡ true → Ends byte → Spot file ts (text ++ byte ∷ bs)
    → Said file text ts (byte ∷ bs)
said file [] ts byte bs is end s = absurd (cc is)
said file (first ∷ more) ts byte bs is end s =
    let two = and_parts (is_of_word first) (list_all is_of_word more) is in
    let to = s.at + length (first ∷ more) in
    let size : to - s.at ≡ length (first ∷ more) = omega arith in
    let fewer : to - 1 - s.at ≡ length (first ∷ more) - 1 = omega arith in
    record {
      word = record { from = s.at; to = to };
      next = tokens_from to (byte ∷ bs);
      stands = record { first = s.tokens ∙ word-first s.at first more byte bs two.0 two.1 end };
      says = ap (λ (k : ℕ). take k (drop s.at file)) size ∙ ap (take (length (first ∷ more))) s.left ∙ take-append_seam (first ∷ more) (byte ∷ bs);
      front = ap (λ (k : ℕ). take k (drop s.at file)) fewer ∙ ap (take (length (first ∷ more) - 1)) s.left
          ∙ take-append-le (length (first ∷ more) - 1) (first ∷ more) (byte ∷ bs) (omega arith);
      spot = record { at = to; left = drop-more s.at file (first ∷ more) (byte ∷ bs) s.left; tokens = refl };
    }
