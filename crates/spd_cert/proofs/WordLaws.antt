-- Words: what is read of a text is the text, and what is written is read.
use Rattle.std.proofs.Common.{◌≡◌, ℕ, suc, ◌+◌, ◌<◌, Bool, true, false, cond, eqb, ltb, ◌||◌, not, List, [], ◌∷◌, ◌++◌, length, take, drop, get_or, Option, Some, None, Result, Ok, Err, refl, sym, ap, subst, ◌∙◌, arith, append_assoc, length-append}
use Rattle.std.specs.Prelude.{bytes_eq, position}
use Rattle.std.specs.List.{list_all, position_or_len}
use Rattle.std.proofs.lemmas.Bool.{and_parts, and_from, eqb-true, ltb-true, lt-ltb}
use Rattle.std.proofs.lemmas.List.{take_at, drop_at}
use Rattle.std.proofs.lemmas.List.Sums.{split_at_first, passes_at_first}
use Rattle.std.proofs.lemmas.Slice.Eq.{bytes_eq-Decides}
use Rattle.spd_cert.specs.declared.ending.Kind.{Kind}
use Rattle.spd_cert.specs.declared.ending.Kind.TheVariants.{Expected}
use Rattle.spd_cert.specs.declared.ending.Stop.{Stop}
use Rattle.spd_cert.specs.declared.word.Ender.{Ender}
use Rattle.spd_cert.specs.declared.word.Ender.TheVariants.{Space, Line}
use Rattle.spd_cert.specs.Grammar.{IsWord}
use Rattle.spd_cert.specs.Reading.{◌>>=◌, stop, Word, is_break, ender_of, word_of, word_at, behind_space, goes_on, behind_line, ends, wanted, keyword, field, last, field_at}

-- ---- steps

-- the value of a step at which reading didn't stop
pub bind_ok : {A B : Type 0} (r : Result A Stop) (f : A → Result B Stop) (y : B) → (r >>= f) ≡ Ok y → (x : A) × (r ≡ Ok x) × (f x ≡ Ok y)
bind_ok (Ok x) f y e = (x, refl, e)
bind_ok (Err d) f y e = absurd cc

abbrev pub done : {A : Type 0} → A → Result A Stop
done x = Ok x

pub ok_is : {A : Type 0} (x y : A) → done x ≡ done y → x ≡ y
ok_is x y e = cc

-- a test that had to pass
pub passed : {A : Type 0} (b : Bool) (x : Result A Stop) (d : Stop) (y : A) → cond b x (Err d) ≡ Ok y → (b ≡ true) × (x ≡ Ok y)
passed true x d y e = (refl, e)
passed false x d y e = absurd cc

pub wanted_ok : {A : Type 0} (w : Word) (kind : Kind) (o : Option A) (x : A) → wanted w kind o ≡ Ok x → o ≡ Some x
wanted_ok w kind None x e = absurd cc
wanted_ok w kind (Some y) x e = ap (λ z. Some z) (ok_is y x e)

-- ---- the end of a word

-- the first byte that passes a test stands behind those that fail it
module _ (test : ℕ → Bool) where
  first_place : (w : List ℕ) (b : ℕ) (rest : List ℕ) → list_all (λ c. not (test c)) w ≡ true → test b ≡ true → position_or_len test (w ++ b ∷ rest) ≡ length w
  first_place [] b rest fail passes = ap (λ t. cond (not t) (1 + position_or_len test rest) 0) passes
  first_place (c ∷ cs) b rest fail passes =
      let parts = and_parts (not (test c)) (list_all (λ d. not (test d)) cs) fail in
      let more = first_place cs b rest parts.1 passes in
      ap (λ t. cond t (1 + position_or_len test (cs ++ b ∷ rest)) 0) parts.0 ∙ omega (arith, more)

  pub first_found : (w : List ℕ) (b : ℕ) (rest : List ℕ) → list_all (λ c. not (test c)) w ≡ true → test b ≡ true → position test (w ++ b ∷ rest) ≡ Some (length w)
  first_found w b rest fail passes =
      let bytes = w ++ b ∷ rest in
      let long = length-append w (b ∷ rest) in
      ap (λ (n : ℕ). cond (ltb n (length bytes)) (Some n) None) (first_place w b rest fail passes) ∙ ap (λ t. cond t (Some (length w)) None) (lt-ltb (length w) (length bytes) (omega (arith, long)))

-- what stands before a byte, the byte, and what stands behind it
pub front_at : (w : List ℕ) (b : ℕ) (rest : List ℕ) → take (length w) (w ++ b ∷ rest) ≡ w
front_at w b rest = take_at w (b ∷ rest) (length w) refl

pub byte_at : (w : List ℕ) (b : ℕ) (rest : List ℕ) → get_or (w ++ b ∷ rest) (length w) 0 ≡ b
byte_at [] b rest = refl
byte_at (c ∷ cs) b rest = byte_at cs b rest

pub behind_at : (w : List ℕ) (b : ℕ) (rest : List ℕ) → drop (length w + 1) (w ++ b ∷ rest) ≡ rest
behind_at w b rest = ap (drop (length w + 1)) (sym (append_assoc w (b ∷ []) rest)) ∙ drop_at (w ++ b ∷ []) rest (length w + 1) (length-append w (b ∷ []))

-- a word that is written is read
pub word_read : (w : List ℕ) (b : ℕ) (rest : List ℕ) → IsWord w → is_break b ≡ true
    → word_at (w ++ b ∷ rest) ≡ Ok (record { left = length (w ++ b ∷ rest); text = w; ender = ender_of b; rest = rest })
unfolding word_at
word_read w b rest word stops =
    let bytes = w ++ b ∷ rest in
    let text = front_at w b rest in
    let byte = byte_at w b rest in
    let behind = behind_at w b rest in
    ap (word_of bytes) (first_found is_break w b rest word stops)
    ∙ (λ i. Ok (record { left = length bytes; text = text i; ender = ender_of (byte i); rest = behind i }))

-- what was read as a word stands in the bytes, with the byte that ends it
pub record IsRead (bytes : List ℕ) (w : Word) : Type 0 where
  pub byte : ℕ
  pub stops : is_break byte ≡ true
  pub parts : bytes ≡ w.text ++ byte ∷ w.rest
  pub word : IsWord w.text
  pub ender : w.ender ≡ ender_of byte

front_word : (bytes : List ℕ) → IsWord (take (position_or_len is_break bytes) bytes)
front_word [] = refl
front_word (c ∷ cs) = by (front_word cs) (is_break c) refl
  where
    by : IsWord (take (position_or_len is_break cs) cs) → (b : Bool) → is_break c ≡ b → IsWord (take (cond (not b) (1 + position_or_len is_break cs) 0) (c ∷ cs))
    by more true e = refl
    by more false e =
        let next : 1 + position_or_len is_break cs ≡ suc (position_or_len is_break cs) = omega arith in
        subst (λ (n : ℕ). IsWord (take n (c ∷ cs))) (sym next) (and_from (not (is_break c)) (list_all (λ d. not (is_break d)) (take (position_or_len is_break cs) cs)) (ap not e) more)

pub word_told : (bytes : List ℕ) (w : Word) → word_at bytes ≡ Ok w → IsRead bytes w
unfolding word_at
word_told bytes w e = by (ltb (position_or_len is_break bytes) (length bytes)) refl e
  where
    by : (b : Bool) → ltb (position_or_len is_break bytes) (length bytes) ≡ b → word_of bytes (cond b (Some (position_or_len is_break bytes)) None) ≡ Ok w → IsRead bytes w
    by false t is = absurd cc
    by true t is =
        let n = position_or_len is_break bytes in
        let within : n < length bytes = ltb-true n (length bytes) t in
        let read : Word = record { left = length bytes; text = take n bytes; ender = ender_of (get_or bytes n 0); rest = drop (n + 1) bytes } in
        subst (λ (v : Word). IsRead bytes v) (ok_is read w is) (record {
          byte = get_or bytes n 0;
          stops = passes_at_first is_break bytes 0 within;
          parts = split_at_first is_break bytes 0 within;
          word = front_word bytes;
          ender = refl;
        })

-- ---- what ends it

behind_space_told : (e : Ender) (r rest : List ℕ) → behind_space e r ≡ Ok rest → (e ≡ Space) × (r ≡ rest)
behind_space_told Space r rest e = (refl, ok_is r rest e)
behind_space_told Line r rest e = absurd cc

never : (r : Result Word Stop) (rest : List ℕ) → (r >>= λ more. stop {A = List ℕ} Expected more.left) ≡ Ok rest → ⊥
never (Ok w) rest e = absurd cc
never (Err s) rest e = absurd cc

behind_line_told : (e : Ender) (r rest : List ℕ) → behind_line e r ≡ Ok rest → (e ≡ Line) × (r ≡ rest)
behind_line_told Line r rest e = (refl, ok_is r rest e)
behind_line_told Space r rest e = absurd (never (word_at r) rest e)

space_byte : (b : ℕ) → is_break b ≡ true → ender_of b ≡ Space → b ≡ 32
space_byte b stops e = by (eqb b 10) stops e
  where
    by : (t : Bool) → (eqb b 32 || t) ≡ true → cond t Line Space ≡ Space → b ≡ 32
    by true s is = absurd cc
    by false s is = eqb-true b 32 (alone (eqb b 32) s)
      where
        alone : (x : Bool) → (x || false) ≡ true → x ≡ true
        alone true h = refl
        alone false h = h

line_byte : (b : ℕ) → ender_of b ≡ Line → b ≡ 10
line_byte b e = by (eqb b 10) refl e
  where
    by : (t : Bool) → eqb b 10 ≡ t → cond t Line Space ≡ Line → b ≡ 10
    by true t is = eqb-true b 10 t
    by false t is = absurd cc

-- a word before a space
pub space_told : (bytes : List ℕ) (w : Word) (rest : List ℕ) → word_at bytes ≡ Ok w → goes_on w ≡ Ok rest → (bytes ≡ w.text ++ 32 ∷ rest) × IsWord w.text
space_told bytes w rest e on =
    let told = word_told bytes w e in
    let behind = behind_space_told w.ender w.rest rest on in
    let byte : told.byte ≡ 32 = space_byte told.byte told.stops (sym told.ender ∙ behind.0) in
    (told.parts ∙ (λ i. w.text ++ byte i ∷ behind.1 i), told.word)

-- the last word of a line
pub line_told : (bytes : List ℕ) (w : Word) (rest : List ℕ) → word_at bytes ≡ Ok w → ends w ≡ Ok rest → (bytes ≡ w.text ++ 10 ∷ rest) × IsWord w.text
line_told bytes w rest e on =
    let told = word_told bytes w e in
    let behind = behind_line_told w.ender w.rest rest on in
    let byte : told.byte ≡ 10 = line_byte told.byte (sym told.ender ∙ behind.0) in
    (told.parts ∙ (λ i. w.text ++ byte i ∷ behind.1 i), told.word)

-- a word before a space, and the last word of a line, are read
abbrev pub before_space : List ℕ → List ℕ → Word
before_space w rest = record { left = length (w ++ 32 ∷ rest); text = w; ender = Space; rest = rest }

abbrev pub before_line : List ℕ → List ℕ → Word
before_line w rest = record { left = length (w ++ 10 ∷ rest); text = w; ender = Line; rest = rest }

pub space_read : (w rest : List ℕ) → IsWord w → word_at (w ++ 32 ∷ rest) ≡ Ok (before_space w rest)
space_read w rest word = word_read w 32 rest word refl

pub line_read : (w rest : List ℕ) → IsWord w → word_at (w ++ 10 ∷ rest) ≡ Ok (before_line w rest)
line_read w rest word = word_read w 10 rest word refl

-- ---- a word of the grammar

pub keyword_told : (k bytes rest : List ℕ) → keyword k bytes ≡ Ok rest → bytes ≡ k ++ 32 ∷ rest
unfolding keyword
keyword_told k bytes rest e =
    let a = bind_ok (word_at bytes) (λ w. cond (bytes_eq w.text k) (goes_on w) (stop Expected w.left)) rest e in
    let t = passed (bytes_eq a.0.text k) (goes_on a.0) (record { kind = Expected; left = a.0.left }) rest a.2 in
    (space_told bytes a.0 rest a.1 t.1).0 ∙ ap (λ (x : List ℕ). x ++ 32 ∷ rest) ((bytes_eq-Decides a.0.text k).0 t.0)

pub keyword_read : (k rest : List ℕ) → IsWord k → keyword k (k ++ 32 ∷ rest) ≡ Ok rest
unfolding keyword
keyword_read k rest word = rw (space_read k rest word) (ap (λ b. cond b (Ok rest) (stop Expected (length (k ++ 32 ∷ rest)))) ((bytes_eq-Decides k k).1 refl))

-- ---- lines of a word of the grammar and a value

module _ {A : Type 0} (kind : Kind) (value : List ℕ → Option A) where
  pub last_told : (bytes : List ℕ) (x : A) (rest : List ℕ) → (word_at bytes >>= last kind value) ≡ Ok (x, rest)
      → (w : List ℕ) × (bytes ≡ w ++ 10 ∷ rest) × IsWord w × (value w ≡ Some x)
  last_told bytes x rest e =
      let a = bind_ok (word_at bytes) (last kind value) (x, rest) e in
      let b = bind_ok (wanted a.0 kind (value a.0.text)) (λ y. ends a.0 >>= λ r. Ok (y, r)) (x, rest) a.2 in
      let c = bind_ok (ends a.0) (λ r. Ok (b.0, r)) (x, rest) b.2 in
      let both = ok_is (b.0, c.0) (x, rest) c.2 in
      let told = line_told bytes a.0 c.0 a.1 c.1 in
      let said = wanted_ok a.0 kind (value a.0.text) b.0 b.1 in
      (a.0.text, told.0 ∙ ap (λ (p : A × List ℕ). a.0.text ++ 10 ∷ p.1) both, told.1, said ∙ ap (λ (p : A × List ℕ). Some p.0) both)

  pub last_read : (w : List ℕ) (x : A) (rest : List ℕ) → IsWord w → value w ≡ Some x → (word_at (w ++ 10 ∷ rest) >>= last kind value) ≡ Ok (x, rest)
  last_read w x rest word is = rw (line_read w rest word) (ap (λ (o : Option A). wanted (before_line w rest) kind o >>= λ y. Ok (y, rest)) is)

  pub field_told : (k bytes : List ℕ) (x : A) (rest : List ℕ) → field_at k kind value bytes ≡ Ok (x, rest)
      → (w : List ℕ) × (bytes ≡ k ++ 32 ∷ (w ++ 10 ∷ rest)) × IsWord w × (value w ≡ Some x)
  unfolding field_at
  field_told k bytes x rest e =
      let a = bind_ok (field k bytes) (last kind value) (x, rest) e in
      let b = bind_ok (keyword k bytes) word_at a.0 a.1 in
      let c = last_told b.0 x rest (ap (λ (r : Result Word Stop). r >>= last kind value) b.2 ∙ a.2) in
      (c.0, keyword_told k bytes b.0 b.1 ∙ ap (λ (r : List ℕ). k ++ 32 ∷ r) c.1, c.2, c.3)

  pub field_read : (k w : List ℕ) (x : A) (rest : List ℕ) → IsWord k → IsWord w → value w ≡ Some x → field_at k kind value (k ++ 32 ∷ (w ++ 10 ∷ rest)) ≡ Ok (x, rest)
  unfolding field_at
  field_read k w x rest key word is =
      ap (λ (r : Result (List ℕ) Stop). (r >>= word_at) >>= last kind value) (keyword_read k (w ++ 10 ∷ rest) key) ∙ last_read w x rest word is
