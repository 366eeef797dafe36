-- The words of a line, and the sides of a word.
use Rattle.std.proofs.Common.{◌≡◌, ℕ, zero, suc, ◌+◌, ◌<◌, ◌≤◌, ⊎_elim, true, false, Bool, not, List, [], ◌∷◌, length, length-take-le, take, drop, Option, Some, None, refl, sym, ap, ◌∙◌, subst, arith}
use Rattle.std.specs.Prelude.{All, filter, ◌&&◌, ◌||◌, ◌==◌, slice_get, if◌then◌else◌}
use Rattle.std.specs.List.{slice_split, position_or_len, list_any, list_all}
use Rattle.std.proofs.Math.ListN.{get_or}
use Rattle.std.proofs.Math.Seq.{drop-cons}
use Rattle.std.proofs.lemmas.List.{take_all, drop_all, length-drop}
use Rattle.std.proofs.lemmas.List.Splits.{slice_split-cons_yes, slice_split_first, slice_split_none}
use Rattle.std.proofs.lemmas.List.Sums.{passes_at_first, fails_before_first}
use Rattle.std.proofs.lemmas.Option.{slice_get_cases}
use Rattle.std.proofs.lemmas.Bool.{or_cases, and_from}
use Rattle.std.proofs.lemmas.Bool.Decides.{Decides-eqb}
use Rattle.std.proofs.lemmas.List.{take-append-drop}
use Rattle.std.proofs.lemmas.List.Elements.{All-head, All-tail}
use Rattle.std.proofs.lemmas.List.Folds.{list_all-append}
use Rattle.spd_query.specs.Lines.{is_blank, may_stand, is_empty, words_of, is_equals, sides_of}
use Rattle.spd_query.specs.inner.Places.{IsAtWord, Stands}

abbrev is_word : List ℕ → Bool
is_word word = not (is_empty word)

-- a blank stands before no word
pub words-blank : (byte : ℕ) (line : List ℕ) → is_blank byte ≡ true → words_of (byte ∷ line) ≡ words_of line
words-blank byte line h = ap (filter is_word) (slice_split-cons_yes is_blank byte line h)

-- a word that isn't empty is kept
filter-word : (word : List ℕ) (others : List (List ℕ)) → is_empty word ≡ false → filter is_word (word ∷ others) ≡ word ∷ filter is_word others
filter-word [] others h = absurd (cc)
filter-word (byte ∷ bytes) others h = refl

take-some : (n byte : ℕ) (bytes : List ℕ) → 0 < n → is_empty (take n (byte ∷ bytes)) ≡ false
take-some zero byte bytes h = absurd (omega arith)
take-some (suc n) byte bytes h = refl

-- where the first one does not pass, the first that passes stands later
position-later : (p : ℕ → Bool) (byte : ℕ) (bytes : List ℕ) → p byte ≡ false → 0 < position_or_len p (byte ∷ bytes)
position-later p byte bytes h = rw h (omega arith)

first-word : (line : List ℕ) → 0 < length line → IsAtWord line → is_empty (take (position_or_len is_blank line) line) ≡ false
first-word [] some at = absurd (omega arith)
first-word (byte ∷ bytes) some at = take-some (position_or_len is_blank (byte ∷ bytes)) byte bytes (position-later is_blank byte bytes at)

-- the first word of a line, and the words behind it
pub words-first : (line : List ℕ) → 0 < length line → IsAtWord line → words_of line ≡ take (position_or_len is_blank line) line ∷ words_of (drop (position_or_len is_blank line) line)
words-first line some at =
    let n = position_or_len is_blank line in
    ⊎_elim
    (λ (t : (x : ℕ) × (n < length line) × (slice_get line n ≡ Some x) × (get_or line n x ≡ x)).
    let rest = drop (suc n) line in
    let next : drop n line ≡ get_or line n 0 ∷ rest = drop-cons line n 0 t.1 in
    let blank : is_blank (get_or line n 0) ≡ true = passes_at_first is_blank line 0 t.1 in
    let count : n + 1 ≡ suc n = omega arith in
    let more : drop (n + 1) line ≡ rest = ap (λ (k : ℕ). drop k line) count in
    ap (filter is_word) (slice_split_first is_blank line 0 t.1) ∙ filter-word (take n line) (slice_split is_blank (drop (n + 1) line)) (first-word line some at)
    ∙ ap (λ l. take n line ∷ words_of l) more ∙ ap (λ l. take n line ∷ l) (sym (ap words_of next ∙ words-blank (get_or line n 0) rest blank)))
    (λ (t : (length line ≤ n) × (slice_get line n ≡ None)).
    let none : slice_split is_blank line ≡ line ∷ [] = slice_split_none is_blank line (λ k d h. fails_before_first is_blank line k d (omega arith)) in
    let whole : take n line ≡ line = take_all n line t.0 in
    ap (filter is_word) none ∙ filter-word line [] (subst (λ (l : List ℕ). is_empty l ≡ false) whole (first-word line some at))
    ∙ ap (λ l. l ∷ []) (sym whole) ∙ ap (λ l. take n line ∷ words_of l) (sym (drop_all n line t.0)))
    (slice_get_cases line n).1

-- ---- the bytes of a line

blank-stands : (byte : ℕ) → is_blank byte ≡ true → may_stand byte ≡ true
blank-stands byte h =
    let when : (k : ℕ) → byte == k ≡ true → may_stand k ≡ true → may_stand byte ≡ true = λ k e stands. subst (λ (b : ℕ). may_stand b ≡ true) (sym ((Decides-eqb byte k).0 e)) stands in
    ⊎_elim (λ e. when 32 e refl) (λ h'. ⊎_elim (λ e. when 9 e refl) (λ e. when 13 e refl) (or_cases (byte == 9) (byte == 13) h')) (or_cases (byte == 32) (byte == 9 || byte == 13) h)

-- where the bytes of all words may stand, those of the line may
lines-stand : (n : ℕ) (line : List ℕ) → length line ≤ n → All Stands (words_of line) → Stands line
lines-stand n [] h all = refl
lines-stand zero (byte ∷ line) h all = absurd (omega arith)
lines-stand (suc n) (byte ∷ line) h all = by_head (is_blank byte) refl (λ rest shorter stand. lines-stand n rest shorter stand)
  where
    whole : List ℕ
    whole = byte ∷ line

    k : ℕ
    k = position_or_len is_blank whole

    by_head : (b : Bool) → is_blank byte ≡ b → ((rest : List ℕ) → length rest ≤ n → All Stands (words_of rest) → Stands rest) → Stands whole
    by_head true e behind = and_from (may_stand byte) (list_all may_stand line) (blank-stands byte e) (behind line (omega arith) (subst (All Stands) (words-blank byte line e) all))
    by_head false e behind =
        let parted : All Stands (take k whole ∷ words_of (drop k whole)) = subst (All Stands) (words-first whole (omega arith) e) all in
        let later = position-later is_blank byte line e in
        let rest : Stands (drop k whole) = behind (drop k whole) (omega (arith, length-drop k whole, later)) (All-tail Stands (take k whole) (words_of (drop k whole)) parted) in
        sym (ap (list_all may_stand) (take-append-drop k whole)) ∙ list_all-append may_stand (take k whole) (drop k whole)
        ∙ and_from (list_all may_stand (take k whole)) (list_all may_stand (drop k whole)) (All-head Stands (take k whole) (words_of (drop k whole)) parted) rest

pub words-stand : (line : List ℕ) → All Stands (words_of line) → Stands line
words-stand line = lines-stand (length line) line (omega arith)

-- ---- the sides of a word

-- what stands before place k and behind it, where neither is empty and no `=` stands behind it
abbrev sides_at : List ℕ → ℕ → Option (List ℕ × List ℕ)
sides_at word k =
    if not (is_empty (take k word)) && (not (is_empty (drop (k + 1) word)) && not (list_any is_equals (drop (k + 1) word))) then Some (take k word, drop (k + 1) word) else None

any-first : (p : ℕ → Bool) (xs : List ℕ) → position_or_len p xs < length xs → list_any p xs ≡ true
any-first p [] h = absurd (omega arith)
any-first p (x ∷ xs) h = by_head (p x) refl (λ within. any-first p xs within)
  where
    by_head : (b : Bool) → p x ≡ b → (position_or_len p xs < length xs → list_any p xs ≡ true) → list_any p (x ∷ xs) ≡ true
    by_head true e others = rw e refl
    by_head false e others = let h' = rw e at h in rw e (others (omega arith))

any-none : (p : ℕ → Bool) (xs : List ℕ) → length xs ≤ position_or_len p xs → list_any p xs ≡ false
any-none p [] h = refl
any-none p (x ∷ xs) h = by_head (p x) refl (λ past. any-none p xs past)
  where
    by_head : (b : Bool) → p x ≡ b → (length xs ≤ position_or_len p xs → list_any p xs ≡ false) → list_any p (x ∷ xs) ≡ false
    by_head true e others = let h' = rw e at h in absurd (omega arith)
    by_head false e others = let h' = rw e at h in rw e (others (omega arith))

empty-some : (xs : List ℕ) → 0 < length xs → is_empty xs ≡ false
empty-some [] h = absurd (omega arith)
empty-some (x ∷ xs) h = refl

module _ (word : List ℕ) (n : ℕ) (at : n ≡ position_or_len is_equals word) (some : 0 < n) (more : n + 1 < length word) where
  name : is_empty (take n word) ≡ false
  name = empty-some (take n word) (omega (arith, length-take-le n word (omega arith)))

  value : is_empty (drop (n + 1) word) ≡ false
  value = empty-some (drop (n + 1) word) (omega (arith, length-drop (n + 1) word))

  -- another `=` stands behind it
  pub sides-more : position_or_len is_equals (drop (n + 1) word) < length (drop (n + 1) word) → sides_of word ≡ None
  sides-more h = ap (sides_at word) (sym at) ∙ rw (name, value, any-first is_equals (drop (n + 1) word) h) refl

  -- both sides
  pub sides-both : length (drop (n + 1) word) ≤ position_or_len is_equals (drop (n + 1) word) → sides_of word ≡ Some (take n word, drop (n + 1) word)
  sides-both h = ap (sides_at word) (sym at) ∙ rw (name, value, any-none is_equals (drop (n + 1) word) h) refl
