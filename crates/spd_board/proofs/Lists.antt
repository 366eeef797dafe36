-- Lists of published items.
use Rattle.std.proofs.Common.{◌≡◌, ℕ, zero, suc, ◌+◌, ◌≤◌, ◌⊎◌, inl, inr, ⊎_elim, List, [], ◌∷◌, ◌++◌, length, length-append, Some, refl, sym, ap, ◌∙◌, subst, arith, append_assoc, append-nil}
use Rattle.std.specs.Prelude.{slice_get}
use Rattle.std.proofs.lemmas.Option.{slice_get_within}
use Rattle.spd_board.specs.Board.{GoesOn, EndsIn, IsNumbered}
use Rattle.spd_board.specs.inner.Inside.{published_with, IsWhole, IsReading}

module _ {T : Type 0} where
  -- an item of the front stands in the same place of the whole
  pub slice_get-front : (xs ys : List T) (k : ℕ) (a : T) → slice_get xs k ≡ Some a → slice_get (xs ++ ys) k ≡ Some a
  slice_get-front [] ys k a e = absurd (cc)
  slice_get-front (x ∷ xs) ys zero a e = e
  slice_get-front (x ∷ xs) ys (suc k) a e = slice_get-front xs ys k a e

  pub slice_get-last : (xs : List T) (x : T) → slice_get (xs ++ x ∷ []) (length xs) ≡ Some x
  slice_get-last [] x = refl
  slice_get-last (y ∷ ys) x = slice_get-last ys x

  -- an item of a longer list stands in the front, or is the last one
  slice_get-snoc : (xs : List T) (x a : T) (k : ℕ) → slice_get (xs ++ x ∷ []) k ≡ Some a → (slice_get xs k ≡ Some a) ⊎ ((k ≡ length xs) × (a ≡ x))
  slice_get-snoc [] x a zero e = inr (refl, cc)
  slice_get-snoc [] x a (suc k) e = absurd (cc)
  slice_get-snoc (y ∷ ys) x a zero e = inl e
  slice_get-snoc (y ∷ ys) x a (suc k) e = ⊎_elim inl (λ (t : (k ≡ length ys) × (a ≡ x)). inr (ap suc t.0, t.1)) (slice_get-snoc ys x a k e)

  pub front-same : (xs : List T) → GoesOn xs xs
  front-same xs = record { rest = []; split = sym (append-nil xs) }

  pub front-longer : (xs ys : List T) (y : T) → GoesOn xs ys → GoesOn xs (ys ++ y ∷ [])
  front-longer xs ys y h = record { rest = h.rest ++ y ∷ []; split = ap (λ (l : List T). l ++ y ∷ []) h.split ∙ append_assoc xs h.rest (y ∷ []) }

  -- a front that is no shorter is the whole
  pub front-whole : (xs ys : List T) → GoesOn xs ys → length ys ≤ length xs → ys ≡ xs
  front-whole xs ys h long =
      let count : length ys ≡ length xs + length h.rest = ap length h.split ∙ length-append xs h.rest in
      h.split ∙ ap (λ (l : List T). xs ++ l) (none h.rest (omega arith)) ∙ append-nil xs
    where
      none : (l : List T) → length l ≤ 0 → l ≡ []
      none [] h = refl
      none (x ∷ l) h = absurd (omega arith)

  pub published_with-snoc : (xs : List T) (x y : T) → published_with (xs ++ x ∷ []) y ≡ xs ++ x ∷ []
  published_with-snoc [] x y = refl
  published_with-snoc (z ∷ xs) x y = refl

module _ {T : Type 0} (nr : T → ℕ) where
  -- the number of the last item
  pub newest-number : (items : List T) (x : T) → IsNumbered nr items → EndsIn items x → nr x + 1 ≡ length items
  newest-number items x numbered ends =
      let here : slice_get items (length ends.others) ≡ Some x = subst (λ (l : List T). slice_get l (length ends.others) ≡ Some x) (sym ends.split) (slice_get-last ends.others x) in
      let number : nr x ≡ length ends.others = numbered (length ends.others) x here in
      omega (arith, ap length ends.split, length-append ends.others (x ∷ []))

  pub numbered-snoc : (items : List T) (x : T) → IsNumbered nr items → nr x ≡ length items → IsNumbered nr (items ++ x ∷ [])
  numbered-snoc items x numbered number k a e =
      ⊎_elim (λ (t : slice_get items k ≡ Some a). numbered k a t) (λ (t : (k ≡ length items) × (a ≡ x)). ap nr t.1 ∙ number ∙ sym t.0) (slice_get-snoc items x a k e)

  pub numbered-one : (x : T) → nr x ≡ 0 → IsNumbered nr (x ∷ [])
  numbered-one x number = numbered-snoc [] x (λ k a e. absurd (cc)) number

  -- the newest item is no older than one that stands among all of them
  pub newest-highest : (items : List T) (x a : T) → IsNumbered nr items → EndsIn items x → slice_get items (nr a) ≡ Some a → nr a ≤ nr x
  newest-highest items x a numbered ends there =
      let within = slice_get_within items (nr a) a there in
      let number = newest-number items x numbered ends in
      omega arith

  -- what the writer has published is all that was published
  pub all-published : (seen published : List T) (x : T) → IsWhole nr (published_with seen x) x → GoesOn seen published → IsNumbered nr published → EndsIn published x
      → published ≡ published_with seen x
  all-published [] published x whole on numbered ends =
      let number = newest-number (x ∷ []) x whole.numbered whole.newest in
      let count = newest-number published x numbered ends in
      let alone : ends.others ≡ [] = none ends.others (omega (arith, ap length ends.split, length-append ends.others (x ∷ []))) in
      ends.split ∙ ap (λ (l : List T). l ++ x ∷ []) alone
    where
      none : (l : List T) → length l ≤ 0 → l ≡ []
      none [] h = refl
      none (x ∷ l) h = absurd (omega arith)
  all-published (y ∷ ys) published x whole on numbered ends =
      let number = newest-number (y ∷ ys) x whole.numbered whole.newest in
      let count = newest-number published x numbered ends in
      front-whole (y ∷ ys) published on (omega arith)

  -- what a reader keeps stays so where more was published, and where it takes the newest item
  pub reading-later : (before now : List T) (last : T) → IsReading nr record { seen = before; last = last } → GoesOn before now → IsNumbered nr now → IsReading nr record { seen = now; last = last }
  reading-later before now last kept on numbered = record {
    numbered = numbered;
    published = ⊎_elim (λ (t : slice_get before (nr last) ≡ Some last).
        inl (subst (λ (l : List T). slice_get l (nr last) ≡ Some last) (sym on.split) (slice_get-front before on.rest (nr last) last t))) inr kept.published;
  }

  pub reading-newest : (now : List T) (x : T) → IsNumbered nr now → EndsIn now x → IsReading nr record { seen = now; last = x }
  reading-newest now x numbered ends =
      let here : slice_get now (length ends.others) ≡ Some x = subst (λ (l : List T). slice_get l (length ends.others) ≡ Some x) (sym ends.split) (slice_get-last ends.others x) in
      record { numbered = numbered; published = inl (subst (λ (k : ℕ). slice_get now k ≡ Some x) (sym (numbered (length ends.others) x here)) here) }

  -- the newest item is no older than the one that was answered before
  pub newest-later : (before now : List T) (last x : T) → IsReading nr record { seen = before; last = last } → GoesOn before now → IsNumbered nr now → EndsIn now x → nr last ≤ nr x
  newest-later before now last x kept on numbered ends =
      let later = reading-later before now last kept on numbered in
      ⊎_elim (λ (t : slice_get now (nr last) ≡ Some last). newest-highest now x last numbered ends t) (λ (t : nr last ≡ 0). omega arith) later.published
