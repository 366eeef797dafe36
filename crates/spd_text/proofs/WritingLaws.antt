-- Texts that are written one after another, by way of bytes that wait.
use Rattle.spd_edge.specs.declared.outside.Failed.{Failed}
use Rattle.std.proofs.lemmas.List.{take_at}
use Rattle.std.proofs.Common.{◌≡◌, ◌<◌, ◌≤◌, ℕ, length, take, drop, take-append-drop, length-append, arith, List, [], ◌++◌, Ok, Err, Result, refl, sym, ap, ◌∙◌, subst, append_assoc, append-nil}
use Rattle.std.specs.Prelude.{OnOk, OnErr, IsOk, IsErr}
use Rattle.spd_edge.specs.Counts.{Rose}
use Rattle.spd_edge.specs.Told.{Took, TookFront}
use Rattle.spd_edge.proofs.CallerLemmas.{Took-trans, Took-nothing}
use Rattle.spd_text.specs.Writing.{Wrote, Counted}
use Rattle.spd_text.specs.inner.Pieces.{Shown, Writes}

-- nothing was written yet
pub writes-nothing : {T E : Type 0} (a : Shown) (w : List ℕ) (x : T) → Writes {T = T} {E = E} a w [] (Ok x) a w
writes-nothing a w x = record { front = []; rest = w; split = append-nil w; took = Took-nothing a.taken; kept = refl; count = refl; named = refl }

-- a text behind another
pub writes-then : {S T E : Type 0} (a b c : Shown) (v w z xs ys : List ℕ) (x : S) (r : Result T E) → Writes {T = S} {E = E} a v xs (Ok x) b w → Writes b w ys r c z → Writes a v (xs ++ ys) r c z
writes-then {S} {T} {E} a b c v w z xs ys x r h k = record {
  front = h.front ++ k.front;
  rest = k.rest;
  split = sym (append_assoc v xs ys) ∙ ap (λ l. l ++ ys) h.split ∙ append_assoc h.front h.rest ys ∙ ap (λ l. h.front ++ l) (ap (λ l. l ++ ys) (sym h.kept) ∙ k.split) ∙ sym (append_assoc h.front k.front k.rest);
  took = Took-trans a.taken b.taken c.taken h.front k.front h.took k.took;
  kept = k.kept;
  count = subst (λ (n : ℕ). Counted n r c.faults) h.count k.count;
  named = k.named ∙ h.named;
}

-- a text that failed, with more behind it
pub writes-failed : {S T E : Type 0} (a b : Shown) (v w z xs ys : List ℕ) (e e' : E) → Writes {T = S} a v xs (Err e) b w → Writes {T = T} a v (xs ++ ys) (Err e') b z
writes-failed a b v w z xs ys e e' h = record {
  front = h.front;
  rest = h.rest ++ ys;
  split = sym (append_assoc v xs ys) ∙ ap (λ l. l ++ ys) h.split ∙ append_assoc h.front h.rest ys;
  took = h.took;
  kept = tt;
  count = h.count;
  named = h.named;
}

-- the same text
pub writes-as : {T E : Type 0} (a b : Shown) (v w xs ys : List ℕ) (r : Result T E) → xs ≡ ys → Writes a v xs r b w → Writes a v ys r b w
writes-as a b v w xs ys r e h = subst (λ (l : List ℕ). Writes a v l r b w) e h

-- what `write_all_of` says of bytes that waited
pub writes-flushed : (a b : Shown) (w z : List ℕ) (r : Result (Unit {0}) Failed) → z ≡ [] → OnOk r (Took a.taken w b.taken) → OnOk r (b.faults ≡ a.faults)
    → OnErr r ((n : ℕ) × (n < length w) × Took a.taken (take n w) b.taken) → OnErr r (Rose a.faults b.faults) → a.faults ≤ b.faults → b.name ≡ a.name → Writes a w [] r b z
writes-flushed a b w z (Ok x) e took same front rose falls named =
    record { front = w; rest = []; split = refl; took = took; kept = e; count = same; named = named }
writes-flushed a b w z (Err f) e took same front rose falls named = record {
  front = take front.0 w;
  rest = drop front.0 w;
  split = append-nil w ∙ sym (take-append-drop front.0 w);
  took = front.2;
  kept = tt;
  count = (rose, falls);
  named = named;
}

-- and of a piece behind which nothing waits
pub writes-through : (a b : Shown) (w xs : List ℕ) (r : Result (Unit {0}) Failed) → w ≡ [] → OnOk r (Took a.taken xs b.taken) → OnOk r (b.faults ≡ a.faults)
    → OnErr r ((n : ℕ) × (n < length xs) × Took a.taken (take n xs) b.taken) → OnErr r (Rose a.faults b.faults) → a.faults ≤ b.faults → b.name ≡ a.name → Writes a w xs r b w
writes-through a b w xs (Ok x) e took same front rose falls named =
    record { front = xs; rest = []; split = ap (λ l. l ++ xs) e ∙ sym (append-nil xs); took = took; kept = e; count = same; named = named }
writes-through a b w xs (Err f) e took same front rose falls named = record {
  front = take front.0 xs;
  rest = drop front.0 xs;
  split = ap (λ l. l ++ xs) e ∙ sym (take-append-drop front.0 xs);
  took = front.2;
  kept = tt;
  count = (rose, falls);
  named = named;
}

-- a piece that waits
pub writes-waiting : {T E : Type 0} (a : Shown) (w xs z : List ℕ) (x : T) → z ≡ w ++ xs → Writes {T = T} {E = E} a w xs (Ok x) a z
writes-waiting a w xs z x e = record { front = []; rest = w ++ xs; split = refl; took = Took-nothing a.taken; kept = e; count = refl; named = refl }

-- a front of a text
pub writes-front : {T E : Type 0} (a b : Shown) (text z : List ℕ) (f : E) → Writes {T = T} a [] text (Err f) b z → TookFront a.taken text b.taken
writes-front a b text z f h = (
  length h.front,
  omega (arith, ap length h.split, length-append h.front h.rest),
  subst (λ (t : List ℕ). Took a.taken t b.taken) (sym (ap (take (length h.front)) h.split ∙ take_at h.front h.rest (length h.front) refl)) h.took,
)

-- what was written of a whole text, behind which nothing waits any more
pub writes-whole : {T E : Type 0} (a b : Shown) (text z : List ℕ) (r : Result T E) → z ≡ [] → Writes a [] text r b z → Wrote a.taken text r b.taken
writes-whole a b text z (Ok x) e h =
    let all : text ≡ h.front = h.split ∙ ap (λ l. h.front ++ l) (sym h.kept ∙ e) ∙ append-nil h.front in
    subst (λ (t : List ℕ). Took a.taken t b.taken) (sym all) h.took
writes-whole a b text z (Err f) e h = writes-front a b text z f h

-- what is returned where a text failed, with more behind it
pub writes-exit : {S T E : Type 0} (a b : Shown) (v w z xs whole more : List ℕ) (e : E) (r : Result T E) → IsErr r → whole ≡ xs ++ more → Writes {T = S} a v xs (Err e) b w → Writes a v whole r b z
writes-exit a b v w z xs whole more e (Ok x) h same k = cc
writes-exit a b v w z xs whole more e (Err f) h same k = writes-as a b v z (xs ++ more) whole (Err f) (sym same) (writes-failed a b v w z xs more e f k)

-- what was written of a whole text that failed
pub writes-part : {T E : Type 0} (a b : Shown) (text z : List ℕ) (r : Result T E) → IsErr r → Writes a [] text r b z → Wrote a.taken text r b.taken
writes-part a b text z (Ok x) e h = cc
writes-part a b text z (Err f) e h = writes-front a b text z f h

-- a fact on success, where there is success
pub on-ok : {T E P : Type 0} (r : Result T E) → IsOk r → OnOk r P → P
on-ok (Ok x) e h = h
on-ok (Err f) e h = cc
