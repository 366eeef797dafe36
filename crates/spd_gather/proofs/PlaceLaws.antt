-- The rows of places that are laid end to end.
use Rattle.std.proofs.Common.{◌≡◌, ◌⊎◌, inl, inr, ℕ, zero, suc, ◌+◌, ◌*◌, ◌<◌, ◌≤◌, List, [], ◌∷◌, ◌++◌, Option, None, Some, All, length, take, drop, get_or, set, refl, sym, ◌∙◌, ap, subst, arith, length-take, length-drop}
use Rattle.std.specs.Prelude.{Contains}
use Rattle.std.proofs.lemmas.List.Elements.{All-head, All-tail}
use Rattle.std.proofs.lemmas.List.{drop-drop, take_at, drop_at, take-append-le, drop-append-le, take-take, drop-take}
use Rattle.spd_cons_core.specs.declared.key.Entry.{Entry}
use Rattle.spd_gather.specs.Rows.{Row, rows_of}

Contains-here : (row : Row) (rows : List Row) → Contains (row ∷ rows) row
Contains-here row rows = (0, omega arith, refl)

Contains-later : (row first : Row) (rows : List Row) → Contains rows row → Contains (first ∷ rows) row
Contains-later row first rows h = (suc h.0, omega (arith, h.1), h.2)

Contains-cases : (row first : Row) (rows : List Row) → Contains (first ∷ rows) row → (row ≡ first) ⊎ Contains rows row
Contains-cases row first rows (zero, b, e) = inl (sym e)
Contains-cases row first rows (suc i, b, e) = inr (i, omega (arith, b), e)

-- the list of a place that has an answer is a row
pub row-at : (width : ℕ) (keys : List Entry) (answers : List (Option Entry)) (at : ℕ) (r : Entry) → at < length answers → get_or answers at None ≡ Some r
    → Contains (rows_of width keys answers) (take width (drop (at * width) keys), r)
row-at width keys [] at r h e = absurd (omega (arith, h))
row-at width keys (None ∷ answers) zero r h e = absurd (cc e)
row-at width keys (Some q ∷ answers) zero r h e =
    let z : 0 * width ≡ 0 = omega arith in
    let same : q ≡ r = cc in
    subst (λ (x : Entry). Contains (rows_of width keys (Some q ∷ answers)) (take width (drop (0 * width) keys), x)) same
    (rw z (Contains-here (take width keys, q) (rows_of width (drop width keys) answers)))
row-at width keys (None ∷ answers) (suc at) r h e =
    let z : suc at * width ≡ width + at * width = omega arith in
    let step : drop (width + at * width) keys ≡ drop (at * width) (drop width keys) = sym (drop-drop (at * width) width keys) in
    rw (z, step) (row-at width (drop width keys) answers at r (omega (arith, h)) e)
row-at width keys (Some q ∷ answers) (suc at) r h e =
    let z : suc at * width ≡ width + at * width = omega arith in
    let step : drop (width + at * width) keys ≡ drop (at * width) (drop width keys) = sym (drop-drop (at * width) width keys) in
    rw (z, step) (Contains-later _ (take width keys, q) _ (row-at width (drop width keys) answers at r (omega (arith, h)) e))

-- places with a list written over the place from `from` on
abbrev pub written : ℕ → List Entry → List Entry → List Entry
written from list keys = take from keys ++ (list ++ drop (length list) (drop from keys))

written-first : (list keys : List Entry) (from : ℕ) → length list ≤ from → from ≤ length keys → take (length list) (written from list keys) ≡ take (length list) keys
written-first list keys from h b =
    let room : length list ≤ length (take from keys) = omega (arith, length-take from keys) in
    take-append-le (length list) (take from keys) _ room ∙ take-take (length list) from keys h

written-later : (list keys : List Entry) (from : ℕ) → length list + from ≤ length keys → drop (length list) (written (length list + from) list keys) ≡ written from list (drop (length list) keys)
written-later list keys from b =
    let room : length list ≤ length (take (length list + from) keys) = omega (arith, length-take (length list + from) keys) in
    let step : drop (length list + from) keys ≡ drop from (drop (length list) keys) = sym (drop-drop from (length list) keys) in
    drop-append-le (length list) (take (length list + from) keys) _ room ∙ rw (drop-take (length list) from keys, step) refl

times-le : (a b k : ℕ) → a ≤ b → a * k ≤ b * k
times-le a b k h = grind arith

-- a row after a write is one before it, or what was written
pub row-written : (list keys : List Entry) (answers : List (Option Entry)) (at : ℕ) (r : Entry) → at < length answers → length keys ≡ length answers * length list → (row : Row)
    → Contains (rows_of (length list) (written (at * length list) list keys) (set answers at (Some r))) row → Contains (rows_of (length list) keys answers) row ⊎ (row ≡ (list, r))
row-written list keys [] at r h e row m = absurd (omega (arith, h))
row-written list keys (a ∷ answers) zero r h e row m =
    let z : 0 * length list ≡ 0 = omega arith in
    let d = drop (length list) keys in
    let whole : written (0 * length list) list keys ≡ list ++ d = rw z refl in
    let front : take (length list) (list ++ d) ≡ list = take_at list d (length list) refl in
    let back : drop (length list) (list ++ d) ≡ d = drop_at list d (length list) refl in
    let n : Contains ((list, r) ∷ rows_of (length list) d answers) row =
    subst (λ (p : List Entry). Contains ((p, r) ∷ rows_of (length list) d answers) row) front
    (subst (λ (p : List Entry). Contains ((take (length list) (list ++ d), r) ∷ rows_of (length list) p answers) row) back
    (subst (λ (ks : List Entry). Contains (rows_of (length list) ks (Some r ∷ answers)) row) whole m)) in
    elim (Contains-cases row (list, r) (rows_of (length list) (drop (length list) keys) answers) n) [
      | inl b ↦ inr b
      | inr b ↦ inl (more a b)
    ]
  where
    more : (a : Option Entry) → Contains (rows_of (length list) (drop (length list) keys) answers) row → Contains (rows_of (length list) keys (a ∷ answers)) row
    more None b = b
    more (Some q) b = Contains-later row (take (length list) keys, q) _ b
row-written list keys (None ∷ answers) (suc at) r h e row m =
    let n = length list in
    let z : suc at * n ≡ n + at * n = omega arith in
    let fits : at * n ≤ length answers * n = times-le at (length answers) n (omega (arith, h)) in
    let y : suc (length answers) * n ≡ n + length answers * n = omega arith in
    let room : n + at * n ≤ length keys = omega arith in
    let rest : length (drop n keys) ≡ length answers * n = omega (arith, length-drop n keys) in
    let back : drop n (written (suc at * n) list keys) ≡ written (at * n) list (drop n keys) = ap (λ j. drop n (written j list keys)) z ∙ written-later list keys (at * n) room in
    row-written list (drop n keys) answers at r (omega (arith, h)) rest row (subst (λ (ks : List Entry). Contains (rows_of n ks (set answers at (Some r))) row) back m)
row-written list keys (Some q ∷ answers) (suc at) r h e row m =
    let n = length list in
    let z : suc at * n ≡ n + at * n = omega arith in
    let fits : at * n ≤ length answers * n = times-le at (length answers) n (omega (arith, h)) in
    let y : suc (length answers) * n ≡ n + length answers * n = omega arith in
    let room : n + at * n ≤ length keys = omega arith in
    let rest : length (drop n keys) ≡ length answers * n = omega (arith, length-drop n keys) in
    let back : drop n (written (suc at * n) list keys) ≡ written (at * n) list (drop n keys) = ap (λ j. drop n (written j list keys)) z ∙ written-later list keys (at * n) room in
    let front : take n (written (suc at * n) list keys) ≡ take n keys = ap (λ j. take n (written j list keys)) z ∙ written-first list keys (n + at * n) (omega arith) room in
    let w : Contains ((take n keys, q) ∷ rows_of n (written (at * n) list (drop n keys)) (set answers at (Some r))) row =
    subst (λ (p : List Entry). Contains ((p, q) ∷ rows_of n (written (at * n) list (drop n keys)) (set answers at (Some r))) row) front
    (subst (λ (ks : List Entry). Contains ((take n (written (suc at * n) list keys), q) ∷ rows_of n ks (set answers at (Some r))) row) back m) in
    elim (Contains-cases row (take n keys, q) _ w) [
      | inl b ↦ inl (subst (λ (x : Row). Contains ((take n keys, q) ∷ rows_of n (drop n keys) answers) x) (sym b) (Contains-here (take n keys, q) (rows_of n (drop n keys) answers)))
      | inr b ↦ elim (row-written list (drop n keys) answers at r (omega (arith, h)) rest row b) [
        | inl c ↦ inl (Contains-later row (take n keys, q) _ c)
        | inr c ↦ inr c
      ]
    ]

-- empty places have no row
pub rows-none : (width : ℕ) (keys : List Entry) (answers : List (Option Entry)) → All (λ place. place ≡ None) answers → rows_of width keys answers ≡ []
rows-none width keys [] h = refl
rows-none width keys (None ∷ answers) h = rows-none width (drop width keys) answers (All-tail (λ place. place ≡ None) None answers h)
rows-none width keys (Some r ∷ answers) h = absurd (cc (All-head (λ place. place ≡ None) (Some r) answers h))

-- inside a list it doesn't matter what stands for what isn't there
get_or-inside : (xs : List (Option Entry)) (i : ℕ) (x y : Option Entry) → i < length xs → get_or xs i x ≡ get_or xs i y
get_or-inside [] i x y h = absurd (omega arith)
get_or-inside (z ∷ xs) zero x y h = refl
get_or-inside (z ∷ xs) (suc i) x y h = get_or-inside xs i x y (omega arith)

-- what a look-up finds is a row of what the table shows
pub row-found : (width : ℕ) (keys : List Entry) (answers : List (Option Entry)) (rows : List Row) (at : ℕ) (x : Option Entry) (list : List Entry) (r : Entry) → rows_of width keys answers ≡ rows → at < length answers
    → x ≡ get_or answers at x → x ≡ Some r → take width (drop (at * width) keys) ≡ list → Contains rows (list, r)
row-found width keys answers rows at x list r view near read some key =
    subst (λ (l : List Row). Contains l (list, r)) view
    (subst (λ (p : List Entry). Contains (rows_of width keys answers) (p, r)) key
    (row-at width keys answers at r near (get_or-inside answers at None x near ∙ sym read ∙ some)))

-- what a write leaves of what the table shows
pub rows-write : (width : ℕ) (list keys new : List Entry) (answers : List (Option Entry)) (rows : List Row) (at : ℕ) (r : Entry) → length list ≡ width → at < length answers → length keys ≡ length answers * width
    → new ≡ written (at * length list) list keys → rows_of width keys answers ≡ rows → (row : Row) → Contains (rows_of width new (set answers at (Some r))) row → Contains rows row ⊎ (row ≡ (list, r))
rows-write width list keys new answers rows at r same near count is view row m =
    let m' : Contains (rows_of (length list) (written (at * length list) list keys) (set answers at (Some r))) row =
    subst (λ (n : ℕ). Contains (rows_of n (written (at * length list) list keys) (set answers at (Some r))) row) (sym same)
    (subst (λ (ks : List Entry). Contains (rows_of width ks (set answers at (Some r))) row) is m) in
    elim (row-written list keys answers at r near (count ∙ ap (λ n. length answers * n) (sym same)) row m') [
      | inl b ↦ inl (subst (λ (l : List Row). Contains l row) (ap (λ n. rows_of n keys answers) same ∙ view) b)
      | inr b ↦ inr b
    ]
