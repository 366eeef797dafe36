-- What is known after one more entry was learned, and after a join.
use Rattle.std.proofs.Common.{◌≡◌, ◌⊎◌, ℕ, zero, suc, Bool, true, false, eqb, List, [], ◌∷◌, ◌++◌, refl, sym, ap, ◌∙◌, subst, inl, inr, ⊎_elim, arith}
use Rattle.std.specs.List.{Contains, list_any, fold}
use Rattle.std.proofs.lemmas.Bool.{true≢false, eqb-true, eq-eqb, or_cases, or_left, or_right, cond_both, and_parts, and_from}
use Rattle.std.proofs.lemmas.List.Elements.{Contains-push_cases, Contains-append_left}
use Rattle.spd_cons_core.specs.declared.key.Entry.{Entry}
use Rattle.spd_cons_core.specs.declared.key.Key.{Key}
use Rattle.spd_cons_core.specs.declared.key.Key.TheVariants.{Test, Num, Pair, Act}
use Rattle.spd_cons_core.specs.declared.mind.Known.{Known}
use Rattle.spd_cons_core.specs.Seats.{is_known, parts_known, learned}

-- an element of a longer list
pub contains_cons : {A : Type 0} (x : A) (xs : List A) (y : A) → Contains xs y → Contains (x ∷ xs) y
contains_cons x xs y at = (suc at.0, omega (arith, at.1), at.2)

pub contains_cases : {A : Type 0} (x : A) (xs : List A) (y : A) → Contains (x ∷ xs) y → (x ≡ y) ⊎ Contains xs y
contains_cases x xs y (zero, within, is) = inl is
contains_cases x xs y (suc k, within, is) = inr (k, omega arith, is)

any_at : {A : Type 0} (p : A → Bool) (xs : List A) → list_any p xs ≡ true → (y : A) × Contains xs y × (p y ≡ true)
any_at p [] e = absurd (true≢false (sym e))
any_at p (x ∷ xs) e = ⊎_elim
    (λ (here : p x ≡ true). (x, (0, omega arith, refl), here))
    (λ (later : list_any p xs ≡ true). let r = any_at p xs later in (r.0, contains_cons x xs r.0 r.1, r.2))
    (or_cases (p x) (list_any p xs) e)

any_from : {A : Type 0} (p : A → Bool) (xs : List A) (y : A) → Contains xs y → p y ≡ true → list_any p xs ≡ true
any_from p [] y at e = absurd (omega (arith, at.1))
any_from p (x ∷ xs) y at e = ⊎_elim
    (λ (same : x ≡ y). or_left (p x) (list_any p xs) (ap p same ∙ e))
    (λ (later : Contains xs y). or_right (p x) (list_any p xs) (any_from p xs y later e))
    (contains_cases x xs y at)

any_left : {A : Type 0} (p : A → Bool) (xs ys : List A) → list_any p xs ≡ true → list_any p (xs ++ ys) ≡ true
any_left p [] ys e = absurd (true≢false (sym e))
any_left p (x ∷ xs) ys e = ⊎_elim
    (λ (here : p x ≡ true). or_left (p x) (list_any p (xs ++ ys)) here)
    (λ (later : list_any p xs ≡ true). or_right (p x) (list_any p (xs ++ ys)) (any_left p xs ys later))
    (or_cases (p x) (list_any p xs) e)

any_last : {A : Type 0} (p : A → Bool) (xs : List A) (y : A) → p y ≡ true → list_any p (xs ++ y ∷ []) ≡ true
any_last p [] y e = or_left (p y) false e
any_last p (x ∷ xs) y e = or_right (p x) (list_any p (xs ++ y ∷ [])) (any_last p xs y e)

-- an entry that is known stands in the list
pub known_at : (xs : List Known) (e : Entry) → is_known xs e ≡ true → (k : Known) × Contains xs k × (k.entry.0 ≡ e.0)
known_at xs e is = let r = any_at (λ k. eqb k.entry.0 e.0) xs is in (r.0, r.1, eqb-true r.0.entry.0 e.0 r.2)

pub known_key : (xs : List Known) (e : Entry) → is_known xs e ≡ true → (key : Key) × Contains xs (record { entry = e; key = key })
known_key xs e is =
    let at = known_at xs e is in
    let same : at.0.entry ≡ e = ap (λ (n : ℕ). let x : Entry = record { 0 = n } in x) at.2 in
    (at.0.key, subst (λ (x : Entry). Contains xs (record { entry = x; key = at.0.key })) same at.1)

pub known_from : (xs : List Known) (k : Known) → Contains xs k → is_known xs k.entry ≡ true
known_from xs k at = any_from (λ x. eqb x.entry.0 k.entry.0) xs k at (eq-eqb k.entry.0 k.entry.0 refl)

-- learning

pub learned_known : (xs : List Known) (k : Known) → is_known (learned xs k) k.entry ≡ true
learned_known xs k = cond_both (is_known xs k.entry) xs (xs ++ k ∷ []) (λ l. is_known l k.entry ≡ true)
    (λ e. e) (λ e. any_last (λ x. eqb x.entry.0 k.entry.0) xs k (eq-eqb k.entry.0 k.entry.0 refl))

pub learned_keeps : (xs : List Known) (k : Known) (e : Entry) → is_known xs e ≡ true → is_known (learned xs k) e ≡ true
learned_keeps xs k e is = cond_both (is_known xs k.entry) xs (xs ++ k ∷ []) (λ l. is_known l e ≡ true)
    (λ _. is) (λ _. any_left (λ x. eqb x.entry.0 e.0) xs (k ∷ []) is)

pub learned_cases : (xs : List Known) (k x : Known) → Contains (learned xs k) x → Contains xs x ⊎ (k ≡ x)
learned_cases xs k x = cond_both (is_known xs k.entry) xs (xs ++ k ∷ []) (λ l. Contains l x → Contains xs x ⊎ (k ≡ x))
    (λ _ at. inl at) (λ _ at. Contains-push_cases xs k x at)

pub learned_contains : (xs : List Known) (k x : Known) → Contains xs x → Contains (learned xs k) x
learned_contains xs k x at = cond_both (is_known xs k.entry) xs (xs ++ k ∷ []) (λ l. Contains l x) (λ _. at) (λ _. Contains-append_left xs (k ∷ []) x at)

-- joining

pub joined_contains : (ys xs : List Known) (x : Known) → Contains xs x → Contains (fold learned xs ys) x
joined_contains [] xs x at = at
joined_contains (y ∷ ys) xs x at = joined_contains ys (learned xs y) x (learned_contains xs y x at)

pub joined_keeps : (ys xs : List Known) (e : Entry) → is_known xs e ≡ true → is_known (fold learned xs ys) e ≡ true
joined_keeps [] xs e is = is
joined_keeps (y ∷ ys) xs e is = joined_keeps ys (learned xs y) e (learned_keeps xs y e is)

pub joined_known : (ys xs : List Known) (e : Entry) → is_known ys e ≡ true → is_known (fold learned xs ys) e ≡ true
joined_known [] xs e is = absurd (true≢false (sym is))
joined_known (y ∷ ys) xs e is = ⊎_elim
    (λ (here : eqb y.entry.0 e.0 ≡ true). joined_keeps ys (learned xs y) e (at_entry (eqb-true y.entry.0 e.0 here)))
    (λ (later : is_known ys e ≡ true). joined_known ys (learned xs y) e later)
    (or_cases (eqb y.entry.0 e.0) (is_known ys e) is)
  where
    at_entry : y.entry.0 ≡ e.0 → is_known (learned xs y) e ≡ true
    at_entry same = subst (λ (n : ℕ). list_any (λ k. eqb k.entry.0 n) (learned xs y) ≡ true) same (learned_known xs y)

pub joined_cases : (ys xs : List Known) (x : Known) → Contains (fold learned xs ys) x → Contains xs x ⊎ Contains ys x
joined_cases [] xs x at = inl at
joined_cases (y ∷ ys) xs x at = ⊎_elim
    (λ (was : Contains (learned xs y) x). ⊎_elim
    (λ (old : Contains xs x). inl old)
    (λ (same : y ≡ x). inr (0, omega arith, same))
    (learned_cases xs y x was))
    (λ (later : Contains ys x). inr (contains_cons y ys x later))
    (joined_cases ys (learned xs y) x at)

-- the entries in a key stay known where more is known
pub parts_more : (xs ys : List Known) → ((e : Entry) → is_known xs e ≡ true → is_known ys e ≡ true) → (key : Key) → parts_known xs key ≡ true → parts_known ys key ≡ true
parts_more xs ys more (Test level on_yes on_no) is =
    let both = and_parts (is_known xs on_yes) (is_known xs on_no) is in
    and_from (is_known ys on_yes) (is_known ys on_no) (more on_yes both.0) (more on_no both.1)
parts_more xs ys more (Num n) is = refl
parts_more xs ys more (Pair m n) is = refl
parts_more xs ys more (Act action) is = refl
