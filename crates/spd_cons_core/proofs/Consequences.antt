-- What follows from the invariant.
use Rattle.std.proofs.Common.{to_z, ◌↔◌, ◌&&◌, ◌≡◌, ◌≢◌, ◌⊎◌, ℕ, ◌+◌, ◌*◌, ◌^◌, ◌<◌, ◌≤◌, ℤ, Bool, true, false, cond, eqb, List, [], ◌∷◌, length, get_or, set, sum_by, count_by, suc, refl, sym, ap, ◌∙◌, subst, inl, inr, ⊎_elim, arith, FitsSigned}
use Rattle.std.specs.List.{All, Contains}
use Rattle.std.specs.Int.{w128, cast_unsigned}
use Rattle.std.proofs.lemmas.Bool.{true≢false, eqb-false, eqb-true, eq-eqb, and_from, and_parts, cases_Bool, cases_eq}
use Rattle.std.proofs.lemmas.Bool.Decides.{Decides-int_eq}
use Rattle.std.specs.Ordering.{int_eq}
use Rattle.std.proofs.lemmas.Int.{to_z-of_z}
use Rattle.std.proofs.lemmas.Nat.{shr_split}
use Rattle.std.proofs.lemmas.List.{get_or-set_other}
use Rattle.std.proofs.lemmas.List.Elements.{All-from_get_or}
use Rattle.std.proofs.lemmas.List.Sums.{sum_by-set, sum_by-cons, sum_by-le, sum_by-le-sum_by, get_or-le-sum_by}
use Rattle.spd_cons_core.specs.declared.key.Entry.{Entry}
use Rattle.spd_cons_core.specs.declared.key.Key.{Key}
use Rattle.spd_cons_core.specs.declared.key.Key.TheVariants.{Test, Num, Pair, Act}
use Rattle.spd_cons_core.specs.declared.mind.Known.{Known}
use Rattle.spd_cons_core.specs.Views.{Seat, Machine}
use Rattle.spd_cons_core.specs.Spelling.{words_of, low, high, IsKey}
use Rattle.spd_cons_core.specs.Seats.{spent, seat_at, bucket, Names, entry, entry_words, same_key}
use Rattle.spd_cons_core.specs.Invariants.{IsSoundMachine, total_over_seats, times_listed, filled, shares}
use Rattle.spd_cons_core.proofs.Writes.{set_cases, live_within, share_of, share_live, share_spent}
use Rattle.spd_cons_core.proofs.Knowledge.{contains_cons, known_at}

-- The words tell keys apart ---------------------------------------------------------------------

halves_same : (m n : ℤ) → FitsSigned w128 m → FitsSigned w128 n → low m ≡ low n → high m ≡ high n → m ≡ n
halves_same m n fits fits' lows highs =
    let whole : cast_unsigned w128 m ≡ cast_unsigned w128 n =
    sym (shr_split (cast_unsigned w128 m) 64) ∙ ((λ x. highs x * 2 ^ 64 + lows x) ∙ shr_split (cast_unsigned w128 n) 64) in
    sym (to_z-of_z w128 m fits) ∙ (ap (to_z w128) whole ∙ to_z-of_z w128 n fits')

pub words_tell : (key other : Key) → IsKey key → IsKey other → words_of key ≡ words_of other → key ≡ other
words_tell (Test l y n) (Test l' y' n') fits fits' same =
    let tag : 1 + 16 * l ≡ 1 + 16 * l' = ap (λ ws. get_or ws 0 0) same in
    let level : l ≡ l' = omega arith in
    let on_yes : y.0 ≡ y'.0 = ap (λ ws. get_or ws 1 0) same in
    let on_no : n.0 ≡ n'.0 = ap (λ ws. get_or ws 2 0) same in
    (λ x. Test (level x) (entry (on_yes x)) (entry (on_no x)))
words_tell (Test l y n) (Num m) fits fits' same = let tag : 1 + 16 * l ≡ 2 = ap (λ ws. get_or ws 0 0) same in absurd (omega arith)
words_tell (Test l y n) (Pair a b) fits fits' same = let tag : 1 + 16 * l ≡ 3 = ap (λ ws. get_or ws 0 0) same in absurd (omega arith)
words_tell (Test l y n) (Act a) fits fits' same = let tag : 1 + 16 * l ≡ 4 = ap (λ ws. get_or ws 0 0) same in absurd (omega arith)
words_tell (Num m) (Test l y n) fits fits' same = let tag : 2 ≡ 1 + 16 * l = ap (λ ws. get_or ws 0 0) same in absurd (omega arith)
words_tell (Num m) (Num n) fits fits' same = ap Num (halves_same m n fits fits' (ap (λ ws. get_or ws 1 0) same) (ap (λ ws. get_or ws 2 0) same))
words_tell (Num m) (Pair a b) fits fits' same = absurd (eqb-false 2 3 refl (ap (λ ws. get_or ws 0 0) same))
words_tell (Num m) (Act a) fits fits' same = absurd (eqb-false 2 4 refl (ap (λ ws. get_or ws 0 0) same))
words_tell (Pair a b) (Test l y n) fits fits' same = let tag : 3 ≡ 1 + 16 * l = ap (λ ws. get_or ws 0 0) same in absurd (omega arith)
words_tell (Pair a b) (Num m) fits fits' same = absurd (eqb-false 3 2 refl (ap (λ ws. get_or ws 0 0) same))
words_tell (Pair a b) (Pair a' b') fits fits' same =
    let first : a ≡ a' = halves_same a a' fits.0 fits'.0 (ap (λ ws. get_or ws 1 0) same) (ap (λ ws. get_or ws 2 0) same) in
    let second : b ≡ b' = halves_same b b' fits.1 fits'.1 (ap (λ ws. get_or ws 3 0) same) (ap (λ ws. get_or ws 4 0) same) in
    (λ x. Pair (first x) (second x))
words_tell (Pair a b) (Act c) fits fits' same = absurd (eqb-false 3 4 refl (ap (λ ws. get_or ws 0 0) same))
words_tell (Act a) (Test l y n) fits fits' same = let tag : 4 ≡ 1 + 16 * l = ap (λ ws. get_or ws 0 0) same in absurd (omega arith)
words_tell (Act a) (Num m) fits fits' same = absurd (eqb-false 4 2 refl (ap (λ ws. get_or ws 0 0) same))
words_tell (Act a) (Pair b c) fits fits' same = absurd (eqb-false 4 3 refl (ap (λ ws. get_or ws 0 0) same))
words_tell (Act a) (Act b) fits fits' same = ap Act (ap (λ ws. get_or ws 1 0) same)

-- What seats know agrees ------------------------------------------------------------------------

pub known_keys : (c : Machine) → IsSoundMachine c → (i j : ℕ) (k k' : Known) → (seat_at c i).live ≡ true → (seat_at c j).live ≡ true → Contains (seat_at c i).knows k → Contains (seat_at c j).knows k' → k.entry ≡ k'.entry → k.key ≡ k'.key
known_keys c sound i j k k' live live' at at' same =
    let a = (sound.seats i live).known k at in
    let b = (sound.seats j live').known k' at' in
    words_tell k.key k'.key a.in_range b.in_range (sym a.words ∙ (ap (λ (e : Entry). entry_words c e.0) same ∙ b.words))

pub known_entries : (c : Machine) → IsSoundMachine c → (i j : ℕ) (k k' : Known) → (seat_at c i).live ≡ true → (seat_at c j).live ≡ true → Contains (seat_at c i).knows k → Contains (seat_at c j).knows k' → k.key ≡ k'.key → k.entry ≡ k'.entry
known_entries c sound i j k k' live live' at at' same =
    let a = (sound.seats i live).known k at in
    let b = (sound.seats j live').known k' at' in
    let place : a.published.0 ≡ b.published.0 = sound.distinct_keys a.published.0 b.published.0 k.entry.0 k'.entry.0 a.published.1 b.published.1 (a.words ∙ (ap words_of same ∙ sym b.words)) in
    let one = a.published.1 in
    let two : bucket c a.published.0 ≡ k'.entry.0 + 1 = ap (bucket c) place ∙ b.published.1 in
    let number : k.entry.0 ≡ k'.entry.0 = omega arith in
    ap entry number

pub different_keys : (c : Machine) → IsSoundMachine c → (a b d e : ℕ) (key : Key) → Names c a d → Names c b e → a ≢ b → entry_words c d ≡ words_of key → entry_words c e ≢ words_of key
different_keys c sound a b d e key names names' apart is is' = apart (sound.distinct_keys a b d e names names' (is ∙ sym is'))

-- The last seat ---------------------------------------------------------------------------------

-- where one seat has all shares, no other seat is live
alone : (c : Machine) → IsSoundMachine c → (i : ℕ) → (seat_at c i).live ≡ true → shares (seat_at c i) ≡ c.most → (j : ℕ) → j ≢ i → (seat_at c j).live ≡ true → ⊥
alone c sound i live all j other there =
    let out = sum_by-set (share_of shares) c.seats i spent spent (live_within c.seats i live) in
    let mine = share_live shares (seat_at c i) live in
    let whole = sound.all_seats in
    let there' : get_or (set c.seats i spent) j spent ≡ seat_at c j = get_or-set_other c.seats i j spent spent other in
    let within : j < length (set c.seats i spent) = live_within (set c.seats i spent) j (ap (λ (s : Seat). s.live) there' ∙ there) in
    let part = get_or-le-sum_by (share_of shares) (set c.seats i spent) j spent within in
    let its = ap (share_of shares) there' ∙ share_live shares (seat_at c j) there in
    let stands = (sound.seats j there).stands in
    absurd (omega arith)

-- so a sum over the live seats is that seat's part
pub total_alone : (f : Seat → ℕ) (c : Machine) → IsSoundMachine c → (i : ℕ) → (seat_at c i).live ≡ true → shares (seat_at c i) ≡ c.most → total_over_seats f c ≡ f (seat_at c i)
total_alone f c sound i live all =
    let within = live_within c.seats i live in
    let out = sum_by-set (share_of f) c.seats i spent spent within in
    let mine = share_live f (seat_at c i) live in
    let none : All (λ s. share_of f s ≤ 0) (set c.seats i spent) = All-from_get_or (λ s. share_of f s ≤ 0) (set c.seats i spent) spent
    (λ j _. set_cases (λ j s. share_of f s ≤ 0) c.seats i spent spent within (omega arith) (λ j other. not_live (seat_at c j) (cases_Bool (seat_at c j).live) (λ there. alone c sound i live all j other there)) j) in
    let rest = sum_by-le (share_of f) 0 (set c.seats i spent) none in
    omega arith
  where
    not_live : (s : Seat) → (s.live ≡ true) ⊎ (s.live ≡ false) → (s.live ≡ true → ⊥) → share_of f s ≤ 0
    not_live s (inl is) never = absurd (never is)
    not_live s (inr is) never = let z : share_of f s ≡ 0 = ap (λ (b : Bool). cond b (f s) 0) is in omega arith

pub full_table : (c : Machine) → IsSoundMachine c → (i : ℕ) → (seat_at c i).live ≡ true → (seat_at c i).ended ≡ true → shares (seat_at c i) ≡ c.most → c.limit < length (seat_at c i).published
full_table c sound i live ended all =
    let was = sound.seats i live in
    let less = was.less_at_end ended in
    let met = was.end_met ended in
    let published = total_alone (λ s. length s.published) c sound i live all in
    let unpublished = total_alone (λ s. s.unpublished) c sound i live all in
    let counted = sound.all_counted in
    let listed = sound.all_listed in
    omega arith

-- where a seat has met the end, whatever seats there are besides
share_stands : (s : Seat) → share_of (λ x. x.stands) s ≤ share_of shares s
share_stands s = by_case s.live s.stands s.splits
  where
    by_case : (a : Bool) (m n : ℕ) → cond a m 0 ≤ cond a (m + n) 0
    by_case true m n = omega arith
    by_case false m n = omega arith

-- every live seat counts no more entries than the seats that it stands for
counts_below : (c : Machine) → IsSoundMachine c → (j : ℕ) → share_of (λ s. s.unpublished) (seat_at c j) ≤ share_of (λ s. s.stands) (seat_at c j)
counts_below c sound j = by_case (cases_Bool (seat_at c j).live)
  where
    by_case : ((seat_at c j).live ≡ true) ⊎ ((seat_at c j).live ≡ false) → share_of (λ s. s.unpublished) (seat_at c j) ≤ share_of (λ s. s.stands) (seat_at c j)
    by_case (inl live) =
        let a = share_live (λ s. s.unpublished) (seat_at c j) live in
        let b = share_live (λ s. s.stands) (seat_at c j) live in
        let low = (sound.seats j live).unpublished in omega arith
    by_case (inr spent) =
        let a = share_spent (λ s. s.unpublished) (seat_at c j) spent in
        let b = share_spent (λ s. s.stands) (seat_at c j) spent in omega arith

sums_below : (l : List Seat) → ((j : ℕ) → share_of (λ s. s.unpublished) (get_or l j spent) ≤ share_of (λ s. s.stands) (get_or l j spent)) → sum_by (share_of (λ s. s.unpublished)) l ≤ sum_by (share_of (λ s. s.stands)) l
sums_below [] each = omega arith
sums_below (x ∷ xs) each =
    let here : share_of (λ s. s.unpublished) x ≤ share_of (λ s. s.stands) x = each 0 in
    let rest = sums_below xs (λ j. each (suc j)) in
    let low : sum_by (share_of (λ s. s.unpublished)) (x ∷ xs) ≡ share_of (λ s. s.unpublished) x + sum_by (share_of (λ s. s.unpublished)) xs = sum_by-cons (share_of (λ s. s.unpublished)) x xs in
    let high : sum_by (share_of (λ s. s.stands)) (x ∷ xs) ≡ share_of (λ s. s.stands) x + sum_by (share_of (λ s. s.stands)) xs = sum_by-cons (share_of (λ s. s.stands)) x xs in
    omega arith

pub filled_above_limit : (c : Machine) → IsSoundMachine c → (i : ℕ) → (seat_at c i).live ≡ true → (seat_at c i).ended ≡ true → c.limit < filled c
filled_above_limit c sound i live ended =
    let was = sound.seats i live in
    let less = was.less_at_end ended in
    let met = was.end_met ended in
    let within = live_within c.seats i live in
    let counts = sum_by-set (share_of (λ s. s.unpublished)) c.seats i spent spent within in
    let stands = sum_by-set (share_of (λ s. s.stands)) c.seats i spent spent within in
    let mine = share_live (λ s. s.unpublished) (seat_at c i) live in
    let its = share_live (λ s. s.stands) (seat_at c i) live in
    let others : sum_by (share_of (λ s. s.unpublished)) (set c.seats i spent) ≤ sum_by (share_of (λ s. s.stands)) (set c.seats i spent) =
    sums_below (set c.seats i spent) (λ j. set_cases (λ j s. share_of (λ s. s.unpublished) s ≤ share_of (λ s. s.stands) s) c.seats i spent spent within (omega arith) (λ j _. counts_below c sound j) j) in
    let shared = sum_by-le-sum_by (share_of (λ s. s.stands)) (share_of shares) c.seats share_stands in
    let all = sound.all_seats in
    let counted = sound.all_counted in
    omega arith

-- A seat's list -----------------------------------------------------------------------------------

listed_there : (l : List Entry) (e : ℕ) → 0 < count_by (λ p. eqb p.0 e) l → Contains l (entry e)
listed_there [] e some = absurd (omega arith)
listed_there (x ∷ xs) e some = ⊎_elim
    (λ (here : eqb x.0 e ≡ true). (0, omega arith, ap entry (eqb-true x.0 e here)))
    (λ (other : eqb x.0 e ≡ false).
    let one : Entry → ℕ = λ p. cond (eqb p.0 e) 1 0 in
    let parts : sum_by one (x ∷ xs) ≡ one x + sum_by one xs = sum_by-cons one x xs in
    let none : one x ≡ 0 = ap (λ (b : Bool). cond b 1 0) other in
    let some' : 0 < sum_by one (x ∷ xs) = some in
    let rest : 0 < count_by (λ p. eqb p.0 e) xs = more (sum_by one (x ∷ xs)) (one x) (sum_by one xs) parts none some' in
    contains_cons x xs (entry e) (listed_there xs e rest))
    (cases_Bool (eqb x.0 e))
  where
    more : (a b c : ℕ) → a ≡ b + c → b ≡ 0 → 0 < a → 0 < c
    more a b c parts none some = omega arith

-- no live seat lists an entry twice
pub listed_at_most_once : (c : Machine) → IsSoundMachine c → (i : ℕ) → (seat_at c i).live ≡ true → (e : ℕ) → times_listed e (seat_at c i) ≤ 1
listed_at_most_once c sound i live e =
    let part = get_or-le-sum_by (share_of (times_listed e)) c.seats i spent (live_within c.seats i live) in
    let mine = share_live (times_listed e) (seat_at c i) live in
    ⊎_elim
    (λ (none : times_listed e (seat_at c i) ≡ 0). omega arith)
    (λ (some : times_listed e (seat_at c i) ≡ 0 → ⊥).
    let k = known_at (seat_at c i).knows (entry e) ((sound.seats i live).own_known (entry e) (listed_there (seat_at c i).published e (omega (arith, some)))) in
    let known = (sound.seats i live).known k.0 k.1 in
    let names : Names c known.published.0 e = known.published.1 ∙ ap (λ (n : ℕ). n + 1) k.2 in
    let one = sound.listed_once known.published.0 e names in
    omega arith)
    (cases_eq (times_listed e (seat_at c i)) 0)

-- The test of two keys decides whether they are equal -------------------------------------------

same_key_self : (key : Key) → same_key key key ≡ true
same_key_self (Test l y n) = and_from (eqb l l) (eqb y.0 y.0 && eqb n.0 n.0) (eq-eqb l l refl) (and_from (eqb y.0 y.0) (eqb n.0 n.0) (eq-eqb y.0 y.0 refl) (eq-eqb n.0 n.0 refl))
same_key_self (Num m) = (Decides-int_eq m m).1 refl
same_key_self (Pair a b) = and_from (int_eq a a) (int_eq b b) ((Decides-int_eq a a).1 refl) ((Decides-int_eq b b).1 refl)
same_key_self (Act a) = eq-eqb a a refl

same_key_true : (key other : Key) → same_key key other ≡ true → key ≡ other
same_key_true (Test l y n) (Test l' y' n') is =
    let parts = and_parts (eqb l l') (eqb y.0 y'.0 && eqb n.0 n'.0) is in
    let entries = and_parts (eqb y.0 y'.0) (eqb n.0 n'.0) parts.1 in
    let level : l ≡ l' = eqb-true l l' parts.0 in
    let on_yes : y.0 ≡ y'.0 = eqb-true y.0 y'.0 entries.0 in
    let on_no : n.0 ≡ n'.0 = eqb-true n.0 n'.0 entries.1 in
    (λ x. Test (level x) (entry (on_yes x)) (entry (on_no x)))
same_key_true (Num m) (Num n) is = ap Num ((Decides-int_eq m n).0 is)
same_key_true (Pair a b) (Pair a' b') is =
    let parts = and_parts (int_eq a a') (int_eq b b') is in
    let first = (Decides-int_eq a a').0 parts.0 in
    let second = (Decides-int_eq b b').0 parts.1 in
    (λ x. Pair (first x) (second x))
same_key_true (Act a) (Act b) is = ap Act (eqb-true a b is)
same_key_true (Test l y n) (Num m) is = absurd (true≢false (sym is))
same_key_true (Test l y n) (Pair a b) is = absurd (true≢false (sym is))
same_key_true (Test l y n) (Act a) is = absurd (true≢false (sym is))
same_key_true (Num m) (Test l y n) is = absurd (true≢false (sym is))
same_key_true (Num m) (Pair a b) is = absurd (true≢false (sym is))
same_key_true (Num m) (Act a) is = absurd (true≢false (sym is))
same_key_true (Pair a b) (Test l y n) is = absurd (true≢false (sym is))
same_key_true (Pair a b) (Num m) is = absurd (true≢false (sym is))
same_key_true (Pair a b) (Act c) is = absurd (true≢false (sym is))
same_key_true (Act a) (Test l y n) is = absurd (true≢false (sym is))
same_key_true (Act a) (Num m) is = absurd (true≢false (sym is))
same_key_true (Act a) (Pair b c) is = absurd (true≢false (sym is))

pub same_key_tells : (key other : Key) → (same_key key other ≡ true) ↔ (key ≡ other)
same_key_tells key other = (same_key_true key other, λ same. subst (λ k. same_key key k ≡ true) same (same_key_self key))
