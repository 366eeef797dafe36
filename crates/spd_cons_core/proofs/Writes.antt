-- A list after one place of it was written, and what that does to the seats and their sums.
use Rattle.std.proofs.Common.{◌≡◌, ◌≢◌, ℕ, ◌+◌, ◌<◌, ◌≤◌, Bool, true, false, cond, List, length, get_or, set, sym, ap, ◌∙◌, subst, ⊎_elim, arith, sum_by}
use Rattle.std.proofs.lemmas.List.{get_or-set_same, get_or-set_other, get_or_past}
use Rattle.std.proofs.lemmas.List.Sums.{sum_by-set}
use Rattle.std.proofs.lemmas.Bool.{true≢false, cases_lt, cases_eq}
use Rattle.spd_cons_core.specs.Views.{Seat}
use Rattle.spd_cons_core.specs.Seats.{spent}

-- a list after a write, by cases on the place
pub set_cases : {A : Type 0} (P : ℕ → A → Type 0) (l : List A) (i : ℕ) (w d : A) → i < length l → P i w → ((j : ℕ) → j ≢ i → P j (get_or l j d)) → (j : ℕ) → P j (get_or (set l i w) j d)
set_cases P l i w d within here others j =
    ⊎_elim
    (λ (e : j ≡ i). subst (λ k. P k (get_or (set l i w) k d)) (sym e) (subst (P i) (sym (get_or-set_same l i w d within)) here))
    (λ (n : j ≡ i → ⊥). subst (P j) (sym (get_or-set_other l i j w d n)) (others j n))
    (cases_eq j i)

-- a live seat is one of the list
pub live_within : (l : List Seat) (i : ℕ) → (get_or l i spent).live ≡ true → i < length l
live_within l i live =
    ⊎_elim (λ (within : i < length l). within)
    (λ (past : length l ≤ i). absurd (true≢false (sym live ∙ ap (λ (s : Seat). s.live) (get_or_past l i spent past))))
    (cases_lt i (length l))

-- what a seat adds to a sum over the live seats
abbrev pub share_of : (Seat → ℕ) → Seat → ℕ
share_of f seat = cond seat.live (f seat) 0

pub share_live : (f : Seat → ℕ) (s : Seat) → s.live ≡ true → share_of f s ≡ f s
share_live f s live = ap (λ (b : Bool). cond b (f s) 0) live

pub share_spent : (f : Seat → ℕ) (s : Seat) → s.live ≡ false → share_of f s ≡ 0
share_spent f s spent = ap (λ (b : Bool). cond b (f s) 0) spent

-- a sum over the live seats after a live seat was replaced
pub total_set : (f : Seat → ℕ) (l : List Seat) (i : ℕ) (w : Seat) → (get_or l i spent).live ≡ true → w.live ≡ true → sum_by (share_of f) (set l i w) + f (get_or l i spent) ≡ sum_by (share_of f) l + f w
total_set f l i w live live' =
    let e = sum_by-set (share_of f) l i w spent (live_within l i live) in
    let a = share_live f (get_or l i spent) live in
    let b = share_live f w live' in
    omega arith

-- and where the seat adds as much as before
pub total_same : (f : Seat → ℕ) (l : List Seat) (i : ℕ) (w : Seat) → (get_or l i spent).live ≡ true → w.live ≡ true → f w ≡ f (get_or l i spent) → sum_by (share_of f) (set l i w) ≡ sum_by (share_of f) l
total_same f l i w live live' same = let e = total_set f l i w live live' in omega arith
