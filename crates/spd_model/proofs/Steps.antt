-- From a state to the next one: the last value that can be raised, and what is behind it.
use Rattle.std.proofs.Common.{◌≡◌, ℕ, zero, suc, ◌+◌, ◌*◌, ◌-◌, ◌<◌, ◌≤◌, List, [], ◌∷◌, ◌++◌, length, take, drop, slice_index, slice_set, replicate, All, refl, ap, sym, ◌∙◌, arith, add-one, drop-cons, length-drop}
use Rattle.std.specs.Prelude.{slice_get, Some, None}
use Rattle.std.proofs.lemmas.List.{take-replicate, drop-replicate}
use Rattle.std.proofs.lemmas.List.Elements.{All-head, All-tail, All-drop}
use Rattle.spd_model.specs.States.{states, state_count, rank, IsState}
use Rattle.spd_model.specs.Inner.Order.{IsRaisable}
use Rattle.spd_model.proofs.CallerLemmas.StateOrder.{IsState-drop, IsState-followed_by, rank-followed_by, length-IsState, value_below, slice_get-states, none_past}

-- ---- the first values

abbrev pub zeros : List ℕ → List ℕ
zeros sizes = replicate (length sizes) 0

pub IsState-zeros : (sizes : List ℕ) → All (λ size. 0 < size) sizes → IsState sizes (zeros sizes)
IsState-zeros [] h = tt
IsState-zeros (size ∷ sizes) h = (All-head (λ n. 0 < n) size sizes h, IsState-zeros sizes (All-tail (λ n. 0 < n) size sizes h))

pub rank-zeros : (sizes : List ℕ) → rank sizes (zeros sizes) ≡ 0
rank-zeros [] = refl
rank-zeros (size ∷ sizes) = omega (arith, rank-zeros sizes)

pub first_is : (sizes s : List ℕ) (n : ℕ) → All (λ size. 0 < size) sizes → n ≡ length sizes → length sizes ≤ 100
    → s ≡ take n (replicate 100 0) → slice_get (states sizes) 0 ≡ Some s
first_is sizes s n some count few is =
    let first : s ≡ zeros sizes = is ∙ ap (λ (k : ℕ). take k (replicate 100 0)) count ∙ take-replicate (length sizes) 100 0 few in
    ap (slice_get (states sizes)) (sym (rank-zeros sizes)) ∙ slice_get-states sizes (zeros sizes) (IsState-zeros sizes some) ∙ ap Some (sym first)

-- ---- what the code writes

written_over : (s : List ℕ) (var v m : ℕ) → var < length s → length s ≤ var + m
    → take (length s) (slice_set (take var s ++ replicate m 0) var v) ≡ take var s ++ v ∷ replicate (length (drop (suc var) s)) 0
written_over [] var v m near room = absurd (omega arith)
written_over (x ∷ s) zero v zero near room = absurd (omega arith)
written_over (x ∷ s) zero v (suc m) near room = ap (λ l. v ∷ l) (take-replicate (length s) m 0 (omega arith))
written_over (x ∷ s) (suc var) v m near room = ap (λ l. x ∷ l) (written_over s var v m (omega arith) (omega arith))

pub raised_is : (s front : List ℕ) (var v end : ℕ) → var < length s → length s ≤ 100 → front ≡ take var s → v ≡ slice_index s var → end ≡ length s
    → take end (slice_set (front ++ drop var (replicate 100 0)) var (v + 1)) ≡ take var s ++ (slice_index s var + 1) ∷ replicate (length (drop (var + 1) s)) 0
raised_is s front var v end near few is_front is_v is_end =
    rw (is_front, is_v, is_end, drop-replicate {X = ℕ} var 100 0, add-one var) (written_over s var (slice_index s var + 1) (100 - var) near (omega arith))

-- ---- ranks

module _ (sizes s : List ℕ) (is : IsState sizes s) (var : ℕ) (near : var < length sizes) where
  abbrev after : ℕ
  after = rank (drop (suc var) sizes) (drop (suc var) s)

  own_rank : rank (drop var sizes) (drop var s) ≡ slice_index s var * state_count (drop (suc var) sizes) + after
  own_rank = rw (drop-cons sizes var 0 near, drop-cons s var 0 (omega (arith, length-IsState sizes s is))) refl

  own_count : state_count (drop var sizes) ≡ slice_index sizes var * state_count (drop (suc var) sizes)
  own_count = rw (drop-cons sizes var 0 near) refl

  -- a last value before last values
  pub last_more : after + 1 ≡ state_count (drop (suc var) sizes) → slice_index sizes var ≤ slice_index s var + 1
      → rank (drop var sizes) (drop var s) + 1 ≡ state_count (drop var sizes)
  last_more last high =
      let same : slice_index sizes var ≡ slice_index s var + 1 = omega (arith, value_below sizes s is var near) in
      omega (arith, own_rank, own_count, last, same, ap (λ (k : ℕ). k * state_count (drop (suc var) sizes)) same)

  -- the next state
  module _ (some : All (λ size. 0 < size) sizes) (last : after + 1 ≡ state_count (drop (suc var) sizes)) (below : slice_index s var + 1 < slice_index sizes var) where
    abbrev rest : List ℕ
    rest = (slice_index s var + 1) ∷ zeros (drop (suc var) sizes)

    rest_is : IsState (drop var sizes) rest
    rest_is = IsState-drop sizes var (slice_index s var + 1) (zeros (drop (suc var) sizes)) near below
        (IsState-zeros (drop (suc var) sizes) (All-drop (λ n. 0 < n) (suc var) sizes some))

    rest_rank : rank (drop var sizes) rest ≡ (slice_index s var + 1) * state_count (drop (suc var) sizes)
    rest_rank = rw (drop-cons sizes var 0 near) (omega (arith, rank-zeros (drop (suc var) sizes)))

    pub next_is : slice_get (states sizes) (rank sizes s + 1) ≡ Some (take var s ++ rest)
    next_is =
        let moved = rank-followed_by sizes var s rest is in
        let counted : rank sizes (take var s ++ rest) ≡ rank sizes s + 1 = omega (arith, moved, own_rank, rest_rank, last) in
        ap (slice_get (states sizes)) (sym counted) ∙ slice_get-states sizes (take var s ++ rest) (IsState-followed_by sizes var s rest is rest_is)

pub raisable_next : (sizes s t : List ℕ) (var : ℕ) → All (λ size. 0 < size) sizes → IsState sizes s → IsRaisable sizes s var
    → t ≡ take var s ++ (slice_index s var + 1) ∷ replicate (length (drop (var + 1) s)) 0 → slice_get (states sizes) (rank sizes s + 1) ≡ Some t
raisable_next sizes s t var some is can t_is =
    let count : length (drop (suc var) sizes) ≡ length (drop (var + 1) s) =
    omega (arith, length-drop (suc var) sizes, length-drop (var + 1) s, length-IsState sizes s is) in
    let last : rank (drop (suc var) sizes) (drop (suc var) s) + 1 ≡ state_count (drop (suc var) sizes) = rw (add-one var) at can.last in
    next_is sizes s is var can.near some last can.below
    ∙ ap Some (ap (λ (n : ℕ). take var s ++ (slice_index s var + 1) ∷ replicate n 0) count ∙ sym t_is)

pub last_none : (sizes s : List ℕ) → rank sizes s + 1 ≡ state_count sizes → slice_get (states sizes) (rank sizes s + 1) ≡ None
last_none sizes s last = none_past sizes (rank sizes s + 1) (omega arith)
