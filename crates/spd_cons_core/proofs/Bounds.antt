-- What the numbers of a machine that meets the invariant are below.
use Rattle.std.proofs.Common.{◌≡◌, ℕ, ◌+◌, ◌-◌, ◌*◌, ◌^◌, ◌<◌, ◌≤◌, Bool, true, false, cond, length, Some, sym, ap, ◌∙◌, ⊎_elim, arith}
use Rattle.std.specs.Int.{IsPowerOfTwo}
use Rattle.std.proofs.lemmas.Bool.{cases_order, cases_eq}
use Rattle.std.proofs.lemmas.Nat.{pow_below}
use Rattle.std.proofs.lemmas.Grind.{pow_more}
use Rattle.std.proofs.lemmas.List.Sums.{get_or-le-sum_by, sum_by-le-sum_by}
use Rattle.spd_cons_core.specs.declared.key.Entry.{Entry}
use Rattle.spd_cons_core.specs.declared.mind.Call.{Call}
use Rattle.spd_cons_core.specs.Views.{Seat, Machine}
use Rattle.spd_cons_core.specs.Seats.{spent, seat_at, bucket, bucket_count, Names}
use Rattle.spd_cons_core.specs.Invariants.{IsSized, IsSoundMachine, shares, stands_at_end}
use Rattle.spd_cons_core.proofs.Writes.{live_within, share_of, share_live}

-- a power of two between two neighbouring ones is the lower one
pub power_between : (n r : ℕ) → IsPowerOfTwo n → 2 ^ r ≤ n → n < 2 * 2 ^ r → n ≡ 2 ^ r
power_between n r (k, is) low high =
    ⊎_elim (λ (same : k ≡ r). is ∙ ap (λ i. 2 ^ i) same)
    (λ o. ⊎_elim
    (λ (less : k < r). let p = pow_below k r less in absurd (omega arith))
    (λ (more : r < k). let step : 2 ^ (r + 1) ≡ 2 ^ r * 2 = pow_more 2 r in ⊎_elim
    (λ (next : k ≡ r + 1). let p : 2 ^ k ≡ 2 ^ (r + 1) = ap (λ i. 2 ^ i) next in absurd (omega arith))
    (λ (other : k ≡ r + 1 → ⊥). let p = pow_below (r + 1) k (omega (arith, other)) in absurd (omega arith))
    (cases_eq k (r + 1)))
    o)
    (cases_order k r)

-- what stands in a bucket
pub bucket_below : (c : Machine) → IsSized c → IsSoundMachine c → (b : ℕ) → bucket c b ≤ c.limit + c.most
bucket_below c sized sound b =
    ⊎_elim (λ (empty : bucket c b ≡ 0). omega arith)
    (λ (full : bucket c b ≡ 0 → ⊥). let names : Names c b (bucket c b - 1) = omega (arith, full) in
    let low = (sound.only_claimed b (bucket c b - 1) names).below_end in omega arith)
    (cases_eq (bucket c b) 0)

pub bucket_small : (c : Machine) → IsSized c → IsSoundMachine c → (b : ℕ) → bucket c b ≤ 2 ^ 32
bucket_small c sized sound b = let low = bucket_below c sized sound b in let a = sized.limit_high in let m = sized.most_high in omega arith

-- a live seat has no more shares than there are
pub shares_below : (c : Machine) → IsSoundMachine c → (i : ℕ) → (seat_at c i).live ≡ true → shares (seat_at c i) ≤ c.most
shares_below c sound i live =
    let part = get_or-le-sum_by (share_of shares) c.seats i spent (live_within c.seats i live) in
    let mine = share_live shares (seat_at c i) live in
    let all = sound.all_seats in omega arith

share_le : (s : Seat) → share_of stands_at_end s ≤ share_of shares s
share_le s = by_case s.live s.ended s.stands s.splits
  where
    by_case : (a b : Bool) (m n : ℕ) → cond a (cond b m 0) 0 ≤ cond a (m + n) 0
    by_case true true m n = omega arith
    by_case true false m n = omega arith
    by_case false b m n = omega arith

-- each seat claims at most once past the end
pub claims_below : (c : Machine) → IsSoundMachine c → c.claims ≤ c.limit + 2 * c.most
claims_below c sound =
    let a = sum_by-le-sum_by (share_of stands_at_end) (share_of shares) c.seats share_le in
    let bound = sound.claims_bound in
    let all = sound.all_seats in omega arith

-- a call's bucket is one of the buckets
pub call_within : (c : Machine) → IsSoundMachine c → (i : ℕ) (seat : Seat) (call : Call) → seat ≡ seat_at c i → seat.live ≡ true → seat.call ≡ Some call → call.at < bucket_count c
call_within c sound i seat call same live is =
    ((sound.seats i (ap (λ (s : Seat). s.live) (sym same) ∙ live)).search call (ap (λ (s : Seat). s.call) (sym same) ∙ is)).at_bucket

-- an entry that was found is one of the entries
pub found_within : (c : Machine) → IsSized c → IsSoundMachine c → (i : ℕ) (seat : Seat) (call : Call) (e : Entry) → seat ≡ seat_at c i → seat.live ≡ true → seat.call ≡ Some call → call.found ≡ Some e → e.0 < length c.entries
found_within c sized sound i seat call e same live is found =
    let search = (sound.seats i (ap (λ (s : Seat). s.live) (sym same) ∙ live)).search call (ap (λ (s : Seat). s.call) (sym same) ∙ is) in
    let below = (sound.only_claimed call.at e.0 (search.found e found).0).below_end in
    let n = sized.entries in omega arith
