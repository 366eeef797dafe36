-- The invariant holds of a new machine, and after every list of events.
use Rattle.std.proofs.Common.{◌≡◌, ℕ, zero, suc, ◌+◌, ◌-◌, ◌*◌, ◌<◌, ◌≤◌, true, cond, ltb, List, [], ◌∷◌, length, get_or, take, replicate, Some, refl, sym, ap, ◌∙◌, subst, ⊎_elim, arith}
use Rattle.std.specs.List.{AllByRecursion}
use Rattle.std.specs.Int.{IsNextPowerOfTwo}
use Rattle.std.proofs.lemmas.Bool.{true≢false, cases_lt}
use Rattle.std.proofs.lemmas.List.{get_or-replicate, get_or_past, length-replicate}
use Rattle.std.proofs.lemmas.List.Elements.{All-replicate}
use Rattle.std.proofs.lemmas.List.Sums.{fold_more}
use Rattle.std.proofs.lemmas.List.Folds.{sum_by-replicate}
use Rattle.std.proofs.lemmas.Option.{none-some}
use Rattle.spd_cons_core.specs.declared.event.Event.{Event}
use Rattle.spd_cons_core.specs.declared.event.Event.TheVariants.{LoadBucket, Claim, StoreContent, ExchangeBucket, LoadContent, Split, Join}
use Rattle.spd_cons_core.specs.Views.{Seat, Machine}
use Rattle.spd_cons_core.specs.Seats.{spent, seat_at}
use Rattle.spd_cons_core.specs.Events.{step, run, new_machine}
use Rattle.spd_cons_core.specs.Invariants.{IsEvent, IsSized, IsSeat, IsSoundMachine, Stays, Keeps, filled}
use Rattle.spd_cons_core.proofs.Quiet.{keeps_same}
use Rattle.spd_cons_core.proofs.LoadsBucket.{load_bucket_keeps}
use Rattle.spd_cons_core.proofs.LoadsContent.{load_content_keeps}
use Rattle.spd_cons_core.proofs.Claims.{claim_keeps}
use Rattle.spd_cons_core.proofs.StoresContent.{store_content_keeps}
use Rattle.spd_cons_core.proofs.Exchanges.{exchange_bucket_keeps}
use Rattle.spd_cons_core.proofs.Splits.{nothing_contained, split_keeps}
use Rattle.spd_cons_core.proofs.Joins.{join_keeps}

-- each event keeps the invariant
pub step_keeps : (c : Machine) (event : Event) → IsSized c → IsSoundMachine c → IsEvent event → Keeps c (step c event)
step_keeps c (LoadBucket i key) sized sound fits = load_bucket_keeps c i key sized sound fits
step_keeps c (Claim i) sized sound fits = claim_keeps c i sized sound
step_keeps c (StoreContent i word) sized sound fits = store_content_keeps c i word sized sound
step_keeps c (ExchangeBucket i) sized sound fits = exchange_bucket_keeps c i sized sound
step_keeps c (LoadContent i e word) sized sound fits = load_content_keeps c i e word sized sound
step_keeps c (Split i) sized sound fits = split_keeps c i sized sound
step_keeps c (Join i j) sized sound fits = join_keeps c i j sized sound

-- what stays over two changes stays over both
pub stays_on : (a b c : Machine) → Stays a b → Stays b c → Stays a c
stays_on a b c s t = record {
  limit = t.limit ∙ s.limit;
  most = t.most ∙ s.most;
  count = t.count ∙ s.count;
  buckets = λ k full. t.buckets k (λ zero. full (sym (s.buckets k full) ∙ zero)) ∙ s.buckets k full;
  words = λ k e names. t.words k e (s.buckets k (λ zero. let n : 0 ≡ e + 1 = sym zero ∙ names in absurd (omega arith)) ∙ names) ∙ s.words k e names;
}

pub keeps_on : (a b c : Machine) → Keeps a b → Keeps b c → Keeps a c
keeps_on a b c s t = record { sized = t.sized; sound = t.sound; stays = stays_on a b c s.stays t.stays }

-- a new machine has nothing in it

no_names : (count b e : ℕ) → get_or (replicate count 0) b 0 ≡ e + 1 → ⊥
no_names count b e names = ⊎_elim
    (λ (within : b < count). let n : get_or {A = ℕ} (replicate count 0) b 0 ≡ 0 = get_or-replicate count b 0 0 within in absurd (omega arith))
    (λ (past : count ≤ b). let len : length {A = ℕ} (replicate count 0) ≡ count = length-replicate count 0 in
    let n : get_or {A = ℕ} (replicate count 0) b 0 ≡ 0 = get_or_past (replicate count 0) b 0 (omega arith) in absurd (omega arith))
    (cases_lt b count)

-- the seat of a new machine is its first
first_seat : (P : ℕ → Seat → Type 0) (s : Seat) → P 0 s → ((i : ℕ) → P (suc i) spent) → (i : ℕ) → P i (get_or (s ∷ []) i spent)
first_seat P s here others zero = here
first_seat P s here others (suc i) = others i

pub new_sized : (limit most count : ℕ) → 16 ≤ limit → limit ≤ 8388608 → 1 ≤ most → most ≤ 128 → IsNextPowerOfTwo (2 * (limit + most)) count → IsSized (new_machine limit most count)
new_sized limit most count a b c d is = record {
  limit_low = a;
  limit_high = b;
  most_low = c;
  most_high = d;
  buckets = subst (IsNextPowerOfTwo (2 * (limit + most))) (sym (length-replicate {A = ℕ} count 0)) is;
  entries = length-replicate (limit + most) (replicate 5 0);
  five_words = All-replicate (λ words. length words ≡ 5) (limit + most) (replicate 5 0) (length-replicate {A = ℕ} 5 0);
}

pub new_sound : (limit most count : ℕ) → 1 ≤ most → IsSoundMachine (new_machine limit most count)
new_sound limit most count some =
    let c : Machine = new_machine limit most count in
    let empty : filled c ≡ 0 = sum_by-replicate (λ b. cond (ltb 0 b) 1 0) count 0 ∙ omega arith in
    record {
      only_claimed = λ b e names. absurd (no_names count b e names);
      named_once = λ a b e names _. absurd (no_names count a e names);
      listed_once = λ b e names. absurd (no_names count b e names);
      listed_never = λ e never. refl;
      filled_from_start = λ b e k names. absurd (no_names count b e names);
      distinct_keys = λ a b d e names. absurd (no_names count a d names);
      seats = first_seat (λ i s. s.live ≡ true → IsSeat c s) (record spent { live = true; stands = 1; splits = most - 1 })
          (λ _. record {
            known = λ k at. absurd (nothing_contained k at);
            own_known = λ e at. absurd (nothing_contained e at);
            spare = λ e is. absurd (none-some e is);
            search = λ call is. absurd (none-some call is);
            stands = omega arith;
            unpublished = omega arith;
            less_without_spare = λ _. omega arith;
            less_at_end = λ ended. absurd (true≢false (sym ended));
            end_met = λ ended. absurd (true≢false (sym ended));
          })
          (λ i live. absurd (true≢false (sym live)));
      own_spare = λ i j e. first_seat (λ i s. s.live ≡ true → (seat_at c j).live ≡ true → s.spare ≡ Some e → (seat_at c j).spare ≡ Some e → i ≡ j) (record spent { live = true; stands = 1; splits = most - 1 })
          (λ _ _ is _. absurd (none-some e is)) (λ i _ _ is _. absurd (none-some e is)) i;
      all_counted = omega arith;
      all_listed = sym empty;
      all_seats = omega arith;
      claims_bound = omega arith;
    }

-- one more event of a list
pub run_more : (c now next : Machine) (events : List Event) (i : ℕ) (d : Event) → i < length events → now ≡ run c (take i events) → next ≡ step now (get_or events i d) → next ≡ run c (take (i + 1) events)
run_more c now next events i d within so_far is = is ∙ (ap (λ (m : Machine). step m (get_or events i d)) so_far ∙ sym (fold_more step c events i d within))

-- a list of events keeps the invariant
pub run_keeps : (events : List Event) (c : Machine) → IsSized c → IsSoundMachine c → AllByRecursion IsEvent events → Keeps c (run c events)
run_keeps [] c sized sound fit = keeps_same c sized sound
run_keeps (event ∷ events) c sized sound fit =
    let one = step_keeps c event sized sound fit.0 in
    keeps_on c (step c event) (run c (event ∷ events)) one (run_keeps events (step c event) one.sized one.sound fit.1)
