-- What an event may write, and that a search ends.
use Rattle.std.proofs.Common.{◌≡◌, ◌≢◌, ℕ, suc, ◌+◌, ◌<◌, ◌≤◌, Bool, true, false, cond, not, ◌&&◌, eqb, ltb, List, [], ◌∷◌, length, get_or, set, take, Option, Some, None, refl, sym, ap, ◌∙◌, subst, inl, inr, ⊎_elim, arith}
use Rattle.std.specs.List.{sum_by, count_by}
use Rattle.std.proofs.lemmas.Bool.{and_parts, cond_both, cond-false, and_left, and_right, cases_eq, cases_lt, eqb-true, lt-ltb, ltb-false}
use Rattle.std.proofs.lemmas.List.{get_or-set_other, get_or-set_same}
use Rattle.std.proofs.lemmas.List.Sums.{sum_by-cons}
use Rattle.spd_cons_core.specs.declared.key.Entry.{Entry}
use Rattle.spd_cons_core.specs.declared.mind.Call.{Call}
use Rattle.spd_cons_core.specs.declared.event.Event.{Event}
use Rattle.spd_cons_core.specs.declared.event.Event.TheVariants.{LoadBucket, Claim, StoreContent, ExchangeBucket, LoadContent, Split, Join}
use Rattle.spd_cons_core.specs.Views.{Machine}
use Rattle.spd_cons_core.specs.Spelling.{words_of, first_bucket}
use Rattle.spd_cons_core.specs.Seats.{seat_at, bucket, bucket_count, entry_words}
use Rattle.spd_cons_core.specs.Events.{can_store, store_in, store_content, can_exchange, after_exchange, exchange_in, exchange_bucket, next_bucket, compare_in, step}
use Rattle.spd_cons_core.specs.Invariants.{IsSized, IsSoundMachine, IsPassed, Publishes, seat_of, filled}
use Rattle.spd_cons_core.proofs.Fives.{five_of_key, five_of_entry, same_of_five}

-- only the words of the seat's own spare are written

stored_words : (c : Machine) (i word : ℕ) (o : Option Call) (s : Option Entry) (e : ℕ) → ((x : Entry) → s ≡ Some x → x.0 ≢ e) → entry_words (store_in c i word o s) e ≡ entry_words c e
stored_words c i word None s e other = refl
stored_words c i word (Some call) None e other = refl
stored_words c i word (Some call) (Some spare) e other =
    cond_both (can_store word call (seat_at c i)) _ c (λ d. entry_words d e ≡ entry_words c e)
    (λ _. get_or-set_other c.entries spare.0 e _ [] (λ same. other spare refl (sym same)))
    (λ _. refl)

pub stores_own_spare : (c : Machine) (i word e : ℕ) → ((x : Entry) → (seat_at c i).spare ≡ Some x → x.0 ≢ e) → entry_words (store_content c i word) e ≡ entry_words c e
stores_own_spare c i word e other = stored_words c i word (seat_at c i).call (seat_at c i).spare e other

-- a bucket takes only an entry in which the whole key stands

exchanged_bucket : (c : Machine) → IsSized c → IsSoundMachine c → (i b : ℕ) (o : Option Call) (s : Option Entry) → (seat_at c i).call ≡ o → (seat_at c i).spare ≡ s → bucket (exchange_in c i o s) b ≢ bucket c b → Publishes c (exchange_in c i o s) i b
exchanged_bucket c sized sound i b None s is has = λ changed. absurd (changed refl)
exchanged_bucket c sized sound i b (Some call) None is has = λ changed. absurd (changed refl)
exchanged_bucket c sized sound i b (Some call) (Some spare) is has =
    cond_both (can_exchange call (seat_at c i)) _ c (λ d. bucket d b ≢ bucket c b → Publishes c d i b)
    (λ can. taken (and_parts (seat_at c i).live _ can).0 (and_parts call.empty (eqb call.stored 5) (and_parts (seat_at c i).live _ can).1).1)
    (λ _ changed. absurd (changed refl))
  where
    taken : (seat_at c i).live ≡ true → eqb call.stored 5 ≡ true
        → bucket (record c { buckets = set c.buckets call.at (cond (eqb (bucket c call.at) 0) (spare.0 + 1) (bucket c call.at)); seats = set c.seats i (after_exchange call spare (bucket c call.at) (seat_at c i)) }) b ≢ bucket c b
        → Publishes c (record c { buckets = set c.buckets call.at (cond (eqb (bucket c call.at) 0) (spare.0 + 1) (bucket c call.at)); seats = set c.seats i (after_exchange call spare (bucket c call.at) (seat_at c i)) }) i b
    taken live stored changed =
        let was = sound.seats i live in
        let search = was.search call is in
        let whole = eqb-true call.stored 5 stored in
        let words : entry_words c spare.0 ≡ words_of call.key = same_of_five (entry_words c spare.0) (words_of call.key) (five_of_entry c sized spare.0 (was.spare spare has).claimed) (five_of_key call.key)
        (subst (λ n. take n (entry_words c spare.0) ≡ take n (words_of call.key)) whole (search.stored spare has)) in
        ⊎_elim
        (λ (here : b ≡ call.at).
        let now : get_or (set c.buckets call.at (cond (eqb (bucket c call.at) 0) (spare.0 + 1) (bucket c call.at))) call.at 0 ≡ cond (eqb (bucket c call.at) 0) (spare.0 + 1) (bucket c call.at) = get_or-set_same c.buckets call.at _ 0 search.at_bucket in
        by_bucket (eqb (bucket c call.at) 0) refl here now live words)
        (λ (other : b ≡ call.at → ⊥). absurd (changed (get_or-set_other c.buckets call.at b _ 0 other)))
        (cases_eq b call.at)
      where
        by_bucket : (z : Bool) → eqb (bucket c call.at) 0 ≡ z → b ≡ call.at
            → get_or (set c.buckets call.at (cond (eqb (bucket c call.at) 0) (spare.0 + 1) (bucket c call.at))) call.at 0 ≡ cond z (spare.0 + 1) (bucket c call.at)
            → (seat_at c i).live ≡ true → entry_words c spare.0 ≡ words_of call.key
            → Publishes c (record c { buckets = set c.buckets call.at (cond (eqb (bucket c call.at) 0) (spare.0 + 1) (bucket c call.at)); seats = set c.seats i (after_exchange call spare (bucket c call.at) (seat_at c i)) }) i b
        by_bucket true z here now live words = record {
          call = call;
          entry = spare;
          live = live;
          in_call = is;
          own = has;
          whole = words;
          was_empty = ap (bucket c) here ∙ eqb-true (bucket c call.at) 0 z;
          names = ap (λ k. get_or (set c.buckets call.at (cond (eqb (bucket c call.at) 0) (spare.0 + 1) (bucket c call.at))) k 0) here ∙ now;
        }
        by_bucket false z here now live words = absurd (changed (ap (λ k. get_or (set c.buckets call.at (cond (eqb (bucket c call.at) 0) (spare.0 + 1) (bucket c call.at))) k 0) here ∙ (now ∙ ap (bucket c) (sym here))))

pub exchanges_whole_key : (c : Machine) → IsSized c → IsSoundMachine c → (i b : ℕ) → bucket (exchange_bucket c i) b ≢ bucket c b → Publishes c (exchange_bucket c i) i b
exchanges_whole_key c sized sound i b = exchanged_bucket c sized sound i b (seat_at c i).call (seat_at c i).spare refl refl

-- a seat that isn't live takes no event
pub spent_rests : (c : Machine) (event : Event) → (seat_at c (seat_of event)).live ≡ false → step c event ≡ c
spent_rests c (LoadBucket i key) off = cond-false _ _ c (and_left (seat_at c i).live _ off)
spent_rests c (Claim i) off = cond-false _ _ c (and_left (seat_at c i).live _ off)
spent_rests c (StoreContent i word) off = by_parts (seat_at c i).call (seat_at c i).spare
  where
    by_parts : (o : Option Call) (s : Option Entry) → store_in c i word o s ≡ c
    by_parts None s = refl
    by_parts (Some call) None = refl
    by_parts (Some call) (Some spare) = cond-false _ _ c (and_left (seat_at c i).live _ off)
spent_rests c (ExchangeBucket i) off = by_parts (seat_at c i).call (seat_at c i).spare
  where
    by_parts : (o : Option Call) (s : Option Entry) → exchange_in c i o s ≡ c
    by_parts None s = refl
    by_parts (Some call) None = refl
    by_parts (Some call) (Some spare) = cond-false _ _ c (and_left (seat_at c i).live _ off)
spent_rests c (LoadContent i e word) off = by_call (seat_at c i).call
  where
    by_call : (o : Option Call) → compare_in c i e word o ≡ c
    by_call None = refl
    by_call (Some call) = cond-false _ _ c (and_left (seat_at c i).live _ off)
spent_rests c (Split i) off = cond-false _ _ c (and_left (seat_at c i).live _ off)
spent_rests c (Join i j) off = cond-false _ _ c (and_right (not (eqb i j)) _ (and_left ((seat_at c i).live && (seat_at c j).live) _ (and_left (seat_at c i).live _ off)))

-- a search never comes back to its start

all_filled : (l : List ℕ) → ((b : ℕ) → b < length l → get_or l b 0 ≢ 0) → count_by (λ b. ltb 0 b) l ≡ length l
all_filled [] full = refl
all_filled (x ∷ xs) full =
    let one : ℕ → ℕ = λ b. cond (ltb 0 b) 1 0 in
    let nonzero : x ≡ 0 → ⊥ = full 0 (omega arith) in
    let first : one x ≡ 1 = ap (λ (b : Bool). cond b 1 0) (lt-ltb 0 x (omega (arith, nonzero))) in
    let rest : count_by (λ b. ltb 0 b) xs ≡ length xs = all_filled xs (λ b within. full (suc b) (omega arith)) in
    let parts : sum_by one (x ∷ xs) ≡ one x + sum_by one xs = sum_by-cons one x xs in
    adds (sum_by one (x ∷ xs)) (one x) (sum_by one xs) (length xs) parts first rest
  where
    adds : (a b c n : ℕ) → a ≡ b + c → b ≡ 1 → c ≡ n → a ≡ suc n
    adds a b c n e f g = omega arith

pub goes_on : (c : Machine) → IsSized c → IsSoundMachine c → (i : ℕ) (call : Call) (e : Entry) → (seat_at c i).live ≡ true → (seat_at c i).call ≡ Some call → call.found ≡ Some e → next_bucket (bucket_count c) call.at ≢ first_bucket (words_of call.key) (bucket_count c)
goes_on c sized sound i call e live is found back =
    let search = (sound.seats i live).search call is in
    let names = (search.found e found).0 in
    let at = search.at_bucket in
    let full : (b : ℕ) → b < bucket_count c → bucket c b ≢ 0 = λ b within. ⊎_elim
    (λ (here : b ≡ call.at) (zero : bucket c b ≡ 0). let n : 0 ≡ e.0 + 1 = sym zero ∙ (ap (bucket c) here ∙ names) in absurd (omega arith))
    (λ (other : b ≡ call.at → ⊥) (zero : bucket c b ≡ 0). let o = search.passed b within (round b within other) in let n = o.names in absurd (omega arith))
    (cases_eq b call.at) in
    let all : filled c ≡ bucket_count c = all_filled c.buckets full in
    let counted = sound.all_counted in
    let low = sized.limit_low in
    let more = sized.buckets.1 in
    absurd (omega arith)
  where
    round : (b : ℕ) → b < bucket_count c → (b ≡ call.at → ⊥) → IsPassed (first_bucket (words_of call.key) (bucket_count c)) call.at b
    round b within other = subst (λ s. IsPassed s call.at b) back
        (cond_both (ltb (call.at + 1) (bucket_count c)) (call.at + 1) 0 (λ s. IsPassed s call.at b)
        (λ _. ⊎_elim (λ (less : b < call.at). inr (inr (omega arith, less))) (λ (more : call.at ≤ b). inr (inl (omega arith, omega (arith, other)))) (cases_lt b call.at))
        (λ last. let past = ltb-false (call.at + 1) (bucket_count c) last in inl (omega arith, omega (arith, other))))
