-- What an event makes of the machine where its seat can take it.
use Rattle.std.proofs.Common.{◌≡◌, ℕ, ◌+◌, ◌<◌, Bool, true, false, cond, not, is_none, unwrap_or, ◌&&◌, eqb, List, [], ◌∷◌, ◌++◌, length, get_or, set, Option, Some, None, refl, sym, ap, ◌∙◌}
use Rattle.std.specs.Option.{option_map_or}
use Rattle.std.proofs.lemmas.Bool.{true≢false, and_parts, and_from, not_from_false, ne_eqb, cond-true, eqb-true}
use Rattle.std.proofs.lemmas.List.{set_comm, get_or-set_other}
use Rattle.spd_cons_core.specs.declared.key.Entry.{Entry}
use Rattle.spd_cons_core.specs.declared.key.Key.{Key}
use Rattle.spd_cons_core.specs.declared.mind.Call.{Call}
use Rattle.spd_cons_core.specs.Views.{Seat, Machine}
use Rattle.spd_cons_core.specs.Seats.{seat_at, with_seat, bucket, bucket_count, entry, entry_words, spent}
use Rattle.spd_cons_core.specs.Events.{load_bucket, after_bucket, can_claim, after_claim, claim, can_store, store_in, store_content, can_split, after_split, split_off, split, can_exchange, after_exchange, exchange_in, exchange_bucket, can_compare, after_content, compare_in, load_content, can_join, after_join, join, can_load_bucket, call_for, new_call}
use Rattle.spd_cons_core.specs.Spelling.{words_of}
use Rattle.spd_cons_core.specs.Invariants.{IsSized, IsSoundMachine}
use Rattle.spd_cons_core.proofs.Starts.{start_below}
use Rattle.spd_cons_core.proofs.LoadsBucket.{some_buckets}
use Rattle.spd_cons_core.proofs.Bounds.{call_within, found_within}

-- an exchange

pub exchange_at : (c : Machine) → IsSoundMachine c → (i : ℕ) (seat : Seat) (call : Call) (b : Bool) → seat ≡ seat_at c i → b ≡ can_exchange call seat → b ≡ true → seat.call ≡ Some call → call.at < bucket_count c
exchange_at c sound i seat call b same test passed is = call_within c sound i seat call same (and_parts seat.live _ (sym test ∙ passed)).0 is

pub exchange_taken : (c : Machine) (i : ℕ) (seat : Seat) (call : Call) (spare : Entry) (b : Bool) → seat ≡ seat_at c i → b ≡ can_exchange call seat → b ≡ true → seat.call ≡ Some call → seat.spare ≡ Some spare
    → exchange_bucket c i ≡ record c { buckets = set c.buckets call.at (cond (eqb (bucket c call.at) 0) (spare.0 + 1) (bucket c call.at)); seats = set c.seats i (after_exchange call spare (bucket c call.at) seat) }
exchange_taken c i seat call spare b same test passed is has =
    (λ x. exchange_in c i (((ap (λ (s : Seat). s.call) (sym same)) ∙ is) x) (((ap (λ (s : Seat). s.spare) (sym same)) ∙ has) x))
    ∙ (cond-true (can_exchange call (seat_at c i)) _ _ (ap (can_exchange call) (sym same) ∙ (sym test ∙ passed))
    ∙ ap (λ (s : Seat). record c { buckets = set c.buckets call.at (cond (eqb (bucket c call.at) 0) (spare.0 + 1) (bucket c call.at)); seats = set c.seats i (after_exchange call spare (bucket c call.at) s) }) (sym same))

-- a word that is compared

compare_found : (call : Call) (e : Entry) (o : Option Entry) → call.found ≡ o → option_map_or (λ found. eqb found.0 e.0) o false ≡ true → call.found ≡ Some e
compare_found call e None is test = absurd (true≢false (sym test))
compare_found call e (Some x) is test = is ∙ ap (λ (n : ℕ). Some (entry n)) (eqb-true x.0 e.0 test)

pub compare_entry : (c : Machine) → IsSized c → IsSoundMachine c → (i : ℕ) (seat : Seat) (call : Call) (e : Entry) (word : ℕ) (b : Bool) → seat ≡ seat_at c i → b ≡ can_compare e word call seat → b ≡ true → seat.call ≡ Some call → e.0 < length c.entries
compare_entry c sized sound i seat call e word b same test passed is =
    let all = and_parts seat.live _ (sym test ∙ passed) in
    found_within c sized sound i seat call e same all.0 is (compare_found call e call.found refl (and_parts _ _ all.1).0)

pub compare_bucket : (c : Machine) → IsSoundMachine c → (i : ℕ) (seat : Seat) (call : Call) (e : Entry) (word : ℕ) (b : Bool) → seat ≡ seat_at c i → b ≡ can_compare e word call seat → b ≡ true → seat.call ≡ Some call → call.at < bucket_count c
compare_bucket c sound i seat call e word b same test passed is = call_within c sound i seat call same (and_parts seat.live _ (sym test ∙ passed)).0 is

pub content_taken : (c : Machine) (i : ℕ) (e : Entry) (word : ℕ) (seat : Seat) (call : Call) (b : Bool) → seat ≡ seat_at c i → b ≡ can_compare e word call seat → b ≡ true → seat.call ≡ Some call
    → load_content c i e word ≡ with_seat c i (after_content (bucket_count c) e call (get_or (entry_words c e.0) word 0) seat)
content_taken c i e word seat call b same test passed is =
    ap (compare_in c i e word) (ap (λ (s : Seat). s.call) (sym same) ∙ is)
    ∙ (cond-true (can_compare e word call (seat_at c i)) _ _ (ap (can_compare e word call) (sym same) ∙ (sym test ∙ passed))
    ∙ ap (λ (s : Seat). with_seat c i (after_content (bucket_count c) e call (get_or (entry_words c e.0) word 0) s)) (sym same))

-- a join

pub join_taken : (c d : Machine) (i j : ℕ) (seat other ended : Seat) (b : Bool) → seat ≡ seat_at c i → other ≡ seat_at c j → (i ≡ j → ⊥) → b ≡ ((seat.live && other.live) && (is_none seat.call && is_none other.call)) → b ≡ true → ended ≡ seat_at c j → d ≡ with_seat c j spent
    → join c i j ≡ with_seat d i (after_join (seat_at d i) ended)
join_taken c d i j seat other ended b same same' apart test passed is_ended left =
    cond-true (can_join i j (seat_at c i) (seat_at c j)) _ _
    (and_from (not (eqb i j)) _ (not_from_false (eqb i j) (ne_eqb i j apart)) ((λ x. ((sym same x).live && (sym same' x).live) && (is_none (sym same x).call && is_none (sym same' x).call)) ∙ (sym test ∙ passed)))
    ∙ (ap (λ (l : List Seat). record c { seats = l }) (set_comm c.seats i j (after_join (seat_at c i) (seat_at c j)) spent apart)
    ∙ ((λ x. with_seat (with_seat c j spent) i (after_join (sym (get_or-set_other c.seats j i spent spent apart) x) (sym is_ended x)))
    ∙ ap (λ (m : Machine). with_seat m i (after_join (seat_at m i) ended)) (sym left)))

-- a bucket that is loaded

pub call_for_within : (c : Machine) → IsSized c → IsSoundMachine c → (i : ℕ) (key : Key) (seat : Seat) (b : Bool) → seat ≡ seat_at c i → b ≡ can_load_bucket key seat → b ≡ true → (call_for (bucket_count c) key seat).at < bucket_count c
call_for_within c sized sound i key seat b same test passed = by_call seat.call refl
  where
    by_call : (o : Option Call) → seat.call ≡ o → (unwrap_or o (new_call (bucket_count c) key)).at < bucket_count c
    by_call None is = start_below (words_of key) (bucket_count c) (some_buckets c sized)
    by_call (Some call) is = call_within c sound i seat call same (and_parts seat.live _ (sym test ∙ passed)).0 is

-- what each event makes of the machine where its seat can take it

pub load_taken : (c : Machine) (i : ℕ) (key : Key) (seat : Seat) → seat_at c i ≡ seat → can_load_bucket key seat ≡ true
    → load_bucket c i key ≡ with_seat c i (after_bucket (call_for (bucket_count c) key seat) (bucket c (call_for (bucket_count c) key seat).at) seat)
load_taken c i key seat same can =
    cond-true (can_load_bucket key (seat_at c i)) _ _ (ap (can_load_bucket key) same ∙ can)
    ∙ ap (λ (s : Seat). with_seat c i (after_bucket (call_for (bucket_count c) key s) (bucket c (call_for (bucket_count c) key s).at) s)) same

pub claim_taken : (c : Machine) (i : ℕ) (seat : Seat) → seat_at c i ≡ seat → can_claim seat ≡ true
    → claim c i ≡ record c { claims = c.claims + 1; seats = set c.seats i (after_claim (c.limit + c.most) c.claims seat) }
claim_taken c i seat same can =
    cond-true (can_claim (seat_at c i)) _ _ (ap can_claim same ∙ can)
    ∙ ap (λ (s : Seat). record c { claims = c.claims + 1; seats = set c.seats i (after_claim (c.limit + c.most) c.claims s) }) same

pub store_taken : (c : Machine) (i word : ℕ) (seat : Seat) (call : Call) (spare : Entry) → seat_at c i ≡ seat → seat.call ≡ Some call → seat.spare ≡ Some spare → can_store word call seat ≡ true
    → store_content c i word ≡ record c { entries = set c.entries spare.0 (set (entry_words c spare.0) word (get_or (words_of call.key) word 0)); seats = set c.seats i (record seat { call = Some (record call { stored = call.stored + 1 }) }) }
store_taken c i word seat call spare same in_call has can =
    (λ j. store_in c i word ((ap (λ (s : Seat). s.call) same ∙ in_call) j) ((ap (λ (s : Seat). s.spare) same ∙ has) j))
    ∙ (cond-true (can_store word call (seat_at c i)) _ _ (ap (can_store word call) same ∙ can)
    ∙ ap (λ (s : Seat). record c { entries = set c.entries spare.0 (set (entry_words c spare.0) word (get_or (words_of call.key) word 0)); seats = set c.seats i (record s { call = Some (record call { stored = call.stored + 1 }) }) }) same)

pub split_taken : (c : Machine) (i : ℕ) (seat : Seat) → seat_at c i ≡ seat → can_split seat ≡ true → split c i ≡ record c { seats = set c.seats i (after_split seat) ++ split_off seat ∷ [] }
split_taken c i seat same can = cond-true (can_split (seat_at c i)) _ _ (ap can_split same ∙ can) ∙ ap (λ (z : Seat). record c { seats = set c.seats i (after_split z) ++ split_off z ∷ [] }) same
