-- What a step of the running table makes of its machine: it is the machine's event.
use Rattle.std.proofs.Common.{◌≡◌, ℕ, ◌+◌, ◌*◌, ◌<◌, ◌≤◌, true, cond, eqb, map, take, drop, set, get_or, length, refl, sym, ap, ◌∙◌, arith, Some}
use Rattle.std.proofs.lemmas.List.{map-set, drop-set-lt, drop-set-add, get_or-set_same, get_or-set_other, get_or-drop}
use lib.ListN.{get_elem?}
use mathlib.Core.Option.{some}
use Rattle.atomic_table.proofs.Lists.{at_map}
use Rattle.spd_cons_core.specs.declared.key.Entry.{Entry}
use Rattle.spd_cons_core.specs.declared.key.Key.{Key}
use Rattle.spd_cons_core.specs.declared.mind.Call.{Call}
use Rattle.spd_cons_core.specs.Views.{Seat, Machine}
use Rattle.spd_cons_core.specs.Spelling.{words_of}
use Rattle.spd_cons_core.specs.Seats.{spent, seat_at, with_seat, bucket, bucket_count, entry_words}
use Rattle.spd_cons_core.specs.Events.{can_load_bucket, call_for, after_bucket, load_bucket, can_claim, after_claim, claim, can_store, store_content, can_exchange, after_exchange, exchange_bucket, can_compare, after_content, load_content}
use Rattle.spd_cons_core.proofs.CallerLemmas.{load_taken, claim_taken, store_taken, exchange_taken, content_taken}
use Rattle.spd_cons.specs.declared.view.Size.{Size}
use Rattle.spd_cons.specs.declared.view.View.{View}
use Rattle.spd_cons.specs.Ruled.{Running, machine_of, mind_of, fives}
use Rattle.spd_cons.proofs.Places.{fives_at, fives_set, bucket_is, bucket_put, bucket_kept, same_words, bucket_length, there}

-- the table after a step
abbrev pub written : Running → ℕ → ℕ → ℕ → View → Running
written s i x id w = record { words = set s.words i x; homes = s.homes; views = set s.views id w }

pub seat_is : (k : Size) (s : Running) (id : ℕ) (v : View) → get_elem? s.views id ≡ some v → seat_at (machine_of k s) id ≡ v.mind
seat_is k s id v at = there (map mind_of s.views) id v.mind spent (at_map mind_of s.views id v at)

-- a word is loaded: only the seat changes
pub loaded_machine : (k : Size) (s : Running) (i id : ℕ) (w : View) → machine_of k (written s i (get_or s.words i 0) id w) ≡ with_seat (machine_of k s) id w.mind
loaded_machine k s i id w = λ j. record {
  limit = k.limit;
  most = k.most;
  claims = get_or (same_words s.words i j) 0 0;
  buckets = take k.count (drop 1 (same_words s.words i j));
  entries = fives (k.limit + k.most) (drop (1 + k.count) (same_words s.words i j));
  seats = map-set mind_of s.views id w j;
}

-- LoadBucket

load_at : (c : Machine) (i n at x : ℕ) (key : Key) (seat : Seat) → seat_at c i ≡ seat → can_load_bucket key seat ≡ true → bucket_count c ≡ n → (call_for n key seat).at ≡ at → bucket c at ≡ x
    → load_bucket c i key ≡ with_seat c i (after_bucket (call_for n key seat) x seat)
load_at c i n at x key seat same can count is_at here =
    load_taken c i key seat same can
    ∙ (ap (λ (m : ℕ). with_seat c i (after_bucket (call_for m key seat) (bucket c (call_for m key seat).at) seat)) count
    ∙ (ap (λ (b : ℕ). with_seat c i (after_bucket (call_for n key seat) (bucket c b) seat)) is_at
    ∙ ap (λ (b : ℕ). with_seat c i (after_bucket (call_for n key seat) b seat)) here))

pub load_bucket_machine : (k : Size) (s : Running) (id at : ℕ) (v : View) (key : Key) → 1 + k.count ≤ length s.words → get_elem? s.views id ≡ some v → can_load_bucket key v.mind ≡ true → (call_for k.count key v.mind).at ≡ at → at < k.count
    → machine_of k (written s (at + 1) (get_or s.words (at + 1) 0) id (record v { mind = after_bucket (call_for k.count key v.mind) (get_or s.words (at + 1) 0) v.mind })) ≡ load_bucket (machine_of k s) id key
load_bucket_machine k s id at v key wide is can is_at within =
    loaded_machine k s (at + 1) id (record v { mind = after_bucket (call_for k.count key v.mind) (get_or s.words (at + 1) 0) v.mind })
    ∙ sym (load_at (machine_of k s) id k.count at (get_or s.words (at + 1) 0) key v.mind (seat_is k s id v is) can (bucket_length s.words k.count wide) is_at (bucket_is s.words k.count at within))

-- Claim

pub claim_machine : (k : Size) (s : Running) (id x : ℕ) (v : View) → 0 < length s.words → get_elem? s.views id ≡ some v → can_claim v.mind ≡ true → x ≡ get_or s.words 0 0 + 1
    → machine_of k (written s 0 x id (record v { mind = after_claim (k.limit + k.most) (get_or s.words 0 0) v.mind })) ≡ claim (machine_of k s) id
claim_machine k s id x v wide is can more =
    let w : View = record v { mind = after_claim (k.limit + k.most) (get_or s.words 0 0) v.mind } in
    let now : Machine = record (machine_of k s) { claims = get_or s.words 0 0 + 1; seats = set (map mind_of s.views) id w.mind } in
    let same : machine_of k (written s 0 x id w) ≡ now = λ j. record {
      limit = k.limit;
      most = k.most;
      claims = (get_or-set_same s.words 0 x 0 wide ∙ more) j;
      buckets = take k.count (drop-set-lt 1 s.words 0 x (omega arith) j);
      entries = fives (k.limit + k.most) (drop-set-lt (1 + k.count) s.words 0 x (omega arith) j);
      seats = map-set mind_of s.views id w j;
    } in
    same ∙ sym (claim_taken (machine_of k s) id v.mind (seat_is k s id v is) can)

-- StoreContent

pub store_machine : (k : Size) (s : Running) (id word : ℕ) (v : View) (call : Call) (spare : Entry) → get_elem? s.views id ≡ some v → v.mind.call ≡ Some call → v.mind.spare ≡ Some spare → can_store word call v.mind ≡ true → word < 5 → spare.0 < k.limit + k.most
    → machine_of k (written s ((1 + k.count) + (spare.0 * 5 + word)) (get_or (words_of call.key) word 0) id (record v { mind = record v.mind { call = Some (record call { stored = call.stored + 1 }) } })) ≡ store_content (machine_of k s) id word
store_machine k s id word v call spare is in_call has can five below =
    let w : View = record v { mind = record v.mind { call = Some (record call { stored = call.stored + 1 }) } } in
    let x : ℕ = get_or (words_of call.key) word 0 in
    let c : Machine = machine_of k s in
    let now : Machine = record c { entries = set c.entries spare.0 (set (entry_words c spare.0) word x); seats = set (map mind_of s.views) id w.mind } in
    let same : machine_of k (written s ((1 + k.count) + (spare.0 * 5 + word)) x id w) ≡ now = λ j. record {
      limit = k.limit;
      most = k.most;
      claims = get_or-set_other s.words ((1 + k.count) + (spare.0 * 5 + word)) 0 x 0 (λ z. omega arith) j;
      buckets = bucket_kept s.words k.count (spare.0 * 5 + word) x j;
      entries = (ap (fives (k.limit + k.most)) (drop-set-add (1 + k.count) s.words (spare.0 * 5 + word) x) ∙ fives_set (k.limit + k.most) spare.0 word x (drop (1 + k.count) s.words) below five) j;
      seats = map-set mind_of s.views id w j;
    } in
    same ∙ sym (store_taken c id word v.mind call spare (seat_is k s id v is) in_call has can)

-- ExchangeBucket

pub exchange_machine : (k : Size) (s : Running) (id old new : ℕ) (v : View) (call : Call) (spare : Entry) → get_elem? s.views id ≡ some v → v.mind.call ≡ Some call → v.mind.spare ≡ Some spare → can_exchange call v.mind ≡ true → call.at < k.count
    → old ≡ get_or s.words (call.at + 1) 0 → new ≡ cond (eqb old 0) (spare.0 + 1) old
    → machine_of k (written s (call.at + 1) new id (record v { mind = after_exchange call spare old v.mind })) ≡ exchange_bucket (machine_of k s) id
exchange_machine k s id old new v call spare is in_call has can within is_old is_new =
    let c : Machine = machine_of k s in
    let w : View = record v { mind = after_exchange call spare old v.mind } in
    let here : old ≡ bucket c call.at = is_old ∙ sym (bucket_is s.words k.count call.at within) in
    let same : machine_of k (written s (call.at + 1) new id w) ≡ record c { buckets = set c.buckets call.at new; seats = set (map mind_of s.views) id w.mind } = λ j. record {
      limit = k.limit;
      most = k.most;
      claims = get_or-set_other s.words (call.at + 1) 0 new 0 (λ z. omega arith) j;
      buckets = bucket_put s.words k.count call.at new within j;
      entries = fives (k.limit + k.most) (drop-set-lt (1 + k.count) s.words (call.at + 1) new (omega arith) j);
      seats = map-set mind_of s.views id w j;
    } in
    same
    ∙ (ap (λ (x : ℕ). record c { buckets = set c.buckets call.at x; seats = set c.seats id w.mind }) is_new
    ∙ (ap (λ (x : ℕ). record c { buckets = set c.buckets call.at (cond (eqb x 0) (spare.0 + 1) x); seats = set c.seats id (after_exchange call spare x v.mind) }) here
    ∙ sym (exchange_taken c id v.mind call spare (can_exchange call v.mind) (sym (seat_is k s id v is)) refl can in_call has)))

-- LoadContent

pub load_content_machine : (k : Size) (s : Running) (id : ℕ) (v : View) (call : Call) (e : Entry) → 1 + k.count ≤ length s.words → get_elem? s.views id ≡ some v → v.mind.call ≡ Some call → can_compare e call.right call v.mind ≡ true → call.right < 5 → e.0 < k.limit + k.most
    → machine_of k (written s ((1 + k.count) + (e.0 * 5 + call.right)) (get_or s.words ((1 + k.count) + (e.0 * 5 + call.right)) 0) id (record v { mind = after_content k.count e call (get_or s.words ((1 + k.count) + (e.0 * 5 + call.right)) 0) v.mind })) ≡ load_content (machine_of k s) id e call.right
load_content_machine k s id v call e wide is in_call can five below =
    let c : Machine = machine_of k s in
    let x : ℕ = get_or s.words ((1 + k.count) + (e.0 * 5 + call.right)) 0 in
    let here : x ≡ get_or (entry_words c e.0) call.right 0 = content_word k s e.0 call.right below five in
    loaded_machine k s ((1 + k.count) + (e.0 * 5 + call.right)) id (record v { mind = after_content k.count e call x v.mind })
    ∙ ((λ j. with_seat c id (after_content (sym (bucket_length s.words k.count wide) j) e call (here j) v.mind))
    ∙ sym (content_taken c id e call.right v.mind call (can_compare e call.right call v.mind) (sym (seat_is k s id v is)) refl can in_call))
  where
    content_word : (k : Size) (s : Running) (e j : ℕ) → e < k.limit + k.most → j < 5 → get_or s.words ((1 + k.count) + (e * 5 + j)) 0 ≡ get_or (entry_words (machine_of k s) e) j 0
    content_word k s e j below five = sym (fives_at (k.limit + k.most) e j (drop (1 + k.count) s.words) below five ∙ get_or-drop (1 + k.count) s.words (e * 5 + j) 0)
