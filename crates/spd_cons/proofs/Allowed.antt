-- Each kind of step of the running table is allowed by the rule.
use Rattle.std.proofs.Common.{◌≡◌, ℕ, ◌+◌, ◌*◌, ◌%◌, ◌<◌, Bool, true, false, cond, eqb, ltb, is_none, ◌&&◌, drop, get_or, Option, Some, unwrap_or, refl, sym, ap, ◌∙◌, subst, arith}
use Rattle.std.proofs.lemmas.Bool.{and_parts, cond_both}
use Rattle.std.proofs.Math.Nat.{mod-eq_of_lt}
use Rattle.std.proofs.lemmas.List.{get_or-drop}
use prog.Atomic.{either}
use Rattle.atomic_table.specs.Table.{Allows}
use Rattle.spd_cons_core.specs.declared.key.Entry.{Entry}
use Rattle.spd_cons_core.specs.declared.key.Key.{Key}
use Rattle.spd_cons_core.specs.declared.mind.Call.{Call}
use Rattle.spd_cons_core.specs.declared.event.Event.TheVariants.{LoadBucket, Claim, StoreContent, ExchangeBucket, LoadContent}
use Rattle.spd_cons_core.specs.Views.{Seat}
use Rattle.spd_cons_core.specs.Spelling.{words_of, IsKey}
use Rattle.spd_cons_core.specs.Seats.{bucket, entry_words}
use Rattle.spd_cons_core.specs.declared.key.Key.TheVariants.{Act}
use Rattle.spd_cons_core.specs.Events.{new_call, call_for, can_load_bucket, after_bucket, can_claim, after_claim, can_store, can_exchange, after_exchange, can_compare, after_content}
use Rattle.spd_cons_core.proofs.CallerLemmas.{load_bucket_keeps, claim_keeps, store_content_keeps, exchange_bucket_keeps, load_content_keeps, claims_below, call_within}
use Rattle.spd_cons.specs.declared.view.Size.{Size}
use Rattle.spd_cons.specs.Ruled.{machine_of, word_place, IsRuled}
use Rattle.spd_cons.specs.Told.{Mine, Takes, call_of, spare_of, found_of, TellsBucket, TellsClaim, TellsStore, TellsExchange, TellsContent}
use Rattle.spd_cons.proofs.Places.{bucket_is, fives_at, bucket_length}
use Rattle.spd_cons.proofs.Machines.{seat_is, load_bucket_machine, claim_machine, store_machine, exchange_machine, load_content_machine}
use Rattle.spd_cons.proofs.Ruling.{allowed}

abbrev IsLive : Seat → Type 0
IsLive seat = seat.live ≡ true

-- LoadBucket

live_bucket : (call : Call) (n : ℕ) (seat : Seat) → IsLive seat → IsLive (after_bucket call n seat)
live_bucket call n seat live =
    cond_both (eqb n 0) _ _ IsLive
    (λ _. cond_both (is_none seat.spare && seat.ended) _ _ IsLive (λ _. live) (λ _. live))
    (λ _. live)

bucket_allowed : (slots id at : ℕ) (me : Mine) (key : Key) → at < me.0.size.count → IsKey key → can_load_bucket key me.0.mind ≡ true → (call_for me.0.size.count key me.0.mind).at ≡ at
    → Allows (IsRuled me.0.size) slots id me (at + 1) (λ n. n) (TellsBucket key me)
bucket_allowed slots id at me key within fits can is_at =
    let k : Size = me.0.size in
    let call : Call = call_for k.count key me.0.mind in
    let live = (and_parts me.0.mind.live _ can).0 in
    allowed k slots id (at + 1) me (λ n. n) (λ n. n) (λ i. LoadBucket i key) (λ c. bucket c call.at) (λ n. after_bucket call n me.0.mind) live (λ n. live_bucket call n me.0.mind live)
    (λ s r there. let wide = r.width in record {
      read = sym (ap (bucket (machine_of k s)) is_at ∙ bucket_is s.words k.count at within);
      same = load_bucket_machine k s id at me.0 key (omega arith) there can is_at within;
      law = load_bucket_keeps (machine_of k s) id key r.sized r.sound fits;
    })

pub load_bucket_allowed : (k k' : Size) (slots id at : ℕ) (me : Mine) (key : Key) → k' ≡ k → me.0.size ≡ k → at < k.count → IsKey key → can_load_bucket key me.0.mind ≡ true → (call_for k.count key me.0.mind).at ≡ at
    → Allows (IsRuled k') slots id me (at + 1) (λ n. n) (TellsBucket key me)
load_bucket_allowed k k' slots id at me key is_k size within fits can is_at =
    subst (λ z. Allows (IsRuled z) slots id me (at + 1) (λ n. n) (TellsBucket key me)) (sym is_k)
    (subst (λ z. at < z.count → (call_for z.count key me.0.mind).at ≡ at → Allows (IsRuled z) slots id me (at + 1) (λ n. n) (TellsBucket key me)) size
    (λ in' is'. bucket_allowed slots id at me key in' fits can is') within is_at)

-- Claim

live_claim : (end n : ℕ) (seat : Seat) → IsLive seat → IsLive (after_claim end n seat)
live_claim end n seat live = cond_both (ltb n end) _ _ IsLive (λ _. live) (λ _. live)

claiming : (slots id : ℕ) (me : Mine) → can_claim me.0.mind ≡ true → Allows (IsRuled me.0.size) slots id me 0 (λ n. (n + 1) % 18446744073709551616) (TellsClaim me)
claiming slots id me can =
    let k : Size = me.0.size in
    let live = (and_parts me.0.mind.live _ can).0 in
    allowed k slots id 0 me (λ n. (n + 1) % 18446744073709551616) (λ n. n) (λ i. Claim i) (λ c. c.claims) (λ n. after_claim (k.limit + k.most) n me.0.mind) live (λ n. live_claim (k.limit + k.most) n me.0.mind live)
    (λ s r there.
    let wide = r.width in
    let bound = claims_below (machine_of k s) r.sound in
    let limit = r.sized.limit_high in
    let most = r.sized.most_high in
    let old : ℕ = get_or s.words 0 0 in
    let room : old + 1 < 18446744073709551616 = omega arith in
    record {
      read = refl;
      same = claim_machine k s id ((old + 1) % 18446744073709551616) me.0 (omega arith) there can (mod-eq_of_lt room);
      law = claim_keeps (machine_of k s) id r.sized r.sound;
    })

pub claim_allowed : (k k' : Size) (slots id : ℕ) (me : Mine) → k' ≡ k → me.0.size ≡ k → can_claim me.0.mind ≡ true → Allows (IsRuled k') slots id me 0 (λ n. (n + 1) % 18446744073709551616) (TellsClaim me)
claim_allowed k k' slots id me is_k size can = subst (λ z. Allows (IsRuled z) slots id me 0 (λ n. (n + 1) % 18446744073709551616) (TellsClaim me)) (size ∙ sym is_k) (claiming slots id me can)

-- what a seat says of its call and its spare

pub call_is : (seat : Seat) (call : Call) → seat.call ≡ Some call → call_of seat ≡ call
call_is seat call is = ap (λ (o : Option Call). unwrap_or o (new_call 0 (Act 0))) is

-- StoreContent

storing : (slots id : ℕ) (me : Mine) (call : Call) (spare : Entry) → me.0.mind.call ≡ Some call → me.0.mind.spare ≡ Some spare → can_store call.stored call me.0.mind ≡ true → call.stored < 5 → spare.0 < me.0.size.limit + me.0.size.most
    → Allows (IsRuled me.0.size) slots id me ((1 + me.0.size.count) + (spare.0 * 5 + call.stored)) (λ _. get_or (words_of call.key) call.stored 0)
    (λ _ m'. Takes (λ i. StoreContent i call.stored) (λ c. get_or (words_of call.key) call.stored 0) (λ n. record me.0.mind { call = Some (record call { stored = call.stored + 1 }) }) me.0 (get_or (words_of call.key) call.stored 0) m'.0 × (m'.1 ≡ me.1))
storing slots id me call spare in_call has can five below =
    let k : Size = me.0.size in
    let x : ℕ = get_or (words_of call.key) call.stored 0 in
    let live = (and_parts me.0.mind.live _ can).0 in
    allowed k slots id ((1 + k.count) + (spare.0 * 5 + call.stored)) me (λ _. x) (λ _. x) (λ i. StoreContent i call.stored) (λ c. x) (λ n. record me.0.mind { call = Some (record call { stored = call.stored + 1 }) }) live (λ n. live)
    (λ s r there. record {
      read = refl;
      same = store_machine k s id call.stored me.0 call spare there in_call has can five below;
      law = store_content_keeps (machine_of k s) id call.stored r.sized r.sound;
    })

-- ExchangeBucket

live_exchange : (call : Call) (spare : Entry) (n : ℕ) (seat : Seat) → IsLive seat → IsLive (after_exchange call spare n seat)
live_exchange call spare n seat live = cond_both (eqb n 0) _ _ IsLive (λ _. live) (λ _. live)

either_is : (b : Bool) (x y : ℕ) → either b x y ≡ cond b x y
either_is true x y = refl
either_is false x y = refl

exchanging : (slots id : ℕ) (me : Mine) (call : Call) (spare : Entry) → me.0.mind.call ≡ Some call → me.0.mind.spare ≡ Some spare → can_exchange call me.0.mind ≡ true
    → Allows (IsRuled me.0.size) slots id me (call.at + 1) (λ n. either (eqb n 0) (spare.0 + 1) n)
    (λ found m'. Takes (λ i. ExchangeBucket i) (λ c. bucket c call.at) (λ n. after_exchange call spare n me.0.mind) me.0 found m'.0 × (m'.1 ≡ me.1))
exchanging slots id me call spare in_call has can =
    let k : Size = me.0.size in
    let live = (and_parts me.0.mind.live _ can).0 in
    allowed k slots id (call.at + 1) me (λ n. either (eqb n 0) (spare.0 + 1) n) (λ n. n) (λ i. ExchangeBucket i) (λ c. bucket c call.at) (λ n. after_exchange call spare n me.0.mind) live (λ n. live_exchange call spare n me.0.mind live)
    (λ s r there.
    let wide = r.width in
    let count = bucket_length s.words k.count (omega arith) in
    let at = call_within (machine_of k s) r.sound id me.0.mind call (sym (seat_is k s id me.0 there)) live in_call in
    let within : call.at < k.count = omega (arith, count, at) in
    let old : ℕ = get_or s.words (call.at + 1) 0 in
    record {
      read = sym (bucket_is s.words k.count call.at within);
      same = exchange_machine k s id old (either (eqb old 0) (spare.0 + 1) old) me.0 call spare there in_call has can within refl (either_is (eqb old 0) (spare.0 + 1) old);
      law = exchange_bucket_keeps (machine_of k s) id r.sized r.sound;
    })

-- LoadContent

live_content : (count : ℕ) (e : Entry) (call : Call) (n : ℕ) (seat : Seat) → IsLive seat → IsLive (after_content count e call n seat)
live_content count e call n seat live =
    cond_both (eqb n (get_or (words_of call.key) call.right 0)) _ _ IsLive
    (λ _. cond_both (eqb (call.right + 1) 5) _ _ IsLive (λ _. live) (λ _. live))
    (λ _. live)

comparing : (slots id : ℕ) (me : Mine) (call : Call) (e : Entry) → me.0.mind.call ≡ Some call → can_compare e call.right call me.0.mind ≡ true → call.right < 5 → e.0 < me.0.size.limit + me.0.size.most
    → Allows (IsRuled me.0.size) slots id me ((1 + me.0.size.count) + (e.0 * 5 + call.right)) (λ n. n)
    (λ found m'. Takes (λ i. LoadContent i e call.right) (λ c. get_or (entry_words c e.0) call.right 0) (λ n. after_content me.0.size.count e call n me.0.mind) me.0 found m'.0 × (m'.1 ≡ me.1))
comparing slots id me call e in_call can five below =
    let k : Size = me.0.size in
    let live = (and_parts me.0.mind.live _ can).0 in
    allowed k slots id ((1 + k.count) + (e.0 * 5 + call.right)) me (λ n. n) (λ n. n) (λ i. LoadContent i e call.right) (λ c. get_or (entry_words c e.0) call.right 0) (λ n. after_content k.count e call n me.0.mind) live (λ n. live_content k.count e call n me.0.mind live)
    (λ s r there. let wide = r.width in record {
      read = sym (fives_at (k.limit + k.most) e.0 call.right (drop (1 + k.count) s.words) below five ∙ get_or-drop (1 + k.count) s.words (e.0 * 5 + call.right) 0);
      same = load_content_machine k s id me.0 call e (omega arith) there in_call can five below;
      law = load_content_keeps (machine_of k s) id e call.right r.sized r.sound;
    })

-- the same, as the calls of the code ask for them

pub store_allowed : (k k' : Size) (slots id e word at x : ℕ) (me : Mine) → k' ≡ k → me.0.size ≡ k → me.0.mind.call ≡ Some (call_of me.0.mind) → me.0.mind.spare ≡ Some (spare_of me.0.mind) → can_store word (call_of me.0.mind) me.0.mind ≡ true → (call_of me.0.mind).stored ≡ word → word < 5
    → (spare_of me.0.mind).0 ≡ e → e < k.limit + k.most → at ≡ word_place k.count e word → x ≡ get_or (words_of (call_of me.0.mind).key) word 0
    → Allows (IsRuled k') slots id me at (λ _. x) (λ _ m'. TellsStore me x m')
store_allowed k k' slots id e word at x me is_k size in_call has can stored five its below is_at is_x =
    let call : Call = call_of me.0.mind in
    let spare : Entry = spare_of me.0.mind in
    let n : ℕ = call.stored in
    let y : ℕ = get_or (words_of call.key) n 0 in
    let at' : at ≡ word_place me.0.size.count spare.0 n = is_at ∙ (λ i. word_place ((sym size i).count) (sym its i) (sym stored i)) in
    let x' : x ≡ y = is_x ∙ ap (λ w. get_or (words_of call.key) w 0) (sym stored) in
    let below' : spare.0 < me.0.size.limit + me.0.size.most = subst (λ z. spare.0 < z.limit + z.most) (sym size) (subst (λ z. z < k.limit + k.most) (sym its) below) in
    let main = storing slots id me call spare in_call has (ap (λ w. can_store w call me.0.mind) stored ∙ can) (subst (λ w. w < 5) (sym stored) five) below' in
    subst (λ z. Allows (IsRuled z) slots id me at (λ _. x) (λ _ m'. TellsStore me x m')) (size ∙ sym is_k)
    (subst (λ z. Allows (IsRuled me.0.size) slots id me at (λ _. z) (λ _ m'. TellsStore me z m')) (sym x')
    (subst (λ z. Allows (IsRuled me.0.size) slots id me z (λ _. y) (λ _ m'. TellsStore me y m')) (sym at') main))

pub exchange_allowed : (k k' : Size) (slots id at e : ℕ) (me : Mine) → k' ≡ k → me.0.size ≡ k → me.0.mind.call ≡ Some (call_of me.0.mind) → me.0.mind.spare ≡ Some (spare_of me.0.mind) → can_exchange (call_of me.0.mind) me.0.mind ≡ true → (call_of me.0.mind).at ≡ at → (spare_of me.0.mind).0 ≡ e
    → Allows (IsRuled k') slots id me (at + 1) (λ n. either (eqb n 0) (e + 1) n) (TellsExchange me)
exchange_allowed k k' slots id at e me is_k size in_call has can is_at its =
    subst (λ z. Allows (IsRuled z) slots id me (at + 1) (λ n. either (eqb n 0) (e + 1) n) (TellsExchange me)) (size ∙ sym is_k)
    (subst (λ z. Allows (IsRuled me.0.size) slots id me (z + 1) (λ n. either (eqb n 0) (e + 1) n) (TellsExchange me)) is_at
    (subst (λ z. Allows (IsRuled me.0.size) slots id me ((call_of me.0.mind).at + 1) (λ n. either (eqb n 0) (z + 1) n) (TellsExchange me)) its
    (exchanging slots id me (call_of me.0.mind) (spare_of me.0.mind) in_call has can)))

pub content_allowed : (k k' : Size) (slots id e word at : ℕ) (me : Mine) → k' ≡ k → me.0.size ≡ k → me.0.mind.call ≡ Some (call_of me.0.mind) → can_compare (found_of me.0.mind) word (call_of me.0.mind) me.0.mind ≡ true → (call_of me.0.mind).right ≡ word → word < 5
    → (found_of me.0.mind).0 ≡ e → e < k.limit + k.most → at ≡ word_place k.count e word
    → Allows (IsRuled k') slots id me at (λ n. n) (TellsContent me)
content_allowed k k' slots id e word at me is_k size in_call can right five its below is_at =
    let call : Call = call_of me.0.mind in
    let found : Entry = found_of me.0.mind in
    let at' : at ≡ word_place me.0.size.count found.0 call.right = is_at ∙ (λ i. word_place ((sym size i).count) (sym its i) (sym right i)) in
    let below' : found.0 < me.0.size.limit + me.0.size.most = subst (λ z. found.0 < z.limit + z.most) (sym size) (subst (λ z. z < k.limit + k.most) (sym its) below) in
    let main = comparing slots id me call found in_call (ap (λ w. can_compare found w call me.0.mind) right ∙ can) (subst (λ w. w < 5) (sym right) five) below' in
    subst (λ z. Allows (IsRuled z) slots id me at (λ n. n) (TellsContent me)) (size ∙ sym is_k)
    (subst (λ z. Allows (IsRuled me.0.size) slots id me z (λ n. n) (TellsContent me)) (sym at') main)
