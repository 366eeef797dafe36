-- A key whose search comes to an empty bucket is published nowhere.
use Rattle.std.proofs.Common.{◌≡◌, ◌≢◌, ◌⊎◌, ℕ, ◌+◌, true, not, is_none, ◌&&◌, Option, Some, None, unwrap_or, refl, sym, ap, ◌∙◌, subst, ⊎_elim, arith}
use Rattle.std.specs.List.{Contains}
use Rattle.std.specs.Option.{option_map_or}
use Rattle.std.proofs.lemmas.Bool.{and_parts}
use Rattle.spd_cons_core.specs.declared.key.Key.{Key}
use Rattle.spd_cons_core.specs.declared.mind.Known.{Known}
use Rattle.spd_cons_core.specs.declared.mind.Call.{Call}
use Rattle.spd_cons_core.specs.Views.{Seat, Machine}
use Rattle.spd_cons_core.specs.Spelling.{words_of, first_bucket, IsKey}
use Rattle.spd_cons_core.specs.Seats.{seat_at, bucket, bucket_count, Names, entry_words, same_key, parts_known}
use Rattle.spd_cons_core.specs.Events.{call_for, can_load_bucket, new_call}
use Rattle.spd_cons_core.specs.Invariants.{IsSized, IsSoundMachine, IsSearch, IsPassed}
use Rattle.spd_cons_core.proofs.Exchanges.{named_within}
use Rattle.spd_cons_core.proofs.Starts.{passed_order}
use Rattle.spd_cons_core.proofs.LoadsBucket.{ready}
use Rattle.spd_cons_core.proofs.Consequences.{same_key_tells}

-- a search that stands at an empty bucket
search_unpublished : (c : Machine) (seat : Seat) (call : Call) → IsSoundMachine c → IsSearch c seat call → bucket c call.at ≡ 0 → (b e : ℕ) → Names c b e → entry_words c e ≢ words_of call.key
search_unpublished c seat call sound search empty b e names words =
    ⊎_elim
    (λ before. let there = search.passed b (named_within c b e names) before in
    let n = there.names in let which : there.entry ≡ e = omega arith in there.differs (ap (entry_words c) which ∙ words))
    (λ rest. ⊎_elim
    (λ (here : b ≡ call.at). let n : 0 ≡ e + 1 = sym empty ∙ (ap (bucket c) (sym here) ∙ names) in absurd (omega arith))
    (λ behind. sound.filled_from_start b e call.at names search.at_bucket (subst (λ l. IsPassed (first_bucket l (bucket_count c)) b call.at) (sym words) behind) empty)
    rest)
    (passed_order (first_bucket (words_of call.key) (bucket_count c)) call.at b)

-- the call with which a seat loads a bucket for a key is one for this key
call_key : (count : ℕ) (key : Key) (seat : Seat) → can_load_bucket key seat ≡ true → (call_for count key seat).key ≡ key
call_key count key seat can = by_call seat.call (and_parts seat.live _ can).1
  where
    by_call : (o : Option Call) → option_map_or (λ call. same_key call.key key && (is_none call.found && not call.empty)) o (parts_known seat.knows key) ≡ true → (unwrap_or o (new_call count key)).key ≡ key
    by_call None is = refl
    by_call (Some call) is = (same_key_tells call.key key).0 (and_parts (same_key call.key key) _ is).0

-- the key for which an empty bucket is loaded
pub key_unpublished : (c : Machine) (i : ℕ) (key : Key) → IsSized c → IsSoundMachine c → IsKey key → can_load_bucket key (seat_at c i) ≡ true → bucket c (call_for (bucket_count c) key (seat_at c i)).at ≡ 0
    → (b e : ℕ) → Names c b e → entry_words c e ≢ words_of key
key_unpublished c i key sized sound fits can empty b e names words =
    let seat = seat_at c i in
    let call : Call = call_for (bucket_count c) key seat in
    let live = (and_parts seat.live _ can).0 in
    let stands = ready c seat key sized fits (sound.seats i live).search can in
    search_unpublished c seat call sound stands.search empty b e names (words ∙ ap words_of (sym (call_key (bucket_count c) key seat can)))

-- so no seat knows it
pub key_unknown : (c : Machine) (i : ℕ) (key : Key) → IsSized c → IsSoundMachine c → IsKey key → can_load_bucket key (seat_at c i) ≡ true → bucket c (call_for (bucket_count c) key (seat_at c i)).at ≡ 0
    → (j : ℕ) (k : Known) → (seat_at c j).live ≡ true → Contains (seat_at c j).knows k → k.key ≢ key
key_unknown c i key sized sound fits can empty j k live at same =
    let known = (sound.seats j live).known k at in
    key_unpublished c i key sized sound fits can empty known.published.0 k.entry.0 known.published.1 (known.words ∙ ap words_of same)
