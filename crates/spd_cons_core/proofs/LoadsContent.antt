-- The law of a word that is compared.
use Rattle.std.proofs.Common.{◌≡◌, ◌≢◌, ℕ, ◌+◌, ◌<◌, true, false, eqb, ltb, take, get_or, Option, Some, None, refl, sym, ap, ◌∙◌, subst, ⊎_elim, arith}
use Rattle.std.specs.List.{Contains}
use Rattle.std.specs.Option.{option_map_or}
use Rattle.std.proofs.lemmas.Bool.{true≢false, and_parts, cond_both, eqb-true, eqb-false, ltb-true}
use Rattle.std.proofs.lemmas.List.{take_more_same}
use Rattle.std.proofs.lemmas.Option.{none-some, same_Some}
use Rattle.spd_cons_core.specs.declared.key.Entry.{Entry}
use Rattle.spd_cons_core.specs.declared.mind.Known.{Known}
use Rattle.spd_cons_core.specs.declared.mind.Call.{Call}
use Rattle.spd_cons_core.specs.declared.mind.Last.TheVariants.{Got}
use Rattle.spd_cons_core.specs.Views.{Seat, Machine}
use Rattle.spd_cons_core.specs.Spelling.{words_of, first_bucket}
use Rattle.spd_cons_core.specs.Seats.{seat_at, with_seat, bucket, bucket_count, entry, entry_words, Names, parts_known, learned}
use Rattle.spd_cons_core.specs.Events.{can_compare, next_bucket, after_content, compare_in, load_content}
use Rattle.spd_cons_core.specs.Invariants.{IsSized, IsKnown, IsSearch, IsSoundMachine, Keeps}
use Rattle.spd_cons_core.proofs.Quiet.{keeps_same, call_keeps, quiet_keeps}
use Rattle.spd_cons_core.proofs.Knowledge.{learned_cases, learned_keeps, parts_more}
use Rattle.spd_cons_core.proofs.Fives.{five_of_key, five_of_entry, same_of_five}
use Rattle.spd_cons_core.proofs.Starts.{passed_next}

-- the seat after it has learned one more entry
pub learns : (c : Machine) (seat : Seat) (k : Known) → ((x : Known) → Contains seat.knows x → IsKnown c seat x) → IsKnown c seat k
    → (w : Seat) → w.knows ≡ learned seat.knows k → (x : Known) → Contains w.knows x → IsKnown c w x
learns c seat k was new w same x at =
    ⊎_elim (λ old. with_more (was x old)) (λ e. with_more (subst (IsKnown c seat) e new))
    (learned_cases seat.knows k x (subst (λ l. Contains l x) same at))
  where
    with_more : IsKnown c seat x → IsKnown c w x
    with_more k' = record {
      published = k'.published;
      words = k'.words;
      in_range = k'.in_range;
      parts = ap (λ l. parts_known l x.key) same ∙ parts_more seat.knows (learned seat.knows k) (learned_keeps seat.knows k) x.key k'.parts;
    }

-- what a seat that can compare a word has found
record IsFound (c : Machine) (call : Call) (e : Entry) (word : ℕ) : Type 0 where
  names : Names c call.at e.0
  right : take call.right (entry_words c e.0) ≡ take call.right (words_of call.key)
  next : word ≡ call.right
  below : call.right < 5

has_found : (c : Machine) (seat : Seat) (call : Call) (e : Entry) (word : ℕ) → IsSearch c seat call → can_compare e word call seat ≡ true → IsFound c call e word
has_found c seat call e word search can =
    let test = and_parts _ _ (and_parts seat.live _ can).1 in
    let words = and_parts (eqb word call.right) (ltb word 5) test.1 in
    let is = by_found call.found refl test.0 in
    let at = search.found e is in
    let same = eqb-true word call.right words.0 in
    let low = ltb-true word 5 words.1 in
    record { names = at.0; right = at.1; next = same; below = omega arith }
  where
    by_found : (o : Option Entry) → call.found ≡ o → option_map_or (λ found. eqb found.0 e.0) o false ≡ true → call.found ≡ Some e
    by_found None is test = absurd (true≢false (sym test))
    by_found (Some x) is test = is ∙ ap (λ (n : ℕ). Some (entry n)) (eqb-true x.0 e.0 test)

-- one more word is right
more_right : (c : Machine) (seat : Seat) (call : Call) (e : Entry) (word : ℕ) → IsSized c → IsSoundMachine c → IsSearch c seat call → IsFound c call e word → get_or (entry_words c e.0) word 0 ≡ get_or (words_of call.key) call.right 0
    → take (call.right + 1) (entry_words c e.0) ≡ take (call.right + 1) (words_of call.key)
more_right c seat call e word sized sound search found same =
    let five = five_of_entry c sized e.0 (sound.only_claimed call.at e.0 found.names) in
    let five' = five_of_key call.key in
    let below = found.below in
    take_more_same (entry_words c e.0) (words_of call.key) call.right 0 (omega arith) (omega arith) found.right (ap (λ n. get_or (entry_words c e.0) n 0) (sym found.next) ∙ same)

-- the search with one more word seen to be right
righted : (c : Machine) (seat : Seat) (call : Call) (e : Entry) → IsSearch c seat call → call.found ≡ Some e → take (call.right + 1) (entry_words c e.0) ≡ take (call.right + 1) (words_of call.key)
    → IsSearch c seat (record call { right = call.right + 1 })
righted c seat call e was is right = record {
  in_range = was.in_range;
  parts = was.parts;
  at_bucket = was.at_bucket;
  passed = was.passed;
  found = λ x is'. ((was.found x is').0, subst (λ (y : Entry). take (call.right + 1) (entry_words c y.0) ≡ take (call.right + 1) (words_of call.key)) (same_Some e x (sym is ∙ is')) right);
  none_right = λ none. absurd (none-some e (sym none ∙ is));
  stored = was.stored;
  none_stored = was.none_stored;
}

-- the search at the next bucket, since the entry in this one has another key
moved_on : (c : Machine) (seat : Seat) (call : Call) (e : Entry) → IsSearch c seat call → Names c call.at e.0 → entry_words c e.0 ≢ words_of call.key
    → IsSearch c seat (record call { at = next_bucket (bucket_count c) call.at; found = None; right = 0 })
moved_on c seat call e was names differs = record {
  in_range = was.in_range;
  parts = was.parts;
  at_bucket = let at = was.at_bucket in cond_both (ltb (call.at + 1) (bucket_count c)) (call.at + 1) 0 (λ n. n < bucket_count c) (λ t. ltb-true (call.at + 1) (bucket_count c) t) (λ _. omega arith);
  passed = λ b within passed. ⊎_elim
      (λ before. was.passed b within before)
      (λ (here : b ≡ call.at). record { entry = e.0; names = ap (bucket c) here ∙ names; differs = differs })
      (passed_next (bucket_count c) (first_bucket (words_of call.key) (bucket_count c)) call.at b within passed);
  found = λ x is. absurd (none-some x is);
  none_right = λ _. refl;
  stored = was.stored;
  none_stored = was.none_stored;
}

-- the entry that was found is known, with its key
found_known : (c : Machine) (seat : Seat) (call : Call) (e : Entry) → IsSized c → IsSoundMachine c → IsSearch c seat call → Names c call.at e.0 → take 5 (entry_words c e.0) ≡ take 5 (words_of call.key)
    → IsKnown c seat (record { entry = e; key = call.key })
found_known c seat call e sized sound search names whole = record {
  published = (call.at, names);
  words = same_of_five (entry_words c e.0) (words_of call.key) (five_of_entry c sized e.0 (sound.only_claimed call.at e.0 names)) (five_of_key call.key) whole;
  in_range = search.in_range;
  parts = search.parts;
}

got : (c : Machine) (i : ℕ) (call : Call) (e : Entry) → IsSized c → IsSoundMachine c → (seat_at c i).live ≡ true → IsKnown c (seat_at c i) (record { entry = e; key = call.key })
    → Keeps c (with_seat c i (record (seat_at c i) { knows = learned (seat_at c i).knows (record { entry = e; key = call.key }); call = None; last = Got e }))
got c i call e sized sound live new =
    let was = sound.seats i live in
    let k : Known = record { entry = e; key = call.key } in
    let w : Seat = record (seat_at c i) { knows = learned (seat_at c i).knows k; call = None; last = Got e } in
    quiet_keeps c i w sized sound live
    record { live = live; published = refl; spare = refl; unpublished = refl; stands = refl; splits = refl; ended = refl }
    record {
      known = learns c (seat_at c i) k was.known new w refl;
      own_known = λ x listed. learned_keeps (seat_at c i).knows k x (was.own_known x listed);
      search = λ call' is. absurd (none-some call' is);
    }

compared : (c : Machine) (i : ℕ) (call : Call) (e : Entry) (word : ℕ) → IsSized c → IsSoundMachine c → (seat_at c i).live ≡ true → (seat_at c i).call ≡ Some call → call.found ≡ Some e → IsFound c call e word
    → Keeps c (with_seat c i (after_content (bucket_count c) e call (get_or (entry_words c e.0) word 0) (seat_at c i)))
compared c i call e word sized sound live is is_found found =
    let search = (sound.seats i live).search call is in
    cond_both (eqb (get_or (entry_words c e.0) word 0) (get_or (words_of call.key) call.right 0)) _ _ (λ (w : Seat). Keeps c (with_seat c i w))
    (λ same. let more = more_right c (seat_at c i) call e word sized sound search found (eqb-true _ _ same) in
    cond_both (eqb (call.right + 1) 5) _ _ (λ (w : Seat). Keeps c (with_seat c i w))
    (λ all. got c i call e sized sound live (found_known c (seat_at c i) call e sized sound search found.names
    (subst (λ n. take n (entry_words c e.0) ≡ take n (words_of call.key)) (eqb-true (call.right + 1) 5 all) more)))
    (λ _. call_keeps c i (record call { right = call.right + 1 }) sized sound live (righted c (seat_at c i) call e search is_found more)))
    (λ other. call_keeps c i (record call { at = next_bucket (bucket_count c) call.at; found = None; right = 0 }) sized sound live
    (moved_on c (seat_at c i) call e search found.names (λ same. eqb-false _ _ other (ap (λ l. get_or l word 0) same ∙ ap (λ n. get_or (words_of call.key) n 0) found.next))))

content_in : (c : Machine) (i : ℕ) (e : Entry) (word : ℕ) → IsSized c → IsSoundMachine c → (o : Option Call) → (seat_at c i).call ≡ o → Keeps c (compare_in c i e word o)
content_in c i e word sized sound None is = keeps_same c sized sound
content_in c i e word sized sound (Some call) is =
    cond_both (can_compare e word call (seat_at c i)) _ c (Keeps c)
    (λ can. let live = (and_parts (seat_at c i).live _ can).0 in
    let search = (sound.seats i live).search call is in
    compared c i call e word sized sound live is (is_found call.found refl (and_parts _ _ (and_parts (seat_at c i).live _ can).1).0) (has_found c (seat_at c i) call e word search can))
    (λ _. keeps_same c sized sound)
  where
    is_found : (o : Option Entry) → call.found ≡ o → option_map_or (λ found. eqb found.0 e.0) o false ≡ true → call.found ≡ Some e
    is_found None is test = absurd (true≢false (sym test))
    is_found (Some x) is test = is ∙ ap (λ (n : ℕ). Some (entry n)) (eqb-true x.0 e.0 test)

-- a word that is compared keeps the invariant
pub load_content_keeps : (c : Machine) (i : ℕ) (e : Entry) (word : ℕ) → IsSized c → IsSoundMachine c → Keeps c (load_content c i e word)
load_content_keeps c i e word sized sound = content_in c i e word sized sound (seat_at c i).call refl
