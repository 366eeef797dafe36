-- The law of an exchange.
use Rattle.std.proofs.Common.{◌≡◌, ◌≢◌, ◌⊎◌, ℕ, ◌+◌, ◌-◌, ◌*◌, ◌<◌, ◌≤◌, Bool, true, false, cond, eqb, ltb, List, [], ◌∷◌, ◌++◌, take, length, get_or, set, Option, Some, None, refl, sym, ap, ◌∙◌, subst, inl, inr, ⊎_elim, arith}
use Rattle.std.specs.List.{Contains, sum_by, count_by}
use Rattle.std.specs.Int.{IsNextPowerOfTwo}
use Rattle.std.proofs.lemmas.Bool.{and_parts, cond_both, eqb-true, eqb-false, ne_eqb, eq-eqb, cases_eq, cases_lt, lt-ltb}
use Rattle.std.proofs.lemmas.List.{get_or-set_same, get_or-set_other, get_or_past, length-set, length_push, set-get_or}
use Rattle.std.proofs.lemmas.List.Elements.{Contains-push_cases}
use Rattle.std.proofs.lemmas.List.Sums.{sum_by-set, sum_by_push}
use Rattle.std.proofs.lemmas.Option.{none-some, same_Some}
use Rattle.spd_cons_core.specs.declared.key.Entry.{Entry}
use Rattle.spd_cons_core.specs.declared.mind.Known.{Known}
use Rattle.spd_cons_core.specs.declared.mind.Call.{Call}
use Rattle.spd_cons_core.specs.declared.mind.Last.TheVariants.{Got}
use Rattle.spd_cons_core.specs.Views.{Seat, Machine}
use Rattle.spd_cons_core.specs.Spelling.{words_of, first_bucket}
use Rattle.spd_cons_core.specs.Seats.{seat_at, bucket, bucket_count, entry, entry_words, Names, is_known, learned}
use Rattle.spd_cons_core.specs.Events.{can_exchange, exchange_in, exchange_bucket}
use Rattle.spd_cons_core.specs.Invariants.{IsSized, IsClaimed, IsKnown, IsPassed, IsSearch, IsSeat, IsSoundMachine, Keeps, times_listed, shares, stands_at_end, filled}
use Rattle.spd_cons_core.proofs.Writes.{total_set, total_same}
use Rattle.spd_cons_core.proofs.Growth.{Grows, grow_claimed, grow_known}
use Rattle.spd_cons_core.proofs.Knowledge.{learned_keeps, learned_known}
use Rattle.spd_cons_core.proofs.Quiet.{keeps_same, seats_changed, spares_changed, call_keeps}
use Rattle.spd_cons_core.proofs.Fives.{five_of_key, five_of_entry, same_of_five}
use Rattle.spd_cons_core.proofs.Starts.{passed_order}
use Rattle.spd_cons_core.proofs.LoadsContent.{learns}

-- the seat that has won its exchange
abbrev winner : Seat → Call → Entry → Seat
winner seat call spare = record seat {
  knows = learned seat.knows (record { entry = spare; key = call.key });
  published = seat.published ++ spare ∷ [];
  spare = None;
  unpublished = seat.unpublished - 1;
  call = None;
  last = Got spare;
}

abbrev with_bucket : Machine → ℕ → ℕ → Entry → Seat → Machine
with_bucket c i at spare w = record c { buckets = set c.buckets at (spare.0 + 1); seats = set c.seats i w }

-- a seat that publishes its spare in an empty bucket
record IsPublishing (c : Machine) (i : ℕ) (call : Call) (spare : Entry) : Type 0 where
  live : (seat_at c i).live ≡ true
  in_call : (seat_at c i).call ≡ Some call
  has_spare : (seat_at c i).spare ≡ Some spare
  whole : call.stored ≡ 5
  empty : bucket c call.at ≡ 0

-- a bucket that names an entry is one of the buckets
pub named_within : (c : Machine) (b e : ℕ) → Names c b e → b < bucket_count c
named_within c b e names =
    ⊎_elim (λ (within : b < bucket_count c). within)
    (λ (past : bucket_count c ≤ b). let zero : bucket c b ≡ 0 = get_or_past c.buckets b 0 past in absurd (omega arith))
    (cases_lt b (bucket_count c))

-- the machine's parts that an exchange needs
record Won (c d : Machine) (at : ℕ) (spare : Entry) : Type 0 where
  here : Names d at spare.0
  others : (b : ℕ) → b ≢ at → bucket d b ≡ bucket c b
  cases : (b e : ℕ) → Names d b e → ((b ≡ at) × (e ≡ spare.0)) ⊎ ((b ≢ at) × Names c b e)
  grows : Grows c d

won : (c : Machine) (i : ℕ) (call : Call) (spare : Entry) (w : Seat) → IsPublishing c i call spare → call.at < bucket_count c → Won c (with_bucket c i call.at spare w) call.at spare
won c i call spare w may within =
    let here : get_or (set c.buckets call.at (spare.0 + 1)) call.at 0 ≡ spare.0 + 1 = get_or-set_same c.buckets call.at (spare.0 + 1) 0 within in
    let others = λ (b : ℕ) (other : b ≢ call.at). get_or-set_other c.buckets call.at b (spare.0 + 1) 0 other in
    let empty = may.empty in
    record {
      here = here;
      others = others;
      cases = λ b e names. ⊎_elim
          (λ (same : b ≡ call.at). let n : spare.0 + 1 ≡ e + 1 = sym here ∙ (ap (λ k. get_or (set c.buckets call.at (spare.0 + 1)) k 0) (sym same) ∙ names) in inl (same, omega arith))
          (λ (other : b ≡ call.at → ⊥). inr (other, sym (others b other) ∙ names))
          (cases_eq b call.at);
      grows = record {
        limit = refl;
        most = refl;
        count = length-set c.buckets call.at (spare.0 + 1);
        claims = omega arith;
        names = λ b e names. others b (λ same. let n : 0 ≡ e + 1 = sym empty ∙ (ap (bucket c) (sym same) ∙ names) in absurd (omega arith)) ∙ names;
        words = λ b e names. refl;
      };
    }

-- the words of the spare are the key's
spelled : (c : Machine) (i : ℕ) (call : Call) (spare : Entry) → IsSized c → IsSoundMachine c → IsPublishing c i call spare → entry_words c spare.0 ≡ words_of call.key
spelled c i call spare sized sound may =
    let was = sound.seats i may.live in
    same_of_five (entry_words c spare.0) (words_of call.key) (five_of_entry c sized spare.0 (was.spare spare may.has_spare).claimed) (five_of_key call.key)
    (subst (λ n. take n (entry_words c spare.0) ≡ take n (words_of call.key)) may.whole ((was.search call may.in_call).stored spare may.has_spare))

-- no filled bucket names an entry of this key: a search passes it before the empty bucket, or it would have passed the empty bucket
no_twin : (c : Machine) (i : ℕ) (call : Call) (spare : Entry) → IsSoundMachine c → IsPublishing c i call spare → (b e : ℕ) → Names c b e → entry_words c e ≡ words_of call.key → ⊥
no_twin c i call spare sound may b e names same =
    let search = (sound.seats i may.live).search call may.in_call in
    let empty = may.empty in
    ⊎_elim
    (λ before. let other = search.passed b (named_within c b e names) before in
    let n = other.names in let which : other.entry ≡ e = omega arith in other.differs (ap (entry_words c) which ∙ same))
    (λ rest. ⊎_elim
    (λ (here : b ≡ call.at). let n : 0 ≡ e + 1 = sym empty ∙ (ap (bucket c) (sym here) ∙ names) in absurd (omega arith))
    (λ behind. sound.filled_from_start b e call.at names search.at_bucket (subst (λ l. IsPassed (first_bucket l (bucket_count c)) b call.at) (sym same) behind) empty)
    rest)
    (passed_order (first_bucket (words_of call.key) (bucket_count c)) call.at b)

-- one more bucket is filled
filled_set : (l : List ℕ) (at e : ℕ) → at < length l → get_or l at 0 ≡ 0 → count_by (λ b. ltb 0 b) (set l at (e + 1)) ≡ count_by (λ b. ltb 0 b) l + 1
filled_set l at e within empty =
    let one : ℕ → ℕ = λ b. cond (ltb 0 b) 1 0 in
    let more : sum_by one (set l at (e + 1)) + one (get_or l at 0) ≡ sum_by one l + one (e + 1) = sum_by-set one l at (e + 1) 0 within in
    let was_empty : one (get_or l at 0) ≡ 0 = ap one empty in
    let is_filled : one (e + 1) ≡ 1 = ap (λ (b : Bool). cond b 1 0) (lt-ltb 0 (e + 1) (omega arith)) in
    sums (sum_by one (set l at (e + 1))) (one (get_or l at 0)) (sum_by one l) (one (e + 1)) more was_empty is_filled
  where
    sums : (a b c d : ℕ) → a + b ≡ c + d → b ≡ 0 → d ≡ 1 → a ≡ c + 1
    sums a b c d e f g = omega arith

times_more : (e : ℕ) (l : List Entry) (spare : Entry) (z : Bool) → eqb spare.0 e ≡ z → count_by (λ p. eqb p.0 e) (l ++ spare ∷ []) ≡ count_by (λ p. eqb p.0 e) l + cond z 1 0
times_more e l spare z is = sum_by_push (λ (p : Entry). cond (eqb p.0 e) 1 0) l spare ∙ ap (λ (b : Bool). count_by (λ p. eqb p.0 e) l + cond b 1 0) is

-- the winner
won_seat : (c d : Machine) (i : ℕ) (call : Call) (spare : Entry) → IsSized c → IsSoundMachine c → IsPublishing c i call spare → Won c d call.at spare → d.entries ≡ c.entries → d.claims ≡ c.claims → IsSeat d (winner (seat_at c i) call spare)
won_seat c d i call spare sized sound may has entries claims =
    let seat : Seat = seat_at c i in
    let was = sound.seats i may.live in
    let search = was.search call may.in_call in
    let counted = (was.spare spare may.has_spare).counted in
    let stands = was.stands in
    let unpublished = was.unpublished in
    let limit = has.grows.limit in
    let most = has.grows.most in
    let k : Known = record { entry = spare; key = call.key } in
    let new : IsKnown d seat k = record {
      published = (call.at, has.here);
      words = ap (λ l. get_or l spare.0 []) entries ∙ spelled c i call spare sized sound may;
      in_range = search.in_range;
      parts = search.parts;
    } in
    record {
      known = learns d seat k (λ x at. grow_known c d has.grows seat x (was.known x at)) new (winner seat call spare) refl;
      own_known = λ e at. ⊎_elim
          (λ (old : Contains seat.published e). learned_keeps seat.knows k e (was.own_known e old))
          (λ (same : spare ≡ e). subst (λ (x : Entry). is_known (learned seat.knows k) x ≡ true) same (learned_known seat.knows k))
          (Contains-push_cases seat.published spare e at);
      spare = λ e is. absurd (none-some e is);
      search = λ call' is. absurd (none-some call' is);
      stands = was.stands;
      unpublished = omega arith;
      less_without_spare = λ _. omega arith;
      less_at_end = λ _. omega arith;
      end_met = λ ended. let met = was.end_met ended in omega arith;
    }

wins : (c : Machine) (i : ℕ) (call : Call) (spare : Entry) → IsSized c → IsSoundMachine c → IsPublishing c i call spare → Keeps c (with_bucket c i call.at spare (winner (seat_at c i) call spare))
wins c i call spare sized sound may =
    let seat : Seat = seat_at c i in
    let w : Seat = winner seat call spare in
    let d : Machine = with_bucket c i call.at spare w in
    let live = may.live in
    let was = sound.seats i live in
    let search = was.search call may.in_call in
    let mine = was.spare spare may.has_spare in
    let has : Won c d call.at spare = won c i call spare w may search.at_bucket in
    let g = has.grows in
    let empty = may.empty in
    let unnamed = mine.unpublished in
    let is_mine : (b e : ℕ) → Names c b e → e ≡ spare.0 → ⊥ = λ b e names same. unnamed b (names ∙ ap (λ n. n + 1) same) in
    let listed = λ (e : ℕ). total_set (times_listed e) c.seats i w live live in
    let unpublished = total_set (λ s. s.unpublished) c.seats i w live live in
    let lists = total_set (λ s. length s.published) c.seats i w live live in
    let longer = length_push seat.published spare in
    let sums = total_same shares c.seats i w live live refl in
    let ends = total_same stands_at_end c.seats i w live live refl in
    let filled_more : filled d ≡ filled c + 1 = filled_set c.buckets call.at spare.0 search.at_bucket empty in
    let counted = sound.all_counted in
    let at_least = mine.counted in
    let all_listed = sound.all_listed in
    let bound = sound.claims_bound in
    record {
      sized = record {
        limit_low = sized.limit_low;
        limit_high = sized.limit_high;
        most_low = sized.most_low;
        most_high = sized.most_high;
        buckets = subst (IsNextPowerOfTwo (2 * (c.limit + c.most))) (sym g.count) sized.buckets;
        entries = sized.entries;
        five_words = sized.five_words;
      };
      sound = record {
        only_claimed = λ b e names. ⊎_elim
            (λ (t : (b ≡ call.at) × (e ≡ spare.0)). subst (λ n. IsClaimed d n) (sym t.1) (grow_claimed c d g spare.0 mine.claimed))
            (λ (t : (b ≢ call.at) × Names c b e). grow_claimed c d g e (sound.only_claimed b e t.1))
            (has.cases b e names);
        named_once = λ a b e names names'. ⊎_elim
            (λ (t : (a ≡ call.at) × (e ≡ spare.0)). ⊎_elim
            (λ (t' : (b ≡ call.at) × (e ≡ spare.0)). t.0 ∙ sym t'.0)
            (λ (t' : (b ≢ call.at) × Names c b e). absurd (is_mine b e t'.1 t.1))
            (has.cases b e names'))
            (λ (t : (a ≢ call.at) × Names c a e). ⊎_elim
            (λ (t' : (b ≡ call.at) × (e ≡ spare.0)). absurd (is_mine a e t.1 t'.1))
            (λ (t' : (b ≢ call.at) × Names c b e). sound.named_once a b e t.1 t'.1)
            (has.cases b e names'))
            (has.cases a e names);
        listed_once = λ b e names. ⊎_elim
            (λ (t : (b ≡ call.at) × (e ≡ spare.0)).
            let none = sound.listed_never e (λ b' names'. is_mine b' e names' t.1) in
            let one = times_more e seat.published spare true (eq-eqb spare.0 e (sym t.1)) in
            let sum = listed e in omega arith)
            (λ (t : (b ≢ call.at) × Names c b e).
            let one = sound.listed_once b e t.1 in
            let same = times_more e seat.published spare false (ne_eqb spare.0 e (λ x. is_mine b e t.1 (sym x))) in
            let sum = listed e in omega arith)
            (has.cases b e names);
        listed_never = λ e never.
            let none = sound.listed_never e (λ b names. never b (g.names b e names)) in
            let same = times_more e seat.published spare false (ne_eqb spare.0 e (λ x. never call.at (has.here ∙ ap (λ n. n + 1) x))) in
            let sum = listed e in omega arith;
        filled_from_start = λ b e k names within passed zero. filled_before c d i call spare sized sound may has refl b e k names (subst (λ n. k < n) g.count within) (subst (λ n. IsPassed (first_bucket (entry_words c e) n) b k) g.count passed) zero;
        distinct_keys = λ a b e h names names' same. ⊎_elim
            (λ (t : (a ≡ call.at) × (e ≡ spare.0)). ⊎_elim
            (λ (t' : (b ≡ call.at) × (h ≡ spare.0)). t.0 ∙ sym t'.0)
            (λ (t' : (b ≢ call.at) × Names c b h). absurd (no_twin c i call spare sound may b h t'.1 (sym same ∙ (ap (entry_words c) t.1 ∙ spelled c i call spare sized sound may))))
            (has.cases b h names'))
            (λ (t : (a ≢ call.at) × Names c a e). ⊎_elim
            (λ (t' : (b ≡ call.at) × (h ≡ spare.0)). absurd (no_twin c i call spare sound may a e t.1 (same ∙ (ap (entry_words c) t'.1 ∙ spelled c i call spare sized sound may))))
            (λ (t' : (b ≢ call.at) × Names c b h). sound.distinct_keys a b e h t.1 t'.1 same)
            (has.cases b h names'))
            (has.cases a e names);
        seats = seats_changed c d g sound i w live (won_seat c d i call spare sized sound may has refl refl)
            (λ j other there. record {
              words = λ e its. refl;
              unpublished = λ e its b names. ⊎_elim
                  (λ (t : (b ≡ call.at) × (e.0 ≡ spare.0)). other (sound.own_spare j i e there live its (may.has_spare ∙ ap (λ (n : ℕ). Some (entry n)) (sym t.1))))
                  (λ (t : (b ≢ call.at) × Names c b e.0). ((sound.seats j there).spare e its).unpublished b t.1)
                  (has.cases b e.0 names);
            });
        own_spare = spares_changed c sound i w live (λ e is. absurd (none-some e is));
        all_counted = omega arith;
        all_listed = omega arith;
        all_seats = sums ∙ sound.all_seats;
        claims_bound = omega arith;
      };
      stays = record {
        limit = refl;
        most = refl;
        count = g.count;
        buckets = λ b full. has.others b (λ same. full (ap (bucket c) same ∙ empty));
        words = g.words;
      };
    }
  where
    filled_before : (c d : Machine) (i : ℕ) (call : Call) (spare : Entry) → IsSized c → IsSoundMachine c → IsPublishing c i call spare → Won c d call.at spare → d.entries ≡ c.entries
        → (b e k : ℕ) → Names d b e → k < bucket_count c → IsPassed (first_bucket (entry_words c e) (bucket_count c)) b k → bucket d k ≡ 0 → ⊥
    filled_before c d i call spare sized sound may has entries b e k names within passed zero = ⊎_elim
        (λ (here : k ≡ call.at). let n : spare.0 + 1 ≡ 0 = sym has.here ∙ (ap (bucket d) (sym here) ∙ zero) in absurd (omega arith))
        (λ (other : k ≡ call.at → ⊥). let none : bucket c k ≡ 0 = sym (has.others k other) ∙ zero in ⊎_elim
        (λ (t : (b ≡ call.at) × (e ≡ spare.0)).
        let search = (sound.seats i may.live).search call may.in_call in
        let words : entry_words c e ≡ words_of call.key = ap (entry_words c) t.1 ∙ spelled c i call spare sized sound may in
        let o = search.passed k within (subst (λ n. IsPassed (first_bucket (words_of call.key) (bucket_count c)) n k) t.0 (subst (λ l. IsPassed (first_bucket l (bucket_count c)) b k) words passed)) in
        let n = o.names in absurd (omega arith))
        (λ (t : (b ≢ call.at) × Names c b e). sound.filled_from_start b e k t.1 within passed none)
        (has.cases b e names))
        (cases_eq k call.at)

-- the search that has lost its exchange: the entry that stands in the bucket now is found
lost_search : (c : Machine) (seat : Seat) (call : Call) → IsSearch c seat call → bucket c call.at ≢ 0 → (o : Option Entry) → call.found ≡ o
    → IsSearch c seat (record call { found = Some (entry (bucket c call.at - 1)); empty = false })
lost_search c seat call was full o is = record {
  in_range = was.in_range;
  parts = was.parts;
  at_bucket = was.at_bucket;
  passed = was.passed;
  found = λ e its. let same : bucket c call.at - 1 ≡ e.0 = ap (λ (x : Entry). x.0) (same_Some (entry (bucket c call.at - 1)) e its) in
      let names : Names c call.at e.0 = omega arith in (names, right o is e names);
  none_right = λ its. absurd (none-some (entry (bucket c call.at - 1)) (sym its));
  stored = was.stored;
  none_stored = was.none_stored;
}
  where
    right : (o : Option Entry) → call.found ≡ o → (e : Entry) → Names c call.at e.0 → take call.right (entry_words c e.0) ≡ take call.right (words_of call.key)
    right None is e names = ap (λ n. take n (entry_words c e.0)) (was.none_right is) ∙ ap (λ n. take n (words_of call.key)) (sym (was.none_right is))
    right (Some x) is e names = let f = was.found x is in let n = f.0 in let same : x.0 ≡ e.0 = omega arith in
        subst (λ n. take call.right (entry_words c n) ≡ take call.right (words_of call.key)) same f.1

exchanges : (c : Machine) (i : ℕ) (call : Call) (spare : Entry) → IsSized c → IsSoundMachine c → (seat_at c i).live ≡ true → (seat_at c i).call ≡ Some call → (seat_at c i).spare ≡ Some spare → call.stored ≡ 5 → (z : Bool) → eqb (bucket c call.at) 0 ≡ z
    → Keeps c (record c { buckets = set c.buckets call.at (cond z (spare.0 + 1) (bucket c call.at)); seats = set c.seats i (cond z (winner (seat_at c i) call spare) (record (seat_at c i) { call = Some (record call { found = Some (entry (bucket c call.at - 1)); empty = false }) })) })
exchanges c i call spare sized sound live is has whole true test =
    wins c i call spare sized sound record { live = live; in_call = is; has_spare = has; whole = whole; empty = eqb-true (bucket c call.at) 0 test }
exchanges c i call spare sized sound live is has whole false test =
    let w : Seat = record (seat_at c i) { call = Some (record call { found = Some (entry (bucket c call.at - 1)); empty = false }) } in
    subst (λ (l : List ℕ). Keeps c (record c { buckets = l; seats = set c.seats i w })) (sym (set-get_or c.buckets call.at 0))
    (call_keeps c i (record call { found = Some (entry (bucket c call.at - 1)); empty = false }) sized sound live
    (lost_search c (seat_at c i) call ((sound.seats i live).search call is) (eqb-false (bucket c call.at) 0 test) call.found refl))

in_exchange : (c : Machine) (i : ℕ) → IsSized c → IsSoundMachine c → (o : Option Call) (s : Option Entry) → (seat_at c i).call ≡ o → (seat_at c i).spare ≡ s → Keeps c (exchange_in c i o s)
in_exchange c i sized sound None s is has = keeps_same c sized sound
in_exchange c i sized sound (Some call) None is has = keeps_same c sized sound
in_exchange c i sized sound (Some call) (Some spare) is has =
    cond_both (can_exchange call (seat_at c i)) _ c (Keeps c)
    (λ can. let all = and_parts (seat_at c i).live _ can in
    exchanges c i call spare sized sound all.0 is has (eqb-true call.stored 5 (and_parts call.empty (eqb call.stored 5) all.1).1) (eqb (bucket c call.at) 0) refl)
    (λ _. keeps_same c sized sound)

-- an exchange keeps the invariant
pub exchange_bucket_keeps : (c : Machine) (i : ℕ) → IsSized c → IsSoundMachine c → Keeps c (exchange_bucket c i)
exchange_bucket_keeps c i sized sound = in_exchange c i sized sound (seat_at c i).call (seat_at c i).spare refl refl
