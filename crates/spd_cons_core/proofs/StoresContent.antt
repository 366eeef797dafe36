-- The law of a word that is stored.
use Rattle.std.proofs.Common.{◌≡◌, ◌≢◌, ℕ, ◌+◌, ◌<◌, true, eqb, ltb, List, [], ◌∷◌, ◌++◌, take, length, get_or, set, Option, Some, None, refl, sym, ap, ◌∙◌, subst, arith}
use Rattle.std.proofs.lemmas.Bool.{and_parts, cond_both, eqb-true, ltb-true}
use Rattle.std.proofs.lemmas.List.{get_or-set_same, get_or-set_other, length-set, take_more, take_more_set}
use Rattle.std.proofs.lemmas.List.Elements.{All-set}
use Rattle.std.proofs.lemmas.Option.{none-some, same_Some}
use Rattle.spd_cons_core.specs.declared.key.Entry.{Entry}
use Rattle.spd_cons_core.specs.declared.mind.Call.{Call}
use Rattle.spd_cons_core.specs.Views.{Seat, Machine}
use Rattle.spd_cons_core.specs.Spelling.{words_of, first_bucket}
use Rattle.spd_cons_core.specs.Seats.{seat_at, bucket_count, entry, entry_words}
use Rattle.spd_cons_core.specs.Events.{can_store, store_in, store_content}
use Rattle.spd_cons_core.specs.Invariants.{IsSized, IsPassed, IsSearch, IsSeat, IsSoundMachine, Keeps, times_listed, shares, stands_at_end}
use Rattle.spd_cons_core.proofs.Writes.{total_same}
use Rattle.spd_cons_core.proofs.Growth.{Grows, LeavesSpare, known_moved, grow_claimed, grow_passed}
use Rattle.spd_cons_core.proofs.Quiet.{keeps_same, seats_changed, spares_changed, spare_kept}
use Rattle.spd_cons_core.proofs.Fives.{five_of_key, five_of_entry, claimed_within}

-- the seat's call with one more word stored
abbrev more_stored : Call → Call
more_stored call = record call { stored = call.stored + 1 }

abbrev with_word : Machine → ℕ → ℕ → ℕ → ℕ → Seat → Machine
with_word c i spare word value w = record c { entries = set c.entries spare (set (entry_words c spare) word value); seats = set c.seats i w }

-- what a seat that stores a word has
record IsStoring (c : Machine) (i : ℕ) (call : Call) (spare : Entry) (word : ℕ) : Type 0 where
  live : (seat_at c i).live ≡ true
  in_call : (seat_at c i).call ≡ Some call
  has_spare : (seat_at c i).spare ≡ Some spare
  next : word ≡ call.stored
  below : call.stored < 5

grows : (c : Machine) (i : ℕ) (spare : Entry) (word value : ℕ) (w : Seat) → IsSoundMachine c → (seat_at c i).live ≡ true → (seat_at c i).spare ≡ Some spare → Grows c (with_word c i spare.0 word value w)
grows c i spare word value w sound live is = record {
  limit = refl;
  most = refl;
  count = refl;
  claims = omega arith;
  names = λ b e names. names;
  words = λ b e names. get_or-set_other c.entries spare.0 e (set (entry_words c spare.0) word value) []
      (λ same. ((sound.seats i live).spare spare is).unpublished b (names ∙ ap (λ n. n + 1) same));
}

leaves : (c : Machine) (i : ℕ) (spare : Entry) (word value : ℕ) (w : Seat) → IsSoundMachine c → (seat_at c i).live ≡ true → (seat_at c i).spare ≡ Some spare
    → (j : ℕ) → j ≢ i → (seat_at c j).live ≡ true → LeavesSpare c (with_word c i spare.0 word value w) (seat_at c j)
leaves c i spare word value w sound live is j other there = record {
  words = λ e its. get_or-set_other c.entries spare.0 e.0 (set (entry_words c spare.0) word value) []
      (λ same. other (sound.own_spare j i e there live its (is ∙ ap (λ (n : ℕ). Some (entry n)) (sym same))));
  unpublished = λ e its. ((sound.seats j there).spare e its).unpublished;
}

-- the words of the spare after this one
stored_more : (c : Machine) (i : ℕ) (call : Call) (spare : Entry) (word : ℕ) (w : Seat) → IsSized c → IsSoundMachine c → IsStoring c i call spare word
    → take (call.stored + 1) (entry_words (with_word c i spare.0 word (get_or (words_of call.key) word 0) w) spare.0) ≡ take (call.stored + 1) (words_of call.key)
stored_more c i call spare word w sized sound may =
    let was = sound.seats i may.live in
    let claimed = (was.spare spare may.has_spare).claimed in
    let five = five_of_entry c sized spare.0 claimed in
    let five' = five_of_key call.key in
    let below = may.below in
    let old : List ℕ = entry_words c spare.0 in
    let key : List ℕ = words_of call.key in
    let here : entry_words (with_word c i spare.0 word (get_or key word 0) w) spare.0 ≡ set old call.stored (get_or key call.stored 0) =
    get_or-set_same c.entries spare.0 (set old word (get_or key word 0)) [] (claimed_within c sized spare.0 claimed)
    ∙ ap (λ n. set old n (get_or key n 0)) may.next in
    ap (take (call.stored + 1)) here
    ∙ (take_more_set old call.stored (get_or key call.stored 0) (omega arith)
    ∙ (ap (λ l. l ++ get_or key call.stored 0 ∷ []) ((was.search call may.in_call).stored spare may.has_spare)
    ∙ sym (take_more key call.stored 0 (omega arith))))

stores : (c : Machine) (i : ℕ) (call : Call) (spare : Entry) (word : ℕ) → IsSized c → IsSoundMachine c → IsStoring c i call spare word
    → Keeps c (with_word c i spare.0 word (get_or (words_of call.key) word 0) (record (seat_at c i) { call = Some (more_stored call) }))
stores c i call spare word sized sound may =
    let seat : Seat = seat_at c i in
    let w : Seat = record seat { call = Some (more_stored call) } in
    let value : ℕ = get_or (words_of call.key) word 0 in
    let d : Machine = with_word c i spare.0 word value w in
    let live = may.live in
    let was = sound.seats i live in
    let search = was.search call may.in_call in
    let g = grows c i spare word value w sound live may.has_spare in
    let new_search : IsSearch d w (more_stored call) = record {
      in_range = search.in_range;
      parts = search.parts;
      at_bucket = search.at_bucket;
      passed = grow_passed c d g call.key call.at search.passed;
      found = λ e is. let f = search.found e is in (g.names call.at e.0 f.0, ap (take call.right) (g.words call.at e.0 f.0) ∙ f.1);
      none_right = search.none_right;
      stored = λ e is. subst (λ (x : Entry). take (call.stored + 1) (entry_words d x.0) ≡ take (call.stored + 1) (words_of call.key)) (same_Some spare e (sym may.has_spare ∙ is)) (stored_more c i call spare word w sized sound may);
      none_stored = λ none. absurd (none-some spare (sym none ∙ may.has_spare));
    } in
    let mine : IsSeat d w = record {
      known = known_moved c d g seat w refl was.known;
      own_known = was.own_known;
      spare = λ e is. let s = was.spare e is in record { claimed = grow_claimed c d g e.0 s.claimed; unpublished = s.unpublished; counted = s.counted };
      search = λ call' is. subst (IsSearch d w) (same_Some (more_stored call) call' is) new_search;
      stands = was.stands;
      unpublished = was.unpublished;
      less_without_spare = was.less_without_spare;
      less_at_end = was.less_at_end;
      end_met = was.end_met;
    } in
    let listed = λ (e : ℕ). total_same (times_listed e) c.seats i w live live refl in
    let unpublished = total_same (λ s. s.unpublished) c.seats i w live live refl in
    let lists = total_same (λ s. length s.published) c.seats i w live live refl in
    let sums = total_same shares c.seats i w live live refl in
    let ends = total_same stands_at_end c.seats i w live live refl in
    let counted = sound.all_counted in
    let bound = sound.claims_bound in
    record {
      sized = record {
        limit_low = sized.limit_low;
        limit_high = sized.limit_high;
        most_low = sized.most_low;
        most_high = sized.most_high;
        buckets = sized.buckets;
        entries = length-set c.entries spare.0 (set (entry_words c spare.0) word value) ∙ sized.entries;
        five_words = All-set (λ words. length words ≡ 5) c.entries spare.0 (set (entry_words c spare.0) word value)
            (length-set (entry_words c spare.0) word value ∙ five_of_entry c sized spare.0 (was.spare spare may.has_spare).claimed) sized.five_words;
      };
      sound = record {
        only_claimed = λ b e names. grow_claimed c d g e (sound.only_claimed b e names);
        named_once = sound.named_once;
        listed_once = λ b e names. listed e ∙ sound.listed_once b e names;
        listed_never = λ e never. listed e ∙ sound.listed_never e never;
        filled_from_start = λ b e k names within passed. sound.filled_from_start b e k names within (subst (λ l. IsPassed (first_bucket l (bucket_count c)) b k) (g.words b e names) passed);
        distinct_keys = λ a b e h names names' same. sound.distinct_keys a b e h names names' (sym (g.words a e names) ∙ (same ∙ g.words b h names'));
        seats = seats_changed c d g sound i w live mine (leaves c i spare word value w sound live may.has_spare);
        own_spare = spares_changed c sound i w live (spare_kept c sound i w live refl);
        all_counted = omega arith;
        all_listed = lists ∙ sound.all_listed;
        all_seats = sums ∙ sound.all_seats;
        claims_bound = omega arith;
      };
      stays = record { limit = refl; most = refl; count = refl; buckets = λ b full. refl; words = g.words };
    }

in_spare : (c : Machine) (i word : ℕ) → IsSized c → IsSoundMachine c → (o : Option Call) (s : Option Entry) → (seat_at c i).call ≡ o → (seat_at c i).spare ≡ s → Keeps c (store_in c i word o s)
in_spare c i word sized sound None s is has = keeps_same c sized sound
in_spare c i word sized sound (Some call) None is has = keeps_same c sized sound
in_spare c i word sized sound (Some call) (Some spare) is has =
    cond_both (can_store word call (seat_at c i)) _ c (Keeps c)
    (λ can. let all = and_parts (seat_at c i).live _ can in
    let words = and_parts (eqb word call.stored) (ltb word 5) (and_parts call.empty _ all.1).1 in
    let same = eqb-true word call.stored words.0 in
    let low = ltb-true word 5 words.1 in
    stores c i call spare word sized sound record { live = all.0; in_call = is; has_spare = has; next = same; below = omega arith })
    (λ _. keeps_same c sized sound)

-- a word that is stored keeps the invariant
pub store_content_keeps : (c : Machine) (i word : ℕ) → IsSized c → IsSoundMachine c → Keeps c (store_content c i word)
store_content_keeps c i word sized sound = in_spare c i word sized sound (seat_at c i).call (seat_at c i).spare refl refl
