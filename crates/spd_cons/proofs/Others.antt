-- The steps that change no word: a look, a split, a join; and the table at its start.
use Rattle.std.proofs.Common.{◌≡◌, ◌≢◌, ℕ, zero, suc, ◌+◌, ◌-◌, ◌*◌, ◌≤◌, true, not, is_none, ◌&&◌, eqb, List, [], ◌∷◌, ◌++◌, map, take, drop, set, get_or, length, replicate, None, refl, sym, ap, ◌∙◌, subst, ⊎_elim, arith}
use Rattle.std.specs.List.{Contains}
use Rattle.std.specs.Int.{IsNextPowerOfTwo}
use Rattle.std.proofs.lemmas.Bool.{and_parts, and_from, cond-true, true≢false, not_from_false, ne_eqb}
use Rattle.std.proofs.lemmas.List.{map-set, set-get_or, take-replicate, drop-replicate, length-replicate, get_or-replicate, get_or-drop}
use mathlib.Core.List.{map-append}
use lib.ListN.{get_elem?}
use mathlib.Core.Option.{some, some-ne-none, some-injective}
use Rattle.atomic_table.specs.Table.{Allows, Splits, Joins, opening, keeps}
use Rattle.atomic_table.proofs.Lists.{at_set, at_snoc, set_here, set_else}
use Rattle.spd_cons_core.specs.declared.key.Key.{Key}
use Rattle.spd_cons_core.specs.declared.mind.Known.{Known}
use Rattle.spd_cons_core.specs.Views.{Seat, Machine}
use Rattle.spd_cons_core.specs.Seats.{spent, seat_at, with_seat, is_known}
use Rattle.spd_cons_core.specs.Events.{can_split, after_split, split_off, split, can_join, after_join, join, new_machine}
use Rattle.spd_cons_core.specs.Invariants.{IsSized, IsSoundMachine, Keeps}
use Rattle.spd_cons_core.proofs.CallerLemmas.{nothing_contained, keeps_same, known_key, words_tell, split_taken, split_keeps, join_keeps, new_sized, new_sound}
use Rattle.spd_cons.specs.declared.view.Size.{Size}
use Rattle.spd_cons.specs.declared.view.View.{View}
use Rattle.spd_cons.specs.Ruled.{Running, machine_of, mind_of, word_place, fives, HasKey, IsView, IsRuled, first_view}
use Rattle.spd_cons.specs.Told.{Mine, TellsLook, TellsKnown, split_view, new_view, joined_view, spent_view}
use Rattle.spd_cons.proofs.Places.{inside, there, same_words, fives_at}
use Rattle.spd_cons.proofs.Machines.{written, seat_is, loaded_machine}
use Rattle.spd_cons.proofs.Ruling.{views_after, has_key, ruled_after, sees}

-- a look

same_seats : (k : Size) (s : Running) (id : ℕ) (v : View) → get_elem? s.views id ≡ some v → with_seat (machine_of k s) id v.mind ≡ machine_of k s
same_seats k s id v at =
    let c : Machine = machine_of k s in
    ap (λ m. with_seat c id m) (sym (seat_is k s id v at)) ∙ ap (λ (l : List Seat). record c { seats = l }) (set-get_or c.seats id spent)

-- what a seat has heard of it knows with that key, where it knows it
pub agreed : (c : Machine) (id : ℕ) (seat : Seat) (x : Known) → IsSoundMachine c → seat_at c id ≡ seat → seat.live ≡ true → HasKey c x → is_known seat.knows x.entry ≡ true → Contains seat.knows x
agreed c id seat x sound same live has known =
    let mine = known_key seat.knows x.entry known in
    let k : Known = record { entry = x.entry; key = mine.0 } in
    let was = (sound.seats id (ap (λ (s : Seat). s.live) same ∙ live)).known k (subst (λ (s : Seat). Contains s.knows k) (sym same) mine.1) in
    let key : mine.0 ≡ x.key = words_tell mine.0 x.key was.in_range has.in_range (sym was.words ∙ has.words) in
    subst (λ (z : Key). Contains seat.knows (record { entry = x.entry; key = z })) key mine.1

pub look_allowed : (k : Size) (slots id : ℕ) (me : Mine) → me.0.mind.live ≡ true → Allows (IsRuled k) slots id me 0 (λ n. n) (λ found m'. TellsLook me m')
look_allowed k slots id me live s r homes at small =
    let mine = r.views id me.0 at live in
    let c : Machine = machine_of k s in
    let old : ℕ = get_or s.words 0 0 in
    let w : View = record me.0 { heard = [] } in
    let after : IsRuled k (written s 0 old id w) = ruled_after k s 0 old id w c r (loaded_machine k s 0 id w ∙ same_seats k s id me.0 at) (keeps_same c r.sized r.sound) mine.size (λ y none. absurd (nothing_contained y none)) in
    let here : get_elem? (set s.views id w) id ≡ some w = set_here s.views id w (inside s.views id me.0 at) in (
      w,
      keeps,
      tt,
      after,
      (
        record {
          is = sees k (written s 0 old id w) id w after here live;
          now = refl;
          heard = λ x in' known. agreed c id me.0.mind x r.sound (seat_is k s id me.0 at) live (mine.heard x in') known;
        },
        refl,
      ),
    )

-- a word of an entry that is known

same_table : (s : Running) (i id : ℕ) (v : View) → get_elem? s.views id ≡ some v → written s i (get_or s.words i 0) id v ≡ s
same_table s i id v at = λ j. record {
  words = same_words s.words i j;
  homes = s.homes;
  views = (ap (λ m. set s.views id m) (sym (there s.views id v v at)) ∙ set-get_or s.views id v) j;
}

pub read_allowed : (k k' : Size) (slots id place : ℕ) (me : Mine) → k' ≡ k → me.0.size ≡ k → me.0.mind.live ≡ true → Allows (IsRuled k') slots id me place (λ n. n) (λ found m'. TellsKnown place me found m')
read_allowed k k' slots id place me is_k size live s r homes at small =
    let c : Machine = machine_of k' s in
    let same = seat_is k' s id me.0 at in
    let seat = r.sound.seats id (ap (λ (z : Seat). z.live) same ∙ live) in (
      me.0,
      keeps,
      tt,
      subst (IsRuled k') (sym (same_table s place id me.0 at)) r,
      (
        refl,
        λ x word in' five is.
            let known = seat.known x (subst (λ (z : Seat). Contains z.knows x) (sym same) in') in
            let below = (r.sound.only_claimed known.published.0 x.entry.0 known.published.1).below_end in
            ap (λ p. get_or s.words p 0) (is ∙ ap (λ (z : Size). word_place z.count x.entry.0 word) (size ∙ sym is_k))
            ∙ (sym (fives_at (k'.limit + k'.most) x.entry.0 word (drop (1 + k'.count) s.words) below five ∙ get_or-drop (1 + k'.count) s.words (x.entry.0 * 5 + word) 0)
            ∙ ap (λ l. get_or l word 0) known.words),
      ),
    )

-- a split

pub split_allowed : (k : Size) (id : ℕ) (v : View) → can_split v.mind ≡ true → Splits (IsRuled k) id v (split_view v) (new_view v)
split_allowed k id v can s r at =
    let c : Machine = machine_of k s in
    let seat = seat_is k s id v at in
    let mine = r.views id v at (and_parts v.mind.live _ can).0 in
    let d : Machine = record c { seats = set c.seats id (after_split v.mind) ++ split_off v.mind ∷ [] } in
    let taken : split c id ≡ d = split_taken c id v.mind seat can in
    let law : Keeps c d = subst (Keeps c) taken (split_keeps c id r.sized r.sound) in
    let seats : map mind_of (set s.views id (split_view v) ++ new_view v ∷ []) ≡ set (map mind_of s.views) id (after_split v.mind) ++ split_off v.mind ∷ [] =
    map-append mind_of (set s.views id (split_view v)) (new_view v ∷ []) ∙ ap (λ (l : List Seat). l ++ split_off v.mind ∷ []) (map-set mind_of s.views id (split_view v)) in
    let now : Machine = record c { seats = map mind_of (set s.views id (split_view v) ++ new_view v ∷ []) } in
    let law' : Keeps c now = subst (λ (l : List Seat). Keeps c (record c { seats = l })) (sym seats) law in
    record {
      width = r.width;
      views = λ i u e. ⊎_elim
          (views_after k s.views c now id (split_view v) law'.stays (λ _. record { size = mine.size; heard = λ y in'. has_key c now law'.stays y (mine.heard y in') }) r.views i u)
          (λ (t : new_view v ≡ u). subst (λ (z : View). z.mind.live ≡ true → IsView k now z) t (λ _. record { size = mine.size; heard = λ y none. absurd (nothing_contained y none) }))
          (at_snoc (set s.views id (split_view v)) (new_view v) u i e);
      sized = law'.sized;
      sound = law'.sound;
    }

-- a join

pub join_allowed : (k : Size) (id other : ℕ) (v u : View) → v.mind.live ≡ true → u.mind.live ≡ true → v.mind.call ≡ None → u.mind.call ≡ None → Joins (IsRuled k) id v other u (joined_view v u) spent_view
join_allowed k id other v u live live' rests rests' s r at apart at' =
    let c : Machine = machine_of k s in
    let before : get_elem? s.views other ≡ some u = sym (set_else s.views id other (joined_view v u) apart) ∙ at' in
    let seat = seat_is k s id v at in
    let seat' = seat_is k s other u before in
    let mine = r.views id v at live in
    let can : can_join id other v.mind u.mind ≡ true =
    and_from (not (eqb id other)) _ (not_from_false (eqb id other) (ne_eqb id other (λ e. apart (sym e)))) (λ i. ((live i) && (live' i)) && (is_none (rests i) && is_none (rests' i))) in
    let d : Machine = record c { seats = set (set c.seats id (after_join v.mind u.mind)) other spent } in
    let taken : join c id other ≡ d =
    cond-true (can_join id other (seat_at c id) (seat_at c other)) _ _ ((λ i. can_join id other (seat i) (seat' i)) ∙ can)
    ∙ (λ i. record c { seats = set (set c.seats id (after_join (seat i) (seat' i))) other spent }) in
    let law : Keeps c d = subst (Keeps c) taken (join_keeps c id other r.sized r.sound) in
    let views : List View = set s.views id (joined_view v u) in
    let seats : map mind_of (set views other spent_view) ≡ set (set (map mind_of s.views) id (after_join v.mind u.mind)) other spent =
    map-set mind_of views other spent_view ∙ ap (λ (l : List Seat). set l other spent) (map-set mind_of s.views id (joined_view v u)) in
    let now : Machine = record c { seats = map mind_of (set views other spent_view) } in
    let law' : Keeps c now = subst (λ (l : List Seat). Keeps c (record c { seats = l })) (sym seats) law in
    let theirs = r.sound.seats other (ap (λ (z : Seat). z.live) seat' ∙ live') in
    let heard : (x : Known) → Contains u.mind.knows x → HasKey now x = λ x in'.
    let was = theirs.known x (subst (λ (z : Seat). Contains z.knows x) (sym seat') in') in
    has_key c now law'.stays x (record { published = was.published; words = was.words; in_range = was.in_range }) in
    let first : (i : ℕ) (z : View) → get_elem? views i ≡ some z → z.mind.live ≡ true → IsView k now z =
    views_after k s.views c now id (joined_view v u) law'.stays (λ _. record { size = mine.size; heard = heard }) r.views in
    record {
      width = r.width;
      views = λ i z e. ⊎_elim
          (λ (t : (i ≡ other) × (spent_view ≡ z)) alive. absurd (true≢false (sym alive ∙ sym (ap (λ (y : View). y.mind.live) t.1))))
          (λ (t : (i ≢ other) × (get_elem? views i ≡ some z)). first i z t.1)
          (at_set views other i spent_view z e);
      sized = law'.sized;
      sound = law'.sound;
    }

-- the start

fives_zero : (n m : ℕ) → 5 * n ≤ m → fives n (replicate m (let z : ℕ = 0 in z)) ≡ replicate n (replicate 5 0)
fives_zero zero m wide = refl
fives_zero (suc n) m wide = λ i. take-replicate 5 m (let z : ℕ = 0 in z) (omega arith) i ∷ (ap (fives n) (drop-replicate 5 m (let z : ℕ = 0 in z)) ∙ fives_zero n (m - 5) (omega arith)) i

pub opens : (k : Size) (ws : List ℕ) → ws ≡ replicate (1 + k.count + 5 * (k.limit + k.most)) 0 → 16 ≤ k.limit → k.limit ≤ 8388608 → 1 ≤ k.most → k.most ≤ 128 → IsNextPowerOfTwo (2 * (k.limit + k.most)) k.count
    → IsRuled k (opening ws [] (first_view k))
opens k ws is low high least most count =
    let n : ℕ = 1 + k.count + 5 * (k.limit + k.most) in
    let z : ℕ = 0 in
    let c : Machine = machine_of k (opening ws [] (first_view k)) in
    let buckets : take k.count (drop 1 ws) ≡ replicate k.count 0 = ap (λ l. take k.count (drop 1 l)) is ∙ (ap (take k.count) (drop-replicate 1 n z) ∙ take-replicate k.count (n - 1) z (omega arith)) in
    let entries : fives (k.limit + k.most) (drop (1 + k.count) ws) ≡ replicate (k.limit + k.most) (replicate 5 0) = ap (λ l. fives (k.limit + k.most) (drop (1 + k.count) l)) is ∙ (ap (fives (k.limit + k.most)) (drop-replicate (1 + k.count) n z) ∙ fives_zero (k.limit + k.most) (n - (1 + k.count)) (omega arith)) in
    let new : c ≡ new_machine k.limit k.most k.count = λ i. record {
      limit = k.limit;
      most = k.most;
      claims = (ap (λ l. get_or l 0 0) is ∙ get_or-replicate n 0 z z (omega arith)) i;
      buckets = buckets i;
      entries = entries i;
      seats = record spent { live = true; stands = 1; splits = k.most - 1 } ∷ [];
    } in
    record {
      width = ap length is ∙ length-replicate n z;
      views = λ i v at live. first_only i v at;
      sized = subst IsSized (sym new) (new_sized k.limit k.most k.count low high least most count);
      sound = subst IsSoundMachine (sym new) (new_sound k.limit k.most k.count least);
    }
  where
    first_only : (i : ℕ) (v : View) → get_elem? (first_view k ∷ []) i ≡ some v → IsView k (machine_of k (opening ws [] (first_view k))) v
    first_only zero v at = subst (IsView k (machine_of k (opening ws [] (first_view k)))) (some-injective (first_view k) v at) (record { size = refl; heard = λ y none. absurd (nothing_contained y none) })
    first_only (suc i) v at = absurd (some-ne-none v (sym at))
