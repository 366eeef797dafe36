-- What the search knows after it compared a word.
use Rattle.std.proofs.Common.{◌≡◌, ◌≢◌, ℕ, ◌+◌, ◌<◌, Bool, true, false, cond, eqb, not, is_none, ◌&&◌, List, take, get_or, length, Option, Some, None, unwrap_or, refl, sym, ap, ◌∙◌, subst, arith}
use Rattle.std.specs.Option.{option_map_or}
use Rattle.std.proofs.lemmas.Bool.{eq-eqb, eqb-true, eqb-false, ne_eqb}
use Rattle.std.proofs.lemmas.List.{take_more_same}
use Rattle.spd_cons_core.specs.declared.key.Entry.{Entry}
use Rattle.spd_cons_core.specs.declared.mind.Known.{Known}
use Rattle.spd_cons_core.specs.declared.mind.Call.{Call}
use Rattle.spd_cons_core.specs.declared.mind.Last.TheVariants.{Got}
use Rattle.spd_cons_core.specs.Views.{Seat, Machine}
use Rattle.spd_cons_core.specs.Spelling.{words_of, first_bucket}
use Rattle.spd_cons_core.specs.Seats.{entry_words, learned, is_known, same_key, parts_known}
use Rattle.spd_cons_core.specs.Events.{after_content, after_equal, next_bucket, new_call}
use Rattle.spd_cons_core.proofs.CallerLemmas.{goes_on, load_content_keeps, learned_known, five_of_key, five_of_entry, same_of_five, same_key_tells}
use Rattle.spd_cons.specs.declared.view.View.{View}
use Rattle.spd_cons.specs.declared.search.Search.{Search}
use Rattle.spd_cons.specs.Ruled.{HasKey}
use Rattle.spd_cons.specs.Told.{Mine, Sees, call_of, found_of, TellsContent}
use Rattle.spd_cons.specs.Searching.{stored_of, call_at, Held, held, IsReady, IsComparing, GoesOn, Knows, Compares}
use Rattle.spd_cons.proofs.Allowed.{call_is}
use Rattle.spd_cons.proofs.Ruling.{has_key}
use Rattle.spd_cons.proofs.Others.{agreed}

-- a seat that compares
pub record Facts (s : Search) (e : Entry) (right : ℕ) (v : View) : Type 0 where
  pub call : call_of v.mind ≡ call_at s s.at (Some e) right false (stored_of s)
  pub found : found_of v.mind ≡ e
  pub in_call : v.mind.call ≡ Some (call_of v.mind)

pub comparing-facts : (s : Search) (e : Entry) (right : ℕ) (v : View) → IsComparing s e right v → Facts s e right v
comparing-facts s e right v at =
    let call = call_is v.mind (call_at s s.at (Some e) right false (stored_of s)) at.call in
    record {
      call = call;
      found = ap (λ (c : Call). unwrap_or c.found (let x : Entry = record { 0 = 0 } in x)) call;
      in_call = at.call ∙ ap (λ c. Some c) (sym call);
    }

-- the view after a word
pub after-word : (s : Search) (e : Entry) (right found : ℕ) (m m' : Mine) → IsComparing s e right m.0 → TellsContent m found m'
    → m'.0 ≡ record m.0 { mind = after_content m.0.size.count e (call_at s s.at (Some e) right false (stored_of s)) found m.0.mind }
after-word s e right found m m' at tells =
    let f = comparing-facts s e right m.0 at in
    tells.0.now ∙ (λ i. record m.0 { mind = after_content m.0.size.count (f.found i) (f.call i) found m.0.mind })

pub word-right : (s : Search) (e : Entry) (right found : ℕ) (v w : View) → right < 4 → w ≡ record v { mind = after_content v.size.count e (call_at s s.at (Some e) right false (stored_of s)) found v.mind } → found ≡ get_or (words_of s.key) right 0
    → w ≡ record v { mind = record v.mind { call = Some (call_at s s.at (Some e) (right + 1) false (stored_of s)) } }
word-right s e right found v w four is same =
    is
    ∙ ((λ i. record v { mind = cond (eq-eqb found (get_or (words_of s.key) right 0) same i) (after_equal e (call_at s s.at (Some e) right false (stored_of s)) v.mind) (record v.mind { call = Some (call_at s (next_bucket v.size.count s.at) None 0 false (stored_of s)) }) })
    ∙ (λ i. record v { mind = cond (ne_eqb (right + 1) 5 (λ z. omega arith) i) (record v.mind { knows = learned v.mind.knows (record { entry = e; key = s.key }); call = None; last = Got e }) (record v.mind { call = Some (call_at s s.at (Some e) (right + 1) false (stored_of s)) }) }))

pub word-wrong : (s : Search) (e : Entry) (right found : ℕ) (v w : View) → w ≡ record v { mind = after_content v.size.count e (call_at s s.at (Some e) right false (stored_of s)) found v.mind } → found ≢ get_or (words_of s.key) right 0
    → w ≡ record v { mind = record v.mind { call = Some (call_at s (next_bucket v.size.count s.at) None 0 false (stored_of s)) } }
word-wrong s e right found v w is other =
    is ∙ (λ i. record v { mind = cond (ne_eqb found (get_or (words_of s.key) right 0) other i) (after_equal e (call_at s s.at (Some e) right false (stored_of s)) v.mind) (record v.mind { call = Some (call_at s (next_bucket v.size.count s.at) None 0 false (stored_of s)) }) })

-- a seat with this call can look into its bucket
ready-at : (s : Search) (at : ℕ) (v : View) → v.mind.live ≡ true → v.mind.call ≡ Some (call_at s at None 0 false (stored_of s)) → IsReady s at v
ready-at s at v live is = record {
  can = (λ i. (live i) && option_map_or (λ c. same_key c.key s.key && (is_none c.found && not c.empty)) (is i) (parts_known v.mind.knows s.key)) ∙ same;
  call = ap (λ (o : Option Call). unwrap_or o (new_call v.size.count s.key)) is;
}
  where
    same : (same_key s.key s.key && true) ≡ true
    same = ap (λ (b : Bool). b && true) ((same_key_tells s.key s.key).1 refl)

-- the start isn't met again
far : (s : Search) (e : Entry) (right : ℕ) (v : View) → Sees v → IsComparing s e right v → next_bucket v.size.count s.at ≢ first_bucket (words_of s.key) v.size.count
far s e right v sees at =
    subst (λ n. next_bucket n s.at ≢ first_bucket (words_of s.key) n) sees.count
    (goes_on sees.machine sees.sized sees.sound sees.seat (call_at s s.at (Some e) right false (stored_of s)) e (ap (λ (z : Seat). z.live) sees.there ∙ sees.live) (ap (λ (z : Seat). z.call) sees.there ∙ at.call) refl)

pub goes-on : (s : Search) (e : Entry) (right : ℕ) (v w : View) → Sees v → Sees w → IsComparing s e right v → w ≡ record v { mind = record v.mind { call = Some (call_at s (next_bucket v.size.count s.at) None 0 false (stored_of s)) } } → GoesOn v.size.count s v w
goes-on s e right v w sees sees' at is = record {
  ready = ready-at s (next_bucket v.size.count s.at) w sees'.live (ap (λ (z : View). z.mind.call) is);
  held = ap held is;
  far = far s e right v sees at;
  spare = λ none. ap (λ (z : View). z.mind.spare) (sym is) ∙ none;
}

-- the entry whose five words were right is known with the key
found-key : (s : Search) (e : Entry) (v : View) (sees : Sees v) → IsComparing s e 4 v → get_or (entry_words sees.machine e.0) 4 0 ≡ get_or (words_of s.key) 4 0 → HasKey sees.machine (record { entry = e; key = s.key })
found-key s e v sees at last =
    let seat = sees.sound.seats sees.seat (ap (λ (z : Seat). z.live) sees.there ∙ sees.live) in
    let search = seat.search (call_at s s.at (Some e) 4 false (stored_of s)) (ap (λ (z : Seat). z.call) sees.there ∙ at.call) in
    let found = search.found e refl in
    let five = five_of_entry sees.machine sees.sized e.0 (sees.sound.only_claimed s.at e.0 found.0) in
    record {
      published = (s.at, found.0);
      words = same_of_four (entry_words sees.machine e.0) (words_of s.key) five (five_of_key s.key) found.1 last;
      in_range = search.in_range;
    }
  where
    same_of_four : (xs ys : List ℕ) → length xs ≡ 5 → length ys ≡ 5 → take 4 xs ≡ take 4 ys → get_or xs 4 0 ≡ get_or ys 4 0 → xs ≡ ys
    same_of_four xs ys n m same last = same_of_five xs ys n m (take_more_same xs ys 4 0 (omega arith) (omega arith) same last)

pub last-right : (s : Search) (e : Entry) (found : ℕ) (m m' : Mine) → IsComparing s e 4 m.0 → TellsContent m found m' → found ≡ get_or (words_of s.key) 4 0 → Knows s e m.0 m'.0
last-right s e found m m' at tells same =
    let f = comparing-facts s e 4 m.0 at in
    let k : Known = record { entry = e; key = s.key } in
    let v : View = m.0 in
    let now : m'.0 ≡ record v { mind = record v.mind { knows = learned v.mind.knows k; call = None; last = Got e } } =
    after-word s e 4 found m m' at tells
    ∙ (λ i. record v { mind = cond (eq-eqb found (get_or (words_of s.key) 4 0) same i) (after_equal e (call_at s s.at (Some e) 4 false (stored_of s)) v.mind) (record v.mind { call = Some (call_at s (next_bucket v.size.count s.at) None 0 false (stored_of s)) }) }) in
    let was = tells.0.was in
    let is = tells.0.is in
    let read : found ≡ get_or (entry_words was.machine e.0) 4 0 = tells.0.read ∙ (λ i. get_or (entry_words was.machine (f.found i).0) ((f.call i).right) 0) in
    let law = load_content_keeps was.machine was.seat (found_of v.mind) (call_of v.mind).right was.sized was.sound in
    let has : HasKey is.machine k = subst (λ (d : Machine). HasKey d k) (sym tells.0.moved) (has_key was.machine _ law.stays k (found-key s e v was at (sym read ∙ same))) in
    let knows : m'.0.mind.knows ≡ learned v.mind.knows k = ap (λ (z : View). z.mind.knows) now in
    let published : m'.0.mind.published ≡ v.mind.published = ap (λ (z : View). z.mind.published) now in
    record {
      knows = knows;
      has = agreed is.machine is.seat m'.0.mind k is.sound is.there is.live has (ap (λ l. is_known l e) knows ∙ learned_known v.mind.knows k);
      rests = ap (λ (z : View). z.mind.call) now;
      others = ap held now ∙ (λ i. record (held v) { knows = sym knows i; published = sym published i });
    }

pub right-word : (s : Search) (e : Entry) (right found : ℕ) (m m' : Mine) → IsComparing s e right m.0 → right < 4 → TellsContent m found m' → found ≡ get_or (words_of s.key) right 0 → IsComparing s e (right + 1) m'.0 × (m'.0.mind.spare ≡ m.0.mind.spare)
right-word s e right found m m' at four tells same =
    let now = word-right s e right found m.0 m'.0 four (after-word s e right found m m' at tells) same in
    (record { call = ap (λ (z : View). z.mind.call) now }, ap (λ (z : View). z.mind.spare) now)

pub wrong-word : (s : Search) (e : Entry) (right found count : ℕ) (m m' : Mine) → IsComparing s e right m.0 → m.0.size.count ≡ count → TellsContent m found m' → found ≢ get_or (words_of s.key) right 0 → GoesOn count s m.0 m'.0
wrong-word s e right found count m m' at size tells other =
    subst (λ n. GoesOn n s m.0 m'.0) size (goes-on s e right m.0 m'.0 tells.0.was tells.0.is at (word-wrong s e right found m.0 m'.0 (after-word s e right found m m' at tells) other))

pub compares : (s : Search) (e : Entry) (found wanted count : ℕ) (m m' : Mine) → IsComparing s e 4 m.0 → m.0.size.count ≡ count → TellsContent m found m' → wanted ≡ get_or (words_of s.key) 4 0 → Compares count s e m.0 m'.0 (eqb found wanted)
compares s e found wanted count m m' at size tells is = record {
  same = λ t. last-right s e found m m' at tells (eqb-true found wanted t ∙ is);
  published = λ t. last-published s e found m m' at tells (eqb-true found wanted t ∙ is);
  other = λ f. wrong-word s e 4 found count m m' at size tells (λ z. eqb-false found wanted f (z ∙ sym is));
}
  where
    last-published : (s : Search) (e : Entry) (found : ℕ) (m m' : Mine) → IsComparing s e 4 m.0 → TellsContent m found m' → found ≡ get_or (words_of s.key) 4 0 → m'.0.mind.published ≡ m.0.mind.published
    last-published s e found m m' at tells same =
        ap (λ (z : View). z.mind.published) (after-word s e 4 found m m' at tells
        ∙ (λ i. record m.0 { mind = cond (eq-eqb found (get_or (words_of s.key) 4 0) same i) (after_equal e (call_at s s.at (Some e) 4 false (stored_of s)) m.0.mind) (record m.0.mind { call = Some (call_at s (next_bucket m.0.size.count s.at) None 0 false (stored_of s)) }) }))

-- the same, from an earlier view that shows the same

pub goes-from : (count : ℕ) (s : Search) (u v w : View) → held v ≡ held u → (v.mind.spare ≡ None → u.mind.spare ≡ None) → GoesOn count s v w → GoesOn count s u w
goes-from count s u v w same spare goes = record { ready = goes.ready; held = goes.held ∙ same; far = goes.far; spare = λ none. spare (goes.spare none) }

pub compares-from : (count : ℕ) (s : Search) (e : Entry) (u v w : View) (b : Bool) → held v ≡ held u → (v.mind.spare ≡ None → u.mind.spare ≡ None) → Compares count s e v w b → Compares count s e u w b
compares-from count s e u v w b same spare c = record {
  same = λ t. let k = c.same t in record {
    knows = k.knows ∙ ap (λ (h : Held). learned h.knows (record { entry = e; key = s.key })) same;
    has = k.has;
    rests = k.rests;
    others = k.others ∙ ap (λ (h : Held). record h { knows = w.mind.knows; published = w.mind.published }) same;
  };
  published = λ t. c.published t ∙ ap (λ (h : Held). h.published) same;
  other = λ f. goes-from count s u v w same spare (c.other f);
}
