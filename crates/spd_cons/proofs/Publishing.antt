-- What the search knows after its exchange.
use Rattle.std.proofs.Common.{◌≡◌, ◌≢◌, ℕ, ◌+◌, ◌-◌, true, false, cond, [], ◌∷◌, ◌++◌, Option, Some, None, unwrap_or, sym, ap, ◌∙◌, subst, arith}
use Rattle.std.specs.List.{Contains}
use Rattle.std.proofs.lemmas.Bool.{eq-eqb, ne_eqb, cond_both}
use Rattle.std.proofs.lemmas.List.Elements.{Contains-push}
use Rattle.spd_cons_core.specs.declared.key.Entry.{Entry}
use Rattle.spd_cons_core.specs.declared.mind.Known.{Known}
use Rattle.spd_cons_core.specs.declared.mind.Last.TheVariants.{Got}
use Rattle.spd_cons_core.specs.Views.{Seat}
use Rattle.spd_cons_core.specs.Seats.{entry, is_known, learned}
use Rattle.spd_cons_core.specs.Events.{after_exchange}
use Rattle.spd_cons_core.proofs.CallerLemmas.{bucket_below, known_key}
use Rattle.spd_cons.specs.declared.view.View.{View}
use Rattle.spd_cons.specs.declared.search.Search.{Search}
use Rattle.spd_cons.specs.Told.{Mine, Sees, TellsExchange, call_of, spare_of}
use Rattle.spd_cons.specs.Searching.{stored_of, call_at, held, IsEmpty, Publishes}
use Rattle.spd_cons.proofs.Allowed.{call_is}

-- a spare isn't known
spare-unknown : (v : View) → Sees v → (e : Entry) → v.mind.spare ≡ Some e → is_known v.mind.knows e ≡ true → ⊥
spare-unknown v sees e spare known =
    let live = ap (λ (z : Seat). z.live) sees.there ∙ sees.live in
    let seat = sees.sound.seats sees.seat live in
    let k = known_key v.mind.knows e known in
    let there = seat.known (record { entry = e; key = k.0 }) (subst (λ (z : Seat). Contains z.knows (record { entry = e; key = k.0 })) (sym sees.there) k.1) in
    (seat.spare e (ap (λ (z : Seat). z.spare) sees.there ∙ spare)).unpublished there.published.0 there.published.1

pub publishes : (s : Search) (e : Entry) (found end : ℕ) (m m' : Mine) → IsEmpty s 5 m.0 → m.0.mind.spare ≡ Some e → m.0.size.limit + m.0.size.most ≡ end → stored_of s ≡ 5 → TellsExchange m found m' → Publishes end s e m.0 m'.0 found
publishes s e found end m m' at spare is_end stored tells =
    let v : View = m.0 in
    let was = tells.0.was in
    let k : Known = record { entry = e; key = s.key } in
    let call : call_of v.mind ≡ call_at s s.at None 0 true 5 = call_is v.mind (call_at s s.at None 0 true 5) at.call in
    let own : spare_of v.mind ≡ e = ap (λ (o : Option Entry). unwrap_or o (entry 0)) spare in
    let now : m'.0 ≡ record v { mind = after_exchange (call_at s s.at None 0 true 5) e found v.mind } = tells.0.now ∙ (λ i. record v { mind = after_exchange (call i) (own i) found v.mind }) in
    let lost : Seat = record v.mind { call = Some (call_at s s.at (Some (entry (found - 1))) 0 false 5) } in
    let won : Seat = record v.mind { knows = learned v.mind.knows k; published = v.mind.published ++ e ∷ []; spare = None; unpublished = v.mind.unpublished - 1; call = None; last = Got e } in
    let win : found ≡ 0 → m'.0 ≡ record v { mind = won } = λ z. now ∙ (λ i. record v { mind = cond (eq-eqb found 0 z i) won lost }) in
    let lose : found ≢ 0 → m'.0 ≡ record v { mind = lost } = λ n. now ∙ (λ i. record v { mind = cond (ne_eqb found 0 n i) won lost }) in
    let fresh : Contains (learned v.mind.knows k) k = cond_both (is_known v.mind.knows e) v.mind.knows (v.mind.knows ++ k ∷ []) (λ l. Contains l k) (λ is. absurd (spare-unknown v was e spare is)) (λ _. Contains-push v.mind.knows k) in
    record {
      won = λ z. record {
        knows = ap (λ (w : View). w.mind.knows) (win z);
        has = subst (λ l. Contains l k) (sym (ap (λ (w : View). w.mind.knows) (win z))) fresh;
        rests = ap (λ (w : View). w.mind.call) (win z);
        others = ap held (win z) ∙ (λ i. record (held v) { knows = sym (ap (λ (w : View). w.mind.knows) (win z)) i; published = sym (ap (λ (w : View). w.mind.published) (win z)) i });
      };
      listed = λ z. (ap (λ (w : View). w.mind.published) (win z), ap (λ (w : View). w.mind.spare) (win z));
      lost = λ n. (
        let low = bucket_below was.machine was.sized was.sound (call_of v.mind).at in
            let read = tells.0.read in
            let limit = was.limit in
            let most = was.most in
            omega arith,
        record { call = ap (λ (w : View). w.mind.call) (lose n) ∙ (λ i. Some (call_at s s.at (Some (entry (found - 1))) 0 false (sym stored i))) },
      );
      held = λ n. (ap held (lose n), ap (λ (w : View). w.mind.spare) (lose n));
    }
