-- What the search knows after it looked into its bucket.
use Rattle.std.proofs.Common.{◌≡◌, ◌≢◌, ℕ, ◌+◌, ◌-◌, true, false, cond, eqb, is_none, ◌&&◌, Some, None, refl, sym, ap, ◌∙◌, subst, arith}
use Rattle.std.specs.List.{Contains}
use Rattle.std.proofs.lemmas.Bool.{eq-eqb, ne_eqb, cond_both}
use Rattle.spd_cons_core.specs.declared.key.Key.{Key}
use Rattle.spd_cons_core.specs.declared.mind.Known.{Known}
use Rattle.spd_cons_core.specs.declared.mind.Call.{Call}
use Rattle.spd_cons_core.specs.declared.mind.Last.TheVariants.{Full}
use Rattle.spd_cons_core.specs.Views.{Seat, Machine}
use Rattle.spd_cons_core.specs.Spelling.{IsKey}
use Rattle.spd_cons_core.specs.Seats.{seat_at, bucket, bucket_count}
use Rattle.spd_cons_core.specs.Events.{call_for, can_load_bucket, after_empty, after_bucket}
use Rattle.spd_cons_core.proofs.CallerLemmas.{bucket_below, key_unknown}
use Rattle.spd_cons.specs.declared.view.View.{View}
use Rattle.spd_cons.specs.declared.search.Search.{Search}
use Rattle.spd_cons.specs.Told.{Mine, Sees, TellsBucket}
use Rattle.spd_cons.specs.Searching.{stored_of, call_at, held, IsReady, LooksInto}

-- the key for which an empty bucket was loaded isn't known
unknown-there : (key : Key) (v : View) (sees : Sees v) (found : ℕ) → IsKey key → can_load_bucket key v.mind ≡ true → found ≡ bucket sees.machine (call_for v.size.count key v.mind).at → found ≡ 0 → (k : Known) → Contains v.mind.knows k → k.key ≢ key
unknown-there key v sees found fits can read zero k at =
    let c : Machine = sees.machine in
    let same : call_for (bucket_count c) key (seat_at c sees.seat) ≡ call_for v.size.count key v.mind = λ i. call_for (sees.count i) key (sees.there i) in
    key_unknown c sees.seat key sees.sized sees.sound fits (ap (can_load_bucket key) sees.there ∙ can) (ap (λ (z : Call). bucket c z.at) same ∙ (sym read ∙ zero))
    sees.seat k (ap (λ (z : Seat). z.live) sees.there ∙ sees.live) (subst (λ (z : Seat). Contains z.knows k) (sym sees.there) at)

pub looks-into : (s : Search) (found end : ℕ) (m m' : Mine) → IsReady s s.at m.0 → IsKey s.key → m.0.size.limit + m.0.size.most ≡ end → TellsBucket s.key m found m' → LooksInto end s m.0 m'.0 found
looks-into s found end m m' at fits is_end tells =
    let v : View = m.0 in
    let call : Call = call_at s s.at None 0 false (stored_of s) in
    let now : m'.0 ≡ record v { mind = after_bucket call found v.mind } = tells.0.now ∙ (λ i. record v { mind = after_bucket (at.call i) found v.mind }) in
    let was = tells.0.was in
    let filled : found ≢ 0 → m'.0 ≡ record v { mind = record v.mind { call = Some (call_at s s.at (Some (record { 0 = found - 1 })) 0 false (stored_of s)) } } =
    λ n. now ∙ (λ i. record v { mind = cond (ne_eqb found 0 n i) (after_empty call v.mind) (record v.mind { call = Some (call_at s s.at (Some (record { 0 = found - 1 })) 0 false (stored_of s)) }) }) in
    let emptied : found ≡ 0 → m'.0 ≡ record v { mind = after_empty call v.mind } = λ z. now ∙ (λ i. record v { mind = cond (eq-eqb found 0 z i) (after_empty call v.mind) (record v.mind { call = Some (call_at s s.at (Some (record { 0 = found - 1 })) 0 false (stored_of s)) }) }) in
    record {
      held = ap held now ∙ after-held call found v;
      spare = ap (λ (z : View). z.mind.spare) now ∙ after-spare call found v.mind;
      full = λ n. (
        let low = bucket_below was.machine was.sized was.sound (call_for v.size.count s.key v.mind).at in
            let read = tells.0.read in
            let limit = was.limit in
            let most = was.most in
            omega arith,
        record { call = ap (λ (z : View). z.mind.call) (filled n) },
      );
      unknown = unknown-there s.key v was found fits at.can tells.0.read;
      lost = λ zero both. ap (λ (z : View). z.mind.call) (emptied zero) ∙ (λ i. (cond (both i) (record v.mind { call = None; last = Full }) (record v.mind { call = Some (call_at s s.at None 0 true (stored_of s)) })).call);
      empty = λ zero one. record { call = ap (λ (z : View). z.mind.call) (emptied zero) ∙ (λ i. (cond (one i) (record v.mind { call = None; last = Full }) (record v.mind { call = Some (call_at s s.at None 0 true (stored_of s)) })).call) };
    }
  where
    after-held : (call : Call) (found : ℕ) (v : View) → held (record v { mind = after_bucket call found v.mind }) ≡ held v
    after-held call found v =
        cond_both (eqb found 0) _ _ (λ (z : Seat). held (record v { mind = z }) ≡ held v)
        (λ _. cond_both (is_none v.mind.spare && v.mind.ended) _ _ (λ (z : Seat). held (record v { mind = z }) ≡ held v) (λ _. refl) (λ _. refl))
        (λ _. refl)

    after-spare : (call : Call) (found : ℕ) (m : Seat) → (after_bucket call found m).spare ≡ m.spare
    after-spare call found m =
        cond_both (eqb found 0) _ _ (λ (z : Seat). z.spare ≡ m.spare)
        (λ _. cond_both (is_none m.spare && m.ended) _ _ (λ (z : Seat). z.spare ≡ m.spare) (λ _. refl) (λ _. refl))
        (λ _. refl)
