-- What the search knows after it claimed an entry, and after it stored a word.
use Rattle.std.proofs.Common.{◌≡◌, ℕ, ◌+◌, ◌<◌, ◌≤◌, true, cond, Some, None, ap, ◌∙◌}
use Rattle.std.proofs.lemmas.Bool.{lt-ltb, le-ltb}
use Rattle.spd_cons_core.specs.declared.mind.Last.TheVariants.{Full}
use Rattle.spd_cons_core.specs.Views.{Seat}
use Rattle.spd_cons_core.specs.Seats.{entry}
use Rattle.spd_cons_core.specs.Events.{after_claim}
use Rattle.spd_cons.specs.declared.view.View.{View}
use Rattle.spd_cons.specs.declared.search.Search.{Search}
use Rattle.spd_cons.specs.Told.{Mine, TellsClaim, TellsStore, call_of}
use Rattle.spd_cons.specs.Searching.{stored_of, call_at, held, IsEmpty, Claimed}
use Rattle.spd_cons.proofs.Allowed.{call_is}

pub claims : (s : Search) (old end : ℕ) (m m' : Mine) → IsEmpty s (stored_of s) m.0 → m.0.size.limit + m.0.size.most ≡ end → TellsClaim m old m' → Claimed end s m.0 m'.0 old
claims s old end m m' at is_end tells =
    let v : View = m.0 in
    let ours : Seat = record v.mind { spare = Some (entry old); unpublished = v.mind.unpublished + 1 } in
    let none : Seat = record v.mind { ended = true; call = None; last = Full } in
    let now : m'.0 ≡ record v { mind = after_claim end old v.mind } = tells.0.now ∙ (λ i. record v { mind = after_claim (is_end i) old v.mind }) in
    let room : old < end → m'.0 ≡ record v { mind = ours } = λ h. now ∙ (λ i. record v { mind = cond (lt-ltb old end h i) ours none }) in
    let past : end ≤ old → m'.0 ≡ record v { mind = none } = λ h. now ∙ (λ i. record v { mind = cond (le-ltb old end h i) ours none }) in
    record {
      room = λ h. (ap (λ (w : View). w.mind.spare) (room h), record { call = ap (λ (w : View). w.mind.call) (room h) ∙ at.call }, ap held (room h));
      past = λ h. (ap held (past h), ap (λ (w : View). w.mind.call) (past h), ap (λ (w : View). w.mind.spare) (past h));
    }

pub stores : (s : Search) (word x : ℕ) (m m' : Mine) → IsEmpty s word m.0 → TellsStore m x m' → IsEmpty s (word + 1) m'.0 × (held m'.0 ≡ held m.0) × (m'.0.mind.spare ≡ m.0.mind.spare)
stores s word x m m' at tells =
    let call : call_of m.0.mind ≡ call_at s s.at None 0 true word = call_is m.0.mind (call_at s s.at None 0 true word) at.call in
    let now = tells.0.now in (
      record { call = ap (λ (w : View). w.mind.call) now ∙ (λ i. Some (record (call i) { stored = (call i).stored + 1 })) },
      ap held now,
      ap (λ (w : View). w.mind.spare) now,
    )
