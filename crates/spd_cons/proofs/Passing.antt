-- What one bucket shows, through the steps of its probe.
use Rattle.std.proofs.Common.{◌≡◌, ◌⊎◌, ℕ, true, None, [], ◌∷◌, ◌++◌, refl, sym, ap, ◌∙◌, subst, inl, inr, ⊎_elim}
use Rattle.std.specs.List.{Contains}
use Rattle.spd_cons_core.specs.declared.key.Entry.{Entry}
use Rattle.spd_cons_core.specs.Seats.{learned}
use Rattle.spd_cons.specs.declared.view.View.{View}
use Rattle.spd_cons.specs.declared.search.Search.{Search}
use Rattle.spd_cons.specs.declared.search.Probe.{Probe}
use Rattle.spd_cons.specs.declared.search.Probe.TheVariants.{Got, Full, Other}
use Rattle.spd_cons.specs.Searching.{Held, held, Knows, Ends, IsUnknown, Probes}
use Rattle.spd_cons_core.specs.declared.key.Key.{Key}
use Rattle.spd_cons_core.proofs.CallerLemmas.{learned_contains}
use Rattle.spd_cons.specs.Told.{Sees}
use Rattle.spd_cons.specs.Values.{TableValue, IsSeated, IsSeatOf, known, Finds, Lacks}
use Rattle.spd_cons.proofs.Facts.{more_than_limit}
use Rattle.spd_cons.proofs.Comparing.{goes-from}

knows-from : (s t : Search) (e : Entry) (u v w : View) → held v ≡ held u → t.key ≡ s.key → Knows t e v w → Knows s e u w
knows-from s t e u v w same key k = record {
  knows = k.knows ∙ (λ i. learned ((same i).knows) (record { entry = e; key = key i }));
  has = subst (λ z. Contains w.mind.knows (record { entry = e; key = z })) key k.has;
  rests = k.rests;
  others = k.others ∙ ap (λ (h : Held). record h { knows = w.mind.knows; published = w.mind.published }) same;
}

-- from an earlier view that shows the same, of a search for the same key
pub probes-from : (count : ℕ) (s t t' : Search) (u v w : View) (r : Probe) → held v ≡ held u → (v.mind.spare ≡ None → u.mind.spare ≡ None) → t.key ≡ s.key → Probes count t t' v w r → Probes count s t' u w r
probes-from count s t t' u v w (Got e) same spare key p = (
  knows-from s t e u v w same key p.0,
  ⊎_elim (λ (q : w.mind.published ≡ v.mind.published). inl (q ∙ ap (λ (h : Held). h.published) same)) (λ (q : w.mind.published ≡ v.mind.published ++ e ∷ []). inr (q ∙ ap (λ (h : Held). h.published ++ e ∷ []) same)) p.1,
)
probes-from count s t t' u v w Full same spare key p = (
  record { held = p.0.held ∙ ap (λ (h : Held). record h { ended = true }) same; rests = p.0.rests },
  (λ k at is. p.1 k (subst (λ (h : Held). Contains h.knows k) (sym same) at) (is ∙ sym key)),
  spare p.2,
)
probes-from count s t t' u v w Other same spare key p = goes-from count t' u v w same spare p

-- what a call of find-or-make says of its seat

pub finds-from : (t t' : TableValue) (v w : View) (s : Search) (e : Entry) → Knows s e v w → (w.mind.published ≡ v.mind.published) ⊎ (w.mind.published ≡ v.mind.published ++ e ∷ []) → IsSeatOf (record { table = t'; mind = w.mind })
    → Finds (record { table = t; mind = v.mind }) (record { table = t'; mind = w.mind }) s.key e
finds-from t t' v w s e k published facts = record {
  knows = k.knows;
  has = k.has;
  same = λ other at. facts.entries (known other s.key) (known e s.key) (subst (λ l. Contains l (known other s.key)) (sym k.knows) (learned_contains v.mind.knows (known e s.key) (known other s.key) at)) k.has refl;
  published = published;
  ended = ap (λ (h : Held). h.ended) k.others;
}

pub lacks-from : (t t' : TableValue) (v w : View) (key : Key) → t'.size ≡ w.size → Sees w → Ends v w → IsUnknown key v → v.mind.spare ≡ None → Lacks (record { table = t; mind = v.mind }) (record { table = t'; mind = w.mind }) key
lacks-from t t' v w key size sees ends unknown spare =
    let ended = ap (λ (h : Held). h.ended) ends.held in
    record {
      knows = ap (λ (h : Held). h.knows) ends.held;
      published = ap (λ (h : Held). h.published) ends.held;
      ended = ended;
      no_spare = spare;
      unknown = unknown;
      more = let m = subst (λ z. IsSeated z w.mind) (sym size) sees in (m, more_than_limit t'.size w.mind m ended);
    }
