-- A table that holds only answers goes on to hold only answers.
use Rattle.std.proofs.Common.{◌≡◌, ◌⊎◌, inl, inr, List, [], ◌∷◌, subst, sym, true}
use Rattle.std.specs.Prelude.{Contains}
use Rattle.std.proofs.lemmas.List.Elements.{All-head, All-tail, All-weaker}
use Rattle.spd_cons_core.specs.declared.key.Entry.{Entry}
use Rattle.spd_nodes.specs.Shown.{Shown, Grows}
use Rattle.spd_gather.specs.Down.{Making}
use Rattle.spd_gather.specs.Lists.{trees_of, AreKnown, IsListAnswer, HoldsRows}
use Rattle.spd_gather.specs.Rows.{Row}

-- the trees of known entries stay
pub trees-stay : (s t : Shown) (ks : List Entry) → Grows s t → AreKnown s ks → trees_of t ks ≡ trees_of s ks
trees-stay s t [] g h = λ _. []
trees-stay s t (k ∷ ks) g h =
    let here : t.tree k ≡ s.tree k = g.trees k (All-head (λ k. s.knows k ≡ true) k ks h) in
    let rest : trees_of t ks ≡ trees_of s ks = trees-stay s t ks g (All-tail (λ k. s.knows k ≡ true) k ks h) in
    λ i. here i ∷ rest i

pub known-stay : (s t : Shown) (ks : List Entry) → Grows s t → AreKnown s ks → AreKnown t ks
known-stay s t ks g h = All-weaker (λ k. s.knows k ≡ true) (λ k. t.knows k ≡ true) (λ k a. g.knows k a) ks h

pub rows-found : {making : Making} {s : Shown} {rows : List Row} → HoldsRows making s rows → (ks : List Entry) (r : Entry) → Contains rows (ks, r) → IsListAnswer making s ks r
rows-found h ks r m = h.each ks r m

pub rows-grow : {making : Making} {s t : Shown} {rows : List Row} → HoldsRows making s rows → Grows s t → HoldsRows making t rows
rows-grow {making = making} {s = s} {t = t} h g = record {
  each = λ ks r m. let a : IsListAnswer making s ks r = h.each ks r m in
      record {
        known = known-stay s t ks g a.known;
        answer = g.knows r a.answer;
        is = rw (g.trees r a.answer, trees-stay s t ks g a.known) a.is;
      };
}

pub rows-put : {making : Making} {s : Shown} {rows new : List Row} {ks : List Entry} {r : Entry} → HoldsRows making s rows → IsListAnswer making s ks r
    → ((row : Row) → Contains new row → Contains rows row ⊎ (row ≡ (ks, r))) → HoldsRows making s new
rows-put {making = making} {s = s} {rows = rows} {ks = ks} {r = r} h a put = record {
  each = λ ls q m.
      elim (put (ls, q) m) [
        | inl b ↦ h.each ls q b
        | inr b ↦ subst (λ (row : Row). IsListAnswer making s row.0 row.1) (sym b) a
      ];
}

pub ruleset row_laws = (rows-found, rows-put, rows-grow)
