-- Each step keeps the rule of a board.
use Rattle.std.proofs.Common.{◌≡◌, ◌≢◌, ℕ, zero, suc, ◌+◌, List, [], ◌∷◌, ◌++◌, set, refl, sym, ◌∙◌, subst, ⊎_elim}
use mathlib.Core.Option.{some, some-ne-none, some-injective}
use lib.ListN.{get_elem?}
use Rattle.std.specs.Arc.{arc_value}
use Rattle.crossbeam_utils.specs.Register.{Admits, TurnsAt, Turns}
use Rattle.atomic_table.proofs.Lists.{at_set, at_snoc}
use Rattle.spd_board.specs.declared.item.Shown.{Shown}
use Rattle.spd_board.specs.declared.item.View.{View}
use Rattle.spd_board.specs.Board.{GoesOn, nothing_seen, IsBoard, Enters, Publishes}
use Rattle.spd_board.proofs.Lists.{front-same, front-longer, newest-number, numbered-snoc, numbered-one}

module _ {T : Type 0} (nr : T → ℕ) where
  -- each end has seen a front, also where one of them has seen more
  fronts-set : (items : List T) (views : List (View T)) (seat : ℕ) (w : View T) → GoesOn w.seen items
      → ((j : ℕ) (v : View T) → get_elem? views j ≡ some v → GoesOn v.seen items) → (j : ℕ) (v : View T) → get_elem? (set views seat w) j ≡ some v → GoesOn v.seen items
  fronts-set items views seat w mine all j v e =
      ⊎_elim (λ (t : (j ≡ seat) × (w ≡ v)). subst (λ (u : View T). GoesOn u.seen items) t.1 mine) (λ (t : (j ≢ seat) × (get_elem? views j ≡ some v)). all j v t.1) (at_set views seat j w v e)

  -- a new reader
  pub admits : Admits (IsBoard nr) nothing_seen
  admits x views h = record {
    published = h.published;
    numbered = h.numbered;
    newest = h.newest;
    fronts = λ j v e. ⊎_elim (h.fronts j v) (λ (t : nothing_seen ≡ v). subst (λ (u : View T). GoesOn u.seen h.published) t record { rest = h.published; split = refl }) (at_snoc views nothing_seen v j e);
  }

  -- an entry
  pub enters : (seat : ℕ) (v : View T) → Turns (IsBoard nr) seat v (λ x. x) (Enters nr)
  enters seat v x views h at = let w : View T = record { seen = h.published } in (
    w,
    record { published = h.published; numbered = h.numbered; newest = h.newest; fronts = fronts-set h.published views seat w (front-same h.published) h.fronts },
    record { goes_on = h.fronts seat v at; numbered = h.numbered; newest = h.newest },
  )

  -- a publication
  pub publishes : (seat : ℕ) (v : View T) (x y : Shown T) → nr (arc_value y.item) ≡ nr (arc_value x.item) + 1 → TurnsAt (IsBoard nr) seat v x y (Publishes nr)
  publishes seat v x y one views h at =
      let item : T = arc_value y.item in
      let all : List T = h.published ++ item ∷ [] in
      let w : View T = record { seen = all } in
      let count = newest-number nr h.published (arc_value x.item) h.numbered h.newest in (
        w,
        record {
          published = all;
          numbered = numbered-snoc nr h.published item h.numbered (one ∙ count);
          newest = record { others = h.published; split = refl };
          fronts = fronts-set all views seat w (front-same all) (λ j u e. front-longer u.seen h.published item (h.fronts j u e));
        },
        record { published = h.published; goes_on = h.fronts seat v at; numbered = h.numbered; newest = h.newest; appended = refl },
      )

  -- a new board
  pub starts : (x : Shown T) → nr (arc_value x.item) ≡ 0 → IsBoard nr x (nothing_seen ∷ [])
  starts x number = record {
    published = arc_value x.item ∷ [];
    numbered = numbered-one nr (arc_value x.item) number;
    newest = record { others = []; split = refl };
    fronts = λ j v e. one j v e;
  }
    where
      one : (j : ℕ) (v : View T) → get_elem? (nothing_seen {T = T} ∷ []) j ≡ some v → GoesOn v.seen (arc_value x.item ∷ [])
      one zero v e = subst (λ (u : View T). GoesOn u.seen (arc_value x.item ∷ [])) (some-injective _ _ e) record { rest = arc_value x.item ∷ []; split = refl }
      one (suc j) v e = absurd (some-ne-none v (sym e))
