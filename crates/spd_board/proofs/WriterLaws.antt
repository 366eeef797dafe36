-- What a writer keeps when it publishes.
use Rattle.std.proofs.Common.{◌≡◌, ℕ, List, [], ◌∷◌, ◌++◌, length, Ok, Err, Result, refl, sym, ap, ◌∙◌, subst}
use Rattle.std.specs.Prelude.{MatchResult, is_err, false}
use Rattle.std.specs.Arc.{arc_value}
use Rattle.spd_board.specs.declared.item.Shown.{Shown}
use Rattle.spd_board.specs.declared.item.View.{View}
use Rattle.spd_board.specs.Board.{Publishes}
use Rattle.spd_board.specs.inner.Inside.{published_with, IsWhole}
use Rattle.spd_board.proofs.Lists.{published_with-snoc, numbered-snoc, all-published}

-- what holds where there is no error
pub unless-err : {X E P : Type 0} (Q : E → Type 0) (r : Result X E) → is_err r ≡ false → MatchResult r (λ _. P) Q → P
unless-err Q (Ok x) e h = h
unless-err Q (Err y) e h = absurd (cc)

module _ {T : Type 0} (nr : T → ℕ) where
  -- the item stands behind all that was published
  pub published-more : (v w : View T) (x y : Shown T) → IsWhole nr (published_with v.seen (arc_value x.item)) (arc_value x.item) → Publishes nr v x y w
      → published_with w.seen (arc_value y.item) ≡ published_with v.seen (arc_value x.item) ++ arc_value y.item ∷ []
  published-more v w x y whole p =
      let item : T = arc_value y.item in
      let all = all-published nr v.seen p.published (arc_value x.item) whole p.goes_on p.numbered p.newest in
      ap (λ (l : List T). published_with l item) p.appended ∙ published_with-snoc p.published item item ∙ ap (λ (l : List T). l ++ item ∷ []) all

  pub whole-more : (items : List T) (x y : T) → IsWhole nr items x → nr y ≡ length items → IsWhole nr (items ++ y ∷ []) y
  whole-more items x y whole number = record { numbered = numbered-snoc nr items y whole.numbered number; newest = record { others = items; split = refl } }

  -- what the call of `left_right` says, of the end as it was before the item was appended
  pub call-says : {E : Type 0} (D D' : Type 0) (r : Result (Unit {0}) E) (v v' w : View T) (x x' y : Shown T) (item folded : T) → v' ≡ v → x' ≡ x → folded ≡ item
      → MatchResult r (λ _. (arc_value y.item ≡ folded) × D) (λ _. (y ≡ x') × D') → MatchResult r (λ _. Publishes nr v' x' y w) (λ _. w ≡ v')
      → MatchResult r (λ _. (arc_value y.item ≡ item) × Publishes nr v x y w) (λ _. (y ≡ x) × (w ≡ v))
  call-says D D' (Ok u) v v' w x x' y item folded same alike value h k =
      (h.0 ∙ value, subst (λ (z : Shown T). Publishes nr v z y w) alike (subst (λ (z : View T). Publishes nr z x' y w) same k))
  call-says D D' (Err e) v v' w x x' y item folded same alike value h k = (h.0 ∙ alike, k ∙ same)

  -- what was published, after the call of `left_right`
  pub after-published : {E : Type 0} (r : Result (Unit {0}) E) (v w : View T) (x y : Shown T) (item : T) → IsWhole nr (published_with v.seen (arc_value x.item)) (arc_value x.item)
      → MatchResult r (λ _. (arc_value y.item ≡ item) × Publishes nr v x y w) (λ _. (y ≡ x) × (w ≡ v))
      → MatchResult r (λ _. published_with w.seen (arc_value y.item) ≡ published_with v.seen (arc_value x.item) ++ item ∷ []) (λ _. published_with w.seen (arc_value y.item) ≡ published_with v.seen (arc_value x.item))
  after-published (Ok u) v w x y item whole h =
      published-more v w x y whole h.1 ∙ ap (λ (z : T). published_with v.seen (arc_value x.item) ++ z ∷ []) h.0
  after-published (Err e) v w x y item whole h = λ i. published_with (h.1 i).seen (arc_value (h.0 i).item)

  pub after-whole : {E : Type 0} (r : Result (Unit {0}) E) (v w : View T) (x y : Shown T) (item : T) → IsWhole nr (published_with v.seen (arc_value x.item)) (arc_value x.item)
      → nr item ≡ length (published_with v.seen (arc_value x.item)) → MatchResult r (λ _. (arc_value y.item ≡ item) × Publishes nr v x y w) (λ _. (y ≡ x) × (w ≡ v))
      → IsWhole nr (published_with w.seen (arc_value y.item)) (arc_value y.item)
  after-whole (Ok u) v w x y item whole next h =
      let more = whole-more (published_with v.seen (arc_value x.item)) (arc_value x.item) (arc_value y.item) whole (ap nr h.0 ∙ next) in
      subst (λ (l : List T). IsWhole nr l (arc_value y.item)) (sym (published-more v w x y whole h.1)) more
  after-whole (Err e) v w x y item whole next h =
      subst (λ (s : Shown T). IsWhole nr (published_with w.seen (arc_value s.item)) (arc_value s.item)) (sym h.0)
      (subst (λ (u : View T). IsWhole nr (published_with u.seen (arc_value x.item)) (arc_value x.item)) (sym h.1) whole)
