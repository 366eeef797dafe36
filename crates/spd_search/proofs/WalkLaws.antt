-- Giving the variables their values one after the other comes to the first state.
use Rattle.std.proofs.Common.{◌≡◌, ℕ, ◌<◌, Bool, true, false, cond, List, [], ◌∷◌, ◌++◌, length, get_or, Option, Some, None, refl, sym, ◌∙◌, ap, subst, arith, append_assoc, append-nil}
use Rattle.std.specs.Prelude.{option_map}
use Rattle.std.specs.Option.{is_some}
use Rattle.spd_model.specs.States.{IsState}
use Rattle.spd_nodes.specs.declared.leaf.Leaf.{Leaf}
use Rattle.spd_search.specs.inner.Settling.{AreFirst}
use Rattle.spd_search.proofs.Firsts.{first_below, any_below, any_below-swap, is_some-below, first_below-at, first_state}
use Rattle.spd_search.proofs.SeekLaws.{seek}
use Rattle.spd_model.proofs.CallerLemmas.Finds.{is_some-option_map}

-- A rule on the first values of a state holds where it holds with one value more.
abbrev pub Splits : List ℕ → (List ℕ → Bool) → Type 0
Splits [] k = Unit {0}
Splits (d ∷ ds) k = (k [] ≡ any_below d (λ v. k (v ∷ []))) × ((v : ℕ) → Splits ds (λ r. k (v ∷ r)))

-- so does one of several
splits-below : {X : Type 0} (ds : List ℕ) (n : ℕ) (h : ℕ → List ℕ → Option X) → ((y : ℕ) → Splits ds (λ r. is_some (h y r))) → Splits ds (λ r. is_some (first_below n (λ y. h y r)))
splits-below [] n h s = tt
splits-below (d ∷ ds) n h s = (
  is_some-below n (λ y. h y [])
      ∙ ap (any_below n) (λ i y. (s y).0 i)
      ∙ any_below-swap n d (λ y v. is_some (h y (v ∷ [])))
      ∙ ap (any_below d) (λ i v. sym (is_some-below n (λ y. h y (v ∷ []))) i),
  λ v. splits-below ds n (λ y r. h y (v ∷ r)) (λ y. (s y).1 v),
)

pub splits-seek : (wants : Leaf → Bool) (ds : List ℕ) (g : List ℕ → Leaf) → Splits ds (λ r. is_some (seek wants ds r g))
splits-seek wants [] g = tt
splits-seek wants (d ∷ ds) g = (
  is_some-below d (λ y. first_below d (λ x. seek wants ds [] (λ p. g (y ∷ x ∷ p))))
      ∙ ap (any_below d) (λ i y. is_some-below d (λ x. seek wants ds [] (λ p. g (y ∷ x ∷ p))) i)
      ∙ any_below-swap d d (λ y x. is_some (seek wants ds [] (λ p. g (y ∷ x ∷ p))))
      ∙ ap (any_below d) (λ i v. sym (is_some-below d (λ y. seek wants ds [] (λ p. g (y ∷ v ∷ p)))) i),
  λ v. splits-below ds d (λ y r. seek wants ds r (λ p. g (y ∷ v ∷ p))) (λ y. splits-seek wants ds (λ p. g (y ∷ v ∷ p))),
)

is_some-cond : {X : Type 0} (b : Bool) (x : X) → is_some (cond b (Some x) None) ≡ b
is_some-cond true x = refl
is_some-cond false x = refl

-- some state passes where the empty front does
pub some-state : (ds : List ℕ) (k : List ℕ → Bool) → Splits ds k → is_some (first_state ds k) ≡ k []
some-state [] k s = is_some-cond (k []) []
some-state (d ∷ ds) k s =
    is_some-below d (λ v. option_map (λ r. v ∷ r) (first_state ds (λ r. k (v ∷ r))))
    ∙ ap (any_below d) (λ i v. (is_some-option_map (λ r. v ∷ r) (first_state ds (λ r. k (v ∷ r))) ∙ some-state ds (λ r. k (v ∷ r)) (s.1 v)) i)
    ∙ sym s.0

pub no-state : (ds : List ℕ) (k : List ℕ → Bool) → Splits ds k → k [] ≡ false → first_state ds k ≡ None
no-state ds k s e = not-some (first_state ds k) (some-state ds k s ∙ e)
  where
    not-some : {X : Type 0} (o : Option X) → is_some o ≡ false → o ≡ None
    not-some (Some x) e = absurd (cc e)
    not-some None e = refl

-- the first state has the first value at which the rule holds
next-value : (d : ℕ) (ds : List ℕ) (k : List ℕ → Bool) (v : ℕ) → Splits (d ∷ ds) k → v < d → k (v ∷ []) ≡ true → ((j : ℕ) → j < v → k (j ∷ []) ≡ false)
    → first_state (d ∷ ds) k ≡ option_map (λ r. v ∷ r) (first_state ds (λ r. k (v ∷ r)))
next-value d ds k v s i here before =
    first_below-at d v (λ j. option_map (λ r. j ∷ r) (first_state ds (λ r. k (j ∷ r)))) i
    (is_some-option_map (λ r. v ∷ r) (first_state ds (λ r. k (v ∷ r))) ∙ some-state ds (λ r. k (v ∷ r)) (s.1 v) ∙ here)
    (λ j q. ap (option_map (λ r. j ∷ r)) (no-state ds (λ r. k (j ∷ r)) (s.1 j) (before j q)))

-- The first state begins with these values, and goes on with the first one of the variables that are left.
pub record Walks (sizes : List ℕ) (k : List ℕ → Bool) (first left : List ℕ) : Type 0 where
  pub splits : Splits left (λ r. k (first ++ r))
  pub goes_on : first_state sizes k ≡ option_map (λ r. first ++ r) (first_state left (λ r. k (first ++ r)))

map-same : {X : Type 0} (o : Option X) → o ≡ option_map (λ x. x) o
map-same (Some x) = refl
map-same None = refl

pub map-map : {X Y Z : Type 0} (f : Y → Z) (g : X → Y) (o : Option X) → option_map f (option_map g o) ≡ option_map (λ x. f (g x)) o
map-map f g (Some x) = refl
map-map f g None = refl

pub walks-start : (sizes : List ℕ) (k : List ℕ → Bool) → Splits sizes k → Walks sizes k [] sizes
walks-start sizes k s = record { splits = s; goes_on = map-same (first_state sizes k) }

pub walks-next : (sizes : List ℕ) (k : List ℕ → Bool) (first : List ℕ) (d : ℕ) (ds : List ℕ) (v : ℕ) → Walks sizes k first (d ∷ ds) → v < d → k (first ++ v ∷ []) ≡ true
    → ((j : ℕ) → j < v → k (first ++ j ∷ []) ≡ false) → Walks sizes k (first ++ v ∷ []) ds
walks-next sizes k first d ds v w i here before = record {
  splits = subst (λ (h : List ℕ → Bool). Splits ds h) same (w.splits.1 v);
  goes_on =
      w.goes_on
      ∙ ap (option_map (λ r. first ++ r)) (next-value d ds (λ r. k (first ++ r)) v w.splits i here before)
      ∙ map-map (λ r. first ++ r) (λ r. v ∷ r) (first_state ds (λ r. k (first ++ (v ∷ r))))
      ∙ (λ q. option_map (λ r. shift r q) (first_state ds (same q)));
}
  where
    shift : (r : List ℕ) → first ++ (v ∷ r) ≡ (first ++ v ∷ []) ++ r
    shift r = sym (append_assoc first (v ∷ []) r)

    same : (let old : List ℕ → Bool = λ r. k (first ++ (v ∷ r)) in let new : List ℕ → Bool = λ r. k ((first ++ v ∷ []) ++ r) in old ≡ new)
    same q r = k (shift r q)

pub walks-end : (sizes : List ℕ) (k : List ℕ → Bool) (first : List ℕ) → Walks sizes k first [] → k first ≡ true → first_state sizes k ≡ Some first
walks-end sizes k first w here =
    let all : first ++ [] ≡ first = append-nil first in
    w.goes_on ∙ ap (λ b. option_map (λ r. first ++ r) (cond b (Some []) None)) (ap k all ∙ here) ∙ ap Some all

-- where the rule holds at a front, it holds with some value more
pub splits-at : (sizes : List ℕ) (k : List ℕ → Bool) (first : List ℕ) → Splits sizes k → length first < length sizes
    → k first ≡ any_below (get_or sizes (length first) 0) (λ v. k (first ++ v ∷ []))
splits-at [] k first s h = absurd (omega arith)
splits-at (d ∷ ds) k [] s h = s.0
splits-at (d ∷ ds) k (x ∷ first) s h = splits-at ds (λ r. k (x ∷ r)) first (s.1 x) (omega arith)

-- ---- values below the numbers of values

pub first-push : (sizes first : List ℕ) (v : ℕ) → AreFirst sizes first → length first < length sizes → v < get_or sizes (length first) 0 → AreFirst sizes (first ++ v ∷ [])
first-push [] first v f h i = absurd (omega arith)
first-push (d ∷ ds) [] v f h i = (i, tt)
first-push (d ∷ ds) (x ∷ first) v f h i = (f.0, first-push ds first v f.1 (omega arith) i)

pub first-state : (sizes first : List ℕ) → AreFirst sizes first → length first ≡ length sizes → IsState sizes first
first-state [] [] f h = tt
first-state [] (x ∷ first) f h = absurd f
first-state (d ∷ ds) [] f h = absurd (omega arith)
first-state (d ∷ ds) (x ∷ first) f h = (f.0, first-state ds first f.1 (omega arith))

pub state-first : (sizes s : List ℕ) → IsState sizes s → AreFirst sizes s
state-first [] [] i = tt
state-first [] (x ∷ s) i = absurd i
state-first (d ∷ ds) [] i = tt
state-first (d ∷ ds) (x ∷ s) i = (i.0, state-first ds s i.1)
