-- The diagrams of the gaps, made one after the other.
use Rattle.std.proofs.Common.{◌≡◌, ℕ, true, List, [], ◌∷◌, refl, ◌∙◌, ap, arith, inl, inr, ℤ, pos, negsuc, ◌-ℤ◌, ◌^◌, Result, Ok, Err}
use Rattle.std.specs.Int.{int_max}
use Rattle.std.proofs.lemmas.Int.{ints}
use Rattle.std.proofs.lemmas.Bool.Decides.{Decides-ltb}
use Rattle.spd_scaled.specs.Scaled.{IsWithin}
use Rattle.spd_cons_core.specs.declared.key.Entry.{Entry}
use Rattle.spd_model.specs.States.{IsState}
use Rattle.spd_nodes.specs.declared.leaf.Leaf.{Leaf}
use Rattle.spd_nodes.specs.declared.leaf.Leaf.TheVariants.{Num, Pair, Act}
use Rattle.spd_nodes.specs.declared.forest.StoreFault.{StoreFault}
use Rattle.spd_nodes.specs.Shown.{Shown, IsSound, Grows, StandsFor, MakesAmong, MakesDiagram, meaning}
use Rattle.spd_nodes.specs.States.{Function, Agree}
use Rattle.spd_nodes.proofs.CallerLemmas.{Among, IsIn, among-after, diagram-agrees, has-made, has-none, stands-grows, within-in}
use Rattle.spd_apply.specs.Operations.{num_of, num_fits, in_i128}
use Rattle.spd_apply.specs.Outcome.{FitEverywhere, at_each}
use Rattle.spd_weigh.specs.Leaves.{number_of, greatest_value, IsValue}
use Rattle.spd_build.specs.Functions.{numbers}
use Rattle.spd_policy.specs.declared.chosen.Best.{Best}
use Rattle.spd_residual.specs.Residual.{Gaps, greater_gap, residual_functions, IsValued}
use Rattle.spd_residual.specs.inner.Finding.{HaveGaps, MakesGaps}

-- ---- differences of values

abbrev pub minus : Leaf → Leaf → Leaf
minus a b = num_of (λ x y. x -ℤ y) a b

in-range : (z : ℤ) → IsWithin (pos (10 ^ 31)) z → in_i128 z ≡ true
in-range (pos n) h = (Decides-ltb n (2 ^ 127)).1 (omega (arith, ints, h.high))
in-range (negsuc n) h = (Decides-ltb n (2 ^ 127)).1 (omega (arith, ints, h.low))

difference-within : (x y : ℤ) → IsWithin greatest_value x → IsWithin greatest_value y → IsWithin (pos (10 ^ 31)) (x -ℤ y)
difference-within x y h k = record { low = omega (arith, ints, h.low, k.high); high = omega (arith, ints, h.high, k.low) }

minus-fits : (a b : Leaf) → IsValue a → IsValue b → num_fits (λ x y. x -ℤ y) a b ≡ true
minus-fits (Num x) (Num y) h k = in-range (x -ℤ y) (difference-within x y h k)
minus-fits (Num x) (Pair y z) h k = absurd k
minus-fits (Num x) (Act y) h k = absurd k
minus-fits (Pair x z) b h k = absurd h
minus-fits (Act x) b h k = absurd h

minus-is : (a b : Leaf) → IsValue a → IsValue b → minus a b ≡ Num (number_of a -ℤ number_of b)
minus-is (Num x) (Num y) h k = refl
minus-is (Num x) (Pair y z) h k = absurd k
minus-is (Num x) (Act y) h k = absurd k
minus-is (Pair x z) b h k = absurd h
minus-is (Act x) b h k = absurd h

module _ (s : Shown) (f g : Entry) (h : IsValued s f) (k : IsValued s g) where
  pub difference-fits : FitEverywhere (λ a b. num_fits (λ x y. x -ℤ y) a b) s f g
  difference-fits = record { at = λ x y i j. minus-fits (meaning s f x y) (meaning s g x y) (h.values.at x y i j) (k.values.at x y i j) }

  pub difference-agrees : (gap : List ℕ → ℤ) → ((x y : List ℕ) → IsState s.sizes x → IsState s.sizes y → number_of (meaning s f x y) -ℤ number_of (meaning s g x y) ≡ gap x)
      → Agree s.sizes (at_each minus (meaning s f) (meaning s g)) (numbers (λ x y. gap x))
  difference-agrees gap is = record { at = λ x y i j. minus-is (meaning s f x y) (meaning s g x y) (h.values.at x y i j) (k.values.at x y i j) ∙ ap Num (is x y i j) }

-- ---- a forest that grows

module _ (s t : Shown) (grows : Grows s t) where
  pub meaning-grows : (r : Entry) → s.knows r ≡ true → meaning t r ≡ meaning s r
  meaning-grows r known = rw (grows.sizes, grows.trees r known) refl

  pub valued-grows : (r : Entry) → IsValued s r → IsValued t r
  valued-grows r h = record {
    known = grows.knows r h.known;
    whole = rw (grows.sizes, grows.trees r h.known) h.whole;
    values = rw (grows.sizes, grows.trees r h.known) h.values;
  }

  have-grows : (g : Gaps) (w : Entry) (best : Best) → s.knows w ≡ true → s.knows best.low ≡ true → s.knows best.high ≡ true → HaveGaps g s w best → HaveGaps g t w best
  have-grows g w best kw kl kh h = record {
    above = rw (grows.sizes, grows.trees w kw, grows.trees best.high kh) h.above;
    below = rw (grows.sizes, grows.trees w kw, grows.trees best.low kl) h.below;
  }

-- ---- one after the other

among-in : (f : Function) (fs : List Function) → IsIn f fs → Among (f ∷ []) fs
among-in f fs i = record { nodes = λ sizes. within-in sizes f fs i }

module _ (s : Shown) (o : IsSound s) (w : Entry) (best : Best) (value : IsValued s w) (low : IsValued s best.low) (high : IsValued s best.high) (g : Gaps) (have : HaveGaps g s w best) where
  abbrev nodes : List Function
  nodes = residual_functions g

  abbrev above : Function
  above = numbers (λ x y. g.above x)

  abbrev below : Function
  below = numbers (λ x y. g.below x)

  abbrev greater : Function
  greater = numbers (λ x y. greater_gap g x)

  failed : {f : Function} {t : Shown} (e : StoreFault) → MakesAmong s t f nodes (Err e) → MakesGaps g s t (Err e)
  failed e m = record { all = record { made = has-made m; fault = m.fault }; ok = tt }

  above-made : (t : Shown) (r : Result Entry StoreFault) → MakesDiagram s t (at_each minus (meaning s best.high) (meaning s w)) r → MakesAmong s t above nodes r
  above-made t r m = among-after (among-in above nodes (inl refl)) (has-none s o nodes) (diagram-agrees o (difference-agrees s best.high w high value g.above have.above) m)

  pub above-fails : (t : Shown) (e : StoreFault) → MakesDiagram s t (at_each minus (meaning s best.high) (meaning s w)) (Err e) → MakesGaps g s t (Err e)
  above-fails t e m = failed e (above-made t (Err e) m)

  module _ (t : Shown) (a : Entry) (first : MakesDiagram s t (at_each minus (meaning s best.high) (meaning s w)) (Ok a)) where
    in-t : MakesAmong s t above nodes (Ok a)
    in-t = above-made t (Ok a) first

    have-t : HaveGaps g t w best
    have-t = have-grows s t in-t.grows g w best value.known low.known high.known have

    below-made : (u : Shown) (r : Result Entry StoreFault) → MakesDiagram t u (at_each minus (meaning t w) (meaning t best.low)) r → MakesAmong s u below nodes r
    below-made u r m =
        among-after (among-in below nodes (inr (inl refl))) (has-made in-t)
        (diagram-agrees in-t.sound (difference-agrees t w best.low (valued-grows s t in-t.grows w value) (valued-grows s t in-t.grows best.low low) g.below have-t.below) m)

    pub below-fails : (u : Shown) (e : StoreFault) → MakesDiagram t u (at_each minus (meaning t w) (meaning t best.low)) (Err e) → MakesGaps g s u (Err e)
    below-fails u e m = failed e (below-made u (Err e) m)

    module _ (u : Shown) (b : Entry) (second : MakesDiagram t u (at_each minus (meaning t w) (meaning t best.low)) (Ok b)) where
      in-u : MakesAmong s u below nodes (Ok b)
      in-u = below-made u (Ok b) second

      above-u : StandsFor u a above
      above-u = stands-grows second.grows in-t.ok

      greater-made : (v : Shown) (r : Result Entry StoreFault) → MakesDiagram u v (at_each (λ x y. num_of int_max x y) (meaning u a) (meaning u b)) r → MakesAmong s v greater nodes r
      greater-made v r m =
          among-after (among-in greater nodes (inr (inr (inl refl)))) (has-made in-u)
          (diagram-agrees in-u.sound (record { at = λ x y i j. (λ n. num_of int_max (above-u.value.at x y i j n) (in-u.ok.value.at x y i j n)) }) m)

      pub greater-fails : (v : Shown) (e : StoreFault) → MakesDiagram u v (at_each (λ x y. num_of int_max x y) (meaning u a) (meaning u b)) (Err e) → MakesGaps g s v (Err e)
      greater-fails v e m = failed e (greater-made v (Err e) m)

      pub all-made : (v : Shown) (c : Entry) → MakesDiagram u v (at_each (λ x y. num_of int_max x y) (meaning u a) (meaning u b)) (Ok c) → MakesGaps g s v (Ok (record { above = a; below = b; greater = c }))
      all-made v c m =
          let done : MakesAmong s v greater nodes (Ok c) = greater-made v (Ok c) m in
          record {
            all = record { made = has-made done; fault = tt };
            ok = record { above = stands-grows m.grows above-u; below = stands-grows m.grows in-u.ok; greater = done.ok };
          }
