-- The diagrams of both gaps, made one after the other.
use Rattle.std.proofs.Common.{ℕ, List, refl, inl, inr, ℤ, ◌-ℤ◌, Result, Ok, Err}
use Rattle.spd_cons_core.specs.declared.key.Entry.{Entry}
use Rattle.spd_model.specs.Process.{Process}
use Rattle.spd_model.specs.Backup.{best_high}
use Rattle.spd_nodes.specs.declared.leaf.Leaf.{Leaf}
use Rattle.spd_nodes.specs.declared.forest.StoreFault.{StoreFault}
use Rattle.spd_nodes.specs.Shown.{Shown, IsSound, StandsFor, MakesAmong, MakesDiagram, meaning}
use Rattle.spd_nodes.specs.States.{Function}
use Rattle.spd_nodes.proofs.CallerLemmas.{among-after, diagram-agrees, has-made, has-none, stands-grows}
use Rattle.spd_apply.specs.Operations.{num_of}
use Rattle.spd_apply.specs.Outcome.{at_each}
use Rattle.spd_build.specs.Functions.{numbers}
use Rattle.spd_turn.specs.Turn.{present_value}
use Rattle.spd_check.specs.Certificates.{own_low}
use Rattle.spd_check.specs.Functions.{gap_functions}
use Rattle.spd_check.specs.inner.Judging.{MakesGaps}
use Rattle.spd_check.proofs.HighestLaws.{one-among}

abbrev difference : Leaf → Leaf → Leaf
difference a b = num_of (λ x y. x -ℤ y) a b

-- the difference of two numbers of the present state
difference-made : (s t : Shown) → IsSound s → (f g : Entry) (a b : List ℕ → ℤ) → StandsFor s f (numbers (λ x y. a x)) → StandsFor s g (numbers (λ x y. b x)) → (r : Result Entry StoreFault)
    → MakesDiagram s t (at_each difference (meaning s f) (meaning s g)) r → MakesDiagram s t (numbers (λ x y. a x -ℤ b x)) r
difference-made s t o f g a b h k r d = diagram-agrees o (record { at = λ x y i j. (λ n. difference (h.value.at x y i j n) (k.value.at x y i j n)) }) d

module _ (m : Process) (value : List ℕ → ℤ) (policy : List ℕ → ℕ) (s : Shown) (o : IsSound s) (w high own : Entry)
    (at_w : StandsFor s w (present_value value)) (at_high : StandsFor s high (numbers (λ x y. best_high m value x))) (at_own : StandsFor s own (numbers (λ x y. own_low m value policy x))) where
  abbrev nodes : List Function
  nodes = gap_functions m value policy

  abbrev above : Function
  above = numbers (λ x y. best_high m value x -ℤ value x)

  abbrev below : Function
  below = numbers (λ x y. value x -ℤ own_low m value policy x)

  above-made : (t : Shown) (r : Result Entry StoreFault) → MakesDiagram s t (at_each difference (meaning s high) (meaning s w)) r → MakesAmong s t above nodes r
  above-made t r d = among-after (one-among above nodes (inl refl)) (has-none s o nodes) (difference-made s t o high w (best_high m value) value at_high at_w r d)

  pub above-fails : (t : Shown) (e : StoreFault) → MakesDiagram s t (at_each difference (meaning s high) (meaning s w)) (Err e) → MakesGaps m value policy s t (Err e)
  above-fails t e d = let g = above-made t (Err e) d in record { made = record { made = has-made g; fault = g.fault }; ok = tt }

  module _ (t : Shown) (a : Entry) (first : MakesDiagram s t (at_each difference (meaning s high) (meaning s w)) (Ok a)) where
    in-t : MakesAmong s t above nodes (Ok a)
    in-t = above-made t (Ok a) first

    below-made : (u : Shown) (r : Result Entry StoreFault) → MakesDiagram t u (at_each difference (meaning t w) (meaning t own)) r → MakesAmong s u below nodes r
    below-made u r d =
        among-after (one-among below nodes (inr (inl refl))) (has-made in-t)
        (difference-made t u in-t.sound w own value (own_low m value policy) (stands-grows in-t.grows at_w) (stands-grows in-t.grows at_own) r d)

    pub below-fails : (u : Shown) (e : StoreFault) → MakesDiagram t u (at_each difference (meaning t w) (meaning t own)) (Err e) → MakesGaps m value policy s u (Err e)
    below-fails u e d = let g = below-made u (Err e) d in record { made = record { made = has-made g; fault = g.fault }; ok = tt }

    pub gaps-made : (u : Shown) (b : Entry) → MakesDiagram t u (at_each difference (meaning t w) (meaning t own)) (Ok b) → MakesGaps m value policy s u (Ok (record { above = a; below = b }))
    gaps-made u b d =
        let g = below-made u (Ok b) d in
        record {
          made = record { made = has-made g; fault = tt };
          ok = record { above = stands-grows d.grows in-t.ok; below = g.ok };
        }
