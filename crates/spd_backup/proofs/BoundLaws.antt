-- The discounted expectation, added to the reward, is the bound; and both bounds are a backup.
use Rattle.std.proofs.Common.{◌≡◌, ℕ, ◌≤◌, ◌^◌, true, List, [], ◌∷◌, length, flat_map, get_or, refl, sym, ◌∙◌, ap, subst, arith, inl, inr, ℤ, pos, negsuc, ◌+ℤ◌, ◌*ℤ◌, Result, Ok, Err, IfOk}
use Rattle.std.proofs.lemmas.Bool.Decides.{Decides-ltb}
use Rattle.std.proofs.lemmas.Int.{ints}
use Rattle.spd_scaled.specs.Scaled.{IsWithin}
use Rattle.spd_cons_core.specs.declared.key.Entry.{Entry}
use Rattle.spd_model.specs.declared.process.Action.{Action}
use Rattle.spd_model.specs.Process.{Process}
use Rattle.spd_model.specs.Numbers.{numbers_below}
use Rattle.spd_model.specs.States.{sizes, IsState}
use Rattle.spd_model.specs.Chances.{discount_one, reward_of}
use Rattle.spd_model.specs.Backup.{expectation, return_of}
use Rattle.spd_model.specs.Turns.{value_limit}
use Rattle.spd_model.proofs.CallerLemmas.Bounded.{return_limited}
use Rattle.spd_model.proofs.CallerLemmas.StateOrder.{length-sizes}
use Rattle.spd_nodes.specs.declared.leaf.Leaf.TheVariants.{Num}
use Rattle.spd_nodes.specs.declared.forest.StoreFault.{StoreFault}
use Rattle.spd_nodes.specs.Shown.{Shown, IsSound, StandsFor, MakesAmong, MakesDiagram, meaning}
use Rattle.spd_nodes.specs.States.{Function, Agree}
use Rattle.spd_apply.specs.Operations.{in_i128, num_fits, num_of}
use Rattle.spd_apply.specs.Outcome.{FitEverywhere, at_each}
use Rattle.spd_weigh.specs.declared.way.Way.{Way}
use Rattle.spd_weigh.specs.Discounting.{discounted}
use Rattle.spd_weigh.specs.Leaves.{rounding_of, number_of, HasValues}
use Rattle.spd_weigh.specs.Weighing.{sum_out_functions}
use Rattle.spd_backup.specs.declared.thawed.Thawed.{Thawed}
use Rattle.spd_build.specs.Functions.{weights_of, reward}
use Rattle.spd_backup.specs.Expected.{expected, bound, backup_functions, AreExpected}
use Rattle.spd_backup.specs.Making.{Follows, MakesFirst, MakesBound}
use Rattle.spd_backup.proofs.BridgeLaws.{way-keeps, expected-all, has-values}
use Rattle.spd_backup.proofs.PartLaws.{reward-stands, is-offered}
use Rattle.spd_backup.proofs.StepLaws.{bound-in, expected-grows}
use Rattle.spd_nodes.proofs.CallerLemmas.{IsIn, among-then, diagram-agrees, grows-then, in-back, stands-grows, within-in}

within-i128 : (z : ℤ) → IsWithin (pos value_limit) z → in_i128 z ≡ true
within-i128 (pos n) h = (Decides-ltb n (2 ^ 127)).1 (omega (arith, ints, h.high))
within-i128 (negsuc n) h = (Decides-ltb n (2 ^ 127)).1 (omega (arith, ints, h.low))

module _ (way : Way) (m : Process) (a : Action) (w : List ℕ → ℤ) where
  -- the discounted expectation
  abbrev pub later : Function
  later = discounted way m.discount (expected way m a w (length m.vars))

  abbrev summing : List Function
  summing = flat_map (λ i. sum_out_functions way i (weights_of m a i) (expected way m a w i)) (numbers_below (length m.vars))

  later-in : IsIn later (backup_functions m a w)
  later-in = bound-in way m a w later (in-back later summing (later ∷ bound way m a w ∷ []) (inl refl))

  bound-last : IsIn (bound way m a w) (backup_functions m a w)
  bound-last = bound-in way m a w (bound way m a w) (in-back (bound way m a w) summing (later ∷ bound way m a w ∷ []) (inr (inl refl)))

  module _ (s : Shown) (o : IsSound s) (x : Thawed) (k : ℕ) (next : Entry) (f : Follows m a w s x k next) where
    layout : s.sizes ≡ sizes m
    layout = f.has.thawed.layout

    pub small-discount : x.g ≤ 999999
    small-discount = rw (f.has.thawed.discount) (f.has.thawed.law.discount)

    module _ (t : Shown) (e : Entry) (made : MakesFirst way m a w (length m.vars) s t (Ok e)) where
      there : t.sizes ≡ sizes m
      there = made.among.grows.sizes ∙ layout

      pub expected-values : HasValues t.sizes (meaning t e)
      expected-values =
          subst (λ (z : List ℕ). HasValues z (meaning t e)) (sym there)
          (has-values m a f.has.thawed.law f.has.thawed.valid (is-offered m a s x k f.has) way w f.bounded (length m.vars) (omega (arith, length-sizes m)) (meaning t e)
          (subst (λ (z : List ℕ). Agree z (meaning t e) (expected way m a w (length m.vars))) there made.among.ok.value))

      discount-agrees : Agree t.sizes (discounted way x.g (meaning t e)) later
      discount-agrees = record {
        at = λ y z p q.
            ap (λ g. Num (rounding_of way (pos g *ℤ number_of (meaning t e y z)) (pos discount_one))) f.has.thawed.discount
            ∙ ap (λ l. Num (rounding_of way (pos m.discount *ℤ number_of l) (pos discount_one))) (made.among.ok.value.at y z p q);
      }

      -- the discounted expectation is made
      pub later-made : (u : Shown) (r : Result Entry StoreFault) → MakesDiagram t u (discounted way x.g (meaning t e)) r → MakesAmong s u later (backup_functions m a w) r
      later-made u r h = among-then (within-in s.sizes later (backup_functions m a w) later-in) made.among (diagram-agrees made.among.sound discount-agrees h)

      module _ (u : Shown) (q : Entry) (h : MakesDiagram t u (discounted way x.g (meaning t e)) (Ok q)) (rr : Entry) (at : rr ≡ get_or x.rewards.items k rr) where
        among : MakesAmong s u later (backup_functions m a w) (Ok q)
        among = later-made u (Ok q) h

        here : u.sizes ≡ sizes m
        here = among.grows.sizes ∙ layout

        pub reward-here : StandsFor u rr (reward m a)
        reward-here = subst (λ z. StandsFor u z (reward m a)) (sym at) (stands-grows among.grows (reward-stands m a s x k f.has rr))

        sum-is : (y z : List ℕ) → IsState u.sizes y → IsState u.sizes z → at_each (num_of (λ b c. b +ℤ c)) (meaning u rr) (meaning u q) y z ≡ bound way m a w y z
        sum-is y z i j =
            (λ n. num_of (λ b c. b +ℤ c) (reward-here.value.at y z i j n) (among.ok.value.at y z i j n))
            ∙ ap (λ l. Num (reward_of m a y +ℤ rounding_of way (pos m.discount *ℤ number_of l) (pos discount_one))) (expected-all m a way w y z (rw here at j))

        -- no sum of a reward and a discounted expectation leaves 128 bits
        pub bound-fits : FitEverywhere (λ b c. num_fits (λ v z. v +ℤ z) b c) u rr q
        bound-fits = record {
          at = λ y z i j.
              (λ n. num_fits (λ b c. b +ℤ c) (reward-here.value.at y z i j n) (among.ok.value.at y z i j n))
              ∙ ap (λ l. in_i128 (reward_of m a y +ℤ rounding_of way (pos m.discount *ℤ number_of l) (pos discount_one))) (expected-all m a way w y z (rw here at j))
              ∙ within-i128 (return_of (rounding_of way) m (expectation (rounding_of way) m w) a y)
              (return_limited m f.has.thawed.law f.has.thawed.valid (rounding_of way) (way-keeps way) w f.bounded a (is-offered m a s x k f.has) y (rw here at i));
        }

        -- the bound is made
        pub bound-made : (v : Shown) (r : Result Entry StoreFault) → MakesDiagram u v (at_each (num_of (λ b c. b +ℤ c)) (meaning u rr) (meaning u q)) r → MakesBound way m a w s v r
        bound-made v r b =
            let all : MakesAmong s v (bound way m a w) (backup_functions m a w) r = among-then (within-in s.sizes (bound way m a w) (backup_functions m a w) bound-last) among (diagram-agrees among.sound (record { at = sum-is }) b) in
            record { among = all; known = known-all r (expected-grows (grows-then h.grows b.grows) made.known) }
          where
            known-all : {v : Shown} (r : Result Entry StoreFault) → AreExpected way m a w v (length m.vars) → IfOk r (λ _. AreExpected way m a w v (length m.vars))
            known-all (Ok q) h = h
            known-all (Err e) h = tt
