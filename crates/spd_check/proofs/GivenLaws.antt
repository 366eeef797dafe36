-- The diagrams with which a check begins, made one after the other.
use Rattle.std.proofs.Common.{◌≡◌, ℕ, ◌<◌, List, [], ◌∷◌, length, refl, sym, ◌∙◌, subst, inl, inr, ℤ, pos, Result, Ok, Err}
use Rattle.spd_scaled.specs.Scaled.{IsWithin}
use Rattle.spd_cons_core.specs.declared.key.Entry.{Entry}
use Rattle.spd_model.specs.Process.{Process}
use Rattle.spd_model.specs.Lawful.{IsLawful}
use Rattle.spd_model.specs.Chances.{IsValid}
use Rattle.spd_model.specs.Reduced.{Node}
use Rattle.spd_model.specs.States.{sizes, IsState}
use Rattle.spd_model.specs.Turns.{value_limit}
use Rattle.spd_nodes.specs.declared.forest.StoreFault.{StoreFault}
use Rattle.spd_nodes.specs.declared.leaf.Leaf.{Leaf}
use Rattle.spd_nodes.specs.declared.leaf.Leaf.TheVariants.{Num, Pair, Act}
use Rattle.spd_nodes.specs.Made.{HasMade}
use Rattle.spd_nodes.specs.Shown.{Shown, StandsFor, MakesAmong, MakesDiagram}
use Rattle.spd_nodes.specs.States.{Function}
use Rattle.spd_nodes.proofs.CallerLemmas.{Among, among-after, among-front, diagram-agrees, fault-wider, grows-then, has-made, has-wider, in-back, stands-grows}
use Rattle.spd_frozen.specs.Fits.{FitsSizes, IsValue, IsChoice}
use Rattle.spd_frozen.specs.Frozen.{IsFrozen, leaf_at}
use Rattle.spd_frozen.specs.Thawing.{frozen_function}
use Rattle.spd_frozen.specs.Told.{number_of, action_of}
use Rattle.spd_backup.specs.declared.thawed.Thawed.{Thawed}
use Rattle.spd_backup.specs.FromBuilt.{ThawsProcess, process_functions}
use Rattle.spd_backup.proofs.CallerLemmas.{thawed-grows}
use Rattle.spd_residual.specs.Residual.{IsValueOfState}
use Rattle.spd_residual.proofs.CallerLemmas.{value-of-state}
use Rattle.spd_turn.specs.Turn.{present_value}
use Rattle.spd_turn.proofs.CallerLemmas.{stands-plain}
use Rattle.spd_check.specs.Certificates.{AreOf, value_by, policy_by}
use Rattle.spd_check.specs.Functions.{chosen, given_functions}
use Rattle.spd_check.specs.inner.Judging.{CanCheck, MakesGiven}
use Rattle.spd_check.proofs.HighestLaws.{one-among}
use Rattle.spd_check.proofs.ListLaws.{leaf-has}

-- ---- leaves of values and of policies

-- a leaf of a value is a number within limits
value-is : (a : Leaf) → IsValue a → (a ≡ Num (number_of a)) × IsWithin (pos value_limit) (number_of a)
value-is (Num x) h = (refl, h)
value-is (Pair x y) h = absurd h
value-is (Act x) h = absurd h

-- a leaf of a policy is an action
choice-is : (n : ℕ) (a : Leaf) → IsChoice n a → (a ≡ Act (action_of a)) × (action_of a < n)
choice-is n (Num x) h = absurd h
choice-is n (Pair x y) h = absurd h
choice-is n (Act x) h = (refl, h)

module _ (m : Process) (value policy : List (Node Leaf)) (frozen_value : IsFrozen value) (frozen_policy : IsFrozen policy) (fit : AreOf m value policy) where
  value-leaf : (x : List ℕ) → IsState (sizes m) x → IsValue (leaf_at value x)
  value-leaf x i = leaf-has IsValue (sizes m) x i value frozen_value fit.value_fits fit.values

  policy-leaf : (x : List ℕ) → IsState (sizes m) x → IsChoice (length m.actions) (leaf_at policy x)
  policy-leaf x i = leaf-has (IsChoice (length m.actions)) (sizes m) x i policy frozen_policy fit.policy_fits fit.choices

  -- a certificate that fits a process may be checked
  pub can-check : IsLawful m → IsValid m → CanCheck m (value_by value) (policy_by policy)
  can-check law valid = record {
    law = law;
    valid = valid;
    bounded = λ x i. (value-is (leaf_at value x) (value-leaf x i)).1;
    named = λ x i. (choice-is (length m.actions) (leaf_at policy x) (policy-leaf x i)).1;
  }

  -- ---- one after the other

  module _ (law : IsLawful m) (valid : IsValid m) (s : Shown) (same : s.sizes ≡ sizes m) where
    abbrev w : List ℕ → ℤ
    w = value_by value

    abbrev acts : List ℕ → ℕ
    acts = policy_by policy

    abbrev nodes : List Function
    nodes = given_functions m w acts

    among-parts : Among (process_functions m) nodes
    among-parts = among-front (process_functions m) (present_value w ∷ chosen acts ∷ [])

    pub process-fails : (t : Shown) (e : StoreFault) → ThawsProcess m s t (Err e) → MakesGiven m w acts s t (Err e)
    process-fails t e h = record { made = record { made = has-wider among-parts h.made.made; fault = fault-wider e t among-parts h.made.fault }; ok = tt }

    module _ (t : Shown) (x : Thawed) (h : ThawsProcess m s t (Ok x)) where
      pub layout-t : t.sizes ≡ sizes m
      layout-t = h.made.made.grows.sizes ∙ same

      pub fits-t : FitsSizes t.sizes value
      fits-t = subst (λ z. FitsSizes z value) (sym layout-t) fit.value_fits

      made-t : HasMade s t nodes
      made-t = has-wider among-parts h.made.made

      value-made : (u : Shown) (r : Result Entry StoreFault) → MakesDiagram t u (frozen_function value) r → MakesAmong s u (present_value w) nodes r
      value-made u r d =
          among-after (one-among (present_value w) nodes (in-back (present_value w) (process_functions m) (present_value w ∷ chosen acts ∷ []) (inl refl))) made-t
          (diagram-agrees h.made.made.sound (record { at = λ y z p q. (value-is (leaf_at value y) (value-leaf y (subst (λ k. IsState k y) layout-t p))).0 }) d)

      pub value-fails : (u : Shown) (e : StoreFault) → MakesDiagram t u (frozen_function value) (Err e) → MakesGiven m w acts s u (Err e)
      value-fails u e d = let g = value-made u (Err e) d in record { made = record { made = has-made g; fault = g.fault }; ok = tt }

      module _ (u : Shown) (r : Entry) (d : MakesDiagram t u (frozen_function value) (Ok r)) where
        in-u : MakesAmong s u (present_value w) nodes (Ok r)
        in-u = value-made u (Ok r) d

        pub layout-u : u.sizes ≡ sizes m
        layout-u = d.grows.sizes ∙ layout-t

        pub fits-u : FitsSizes u.sizes policy
        fits-u = subst (λ z. FitsSizes z policy) (sym layout-u) fit.policy_fits

        policy-made : (v : Shown) (q : Result Entry StoreFault) → MakesDiagram u v (frozen_function policy) q → MakesAmong s v (chosen acts) nodes q
        policy-made v q k =
            among-after (one-among (chosen acts) nodes (in-back (chosen acts) (process_functions m) (present_value w ∷ chosen acts ∷ []) (inr (inl refl)))) (has-made in-u)
            (diagram-agrees in-u.sound (record { at = λ y z p i. (choice-is (length m.actions) (leaf_at policy y) (policy-leaf y (subst (λ j. IsState j y) layout-u p))).0 }) k)

        pub policy-fails : (v : Shown) (e : StoreFault) → MakesDiagram u v (frozen_function policy) (Err e) → MakesGiven m w acts s v (Err e)
        policy-fails v e k = let g = policy-made v (Err e) k in record { made = record { made = has-made g; fault = g.fault }; ok = tt }

        pub given-made : (v : Shown) (q : Entry) → MakesDiagram u v (frozen_function policy) (Ok q) → MakesGiven m w acts s v (Ok (record { thawed = x; w = r; act = q }))
        given-made v q k =
            let g : MakesAmong s v (chosen acts) nodes (Ok q) = policy-made v (Ok q) k in
            let stands : StandsFor v r (present_value w) = stands-grows k.grows in-u.ok in
            let layout : v.sizes ≡ sizes m = k.grows.sizes ∙ layout-u in
            let within : IsValueOfState v r = value-of-state v r w stands (λ y p. (value-is (leaf_at value y) (value-leaf y (subst (λ j. IsState j y) layout p))).1) in
            record {
              made = record { made = has-made g; fault = tt };
              ok = record {
                can = record {
                  thawed = thawed-grows m t v x (grows-then d.grows k.grows) h.ok;
                  known = stands.knows;
                  whole = stands.whole;
                  plain = stands-plain v r (λ y. Num (w y)) stands;
                  values = within.valued.values;
                  numbers = record { at = λ y p. stands.value.at y y p p };
                };
                value = stands;
                act = g.ok;
              };
            }
