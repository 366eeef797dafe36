-- The parts of a turn, thawed one after the other.
use Rattle.std.proofs.Common.{◌≡◌, ℕ, ◌<◌, List, [], ◌∷◌, map, ◌∙◌, ap, subst, ℤ, Result, Ok, Err, All}
use Rattle.std.proofs.lemmas.List.Elements.{All-nil, All-cons, All-head, All-tail}
use Rattle.spd_cons_core.specs.declared.key.Entry.{Entry}
use Rattle.spd_model.specs.declared.process.Action.{Action}
use Rattle.spd_model.specs.Process.{Process}
use Rattle.spd_model.specs.Lawful.{IsLawful}
use Rattle.spd_model.specs.Chances.{reward_of}
use Rattle.spd_model.specs.Reduced.{Node}
use Rattle.spd_model.specs.States.{sizes, IsState}
use Rattle.spd_model.proofs.CallerLemmas.StateOrder.{sizes_some}
use Rattle.spd_nodes.specs.declared.forest.StoreFault.{StoreFault}
use Rattle.spd_nodes.specs.declared.leaf.Leaf.{Leaf}
use Rattle.spd_nodes.specs.declared.leaf.Leaf.TheVariants.{Num}
use Rattle.spd_nodes.specs.Levels.{slots}
use Rattle.spd_nodes.specs.Made.{HasMade}
use Rattle.spd_nodes.specs.Shown.{Shown, StandsFor, MakesDiagram}
use Rattle.spd_nodes.specs.States.{Function, plain_part, primed_part}
use Rattle.spd_nodes.proofs.CallerLemmas.{Among, among-back, among-front, diagram-agrees, fault-wider, has-made, has-then, has-wider, part-failed}
use Rattle.spd_frozen.specs.Fits.{FitsSizes}
use Rattle.spd_frozen.specs.Mixed.{mixed_of}
use Rattle.spd_frozen.specs.Thawing.{frozen_function}
use Rattle.spd_frozen.proofs.CallerLemmas.{ArePositive, frozen-fits, frozen-leaf_at}
use Rattle.spd_build.specs.declared.built.Built.{Built}
use Rattle.spd_build.specs.Built.{IsBuilt, frozen_numbers}
use Rattle.spd_build.specs.Functions.{all_weights}
use Rattle.spd_backup.specs.declared.thawed.Thawed.{Thawed}
use Rattle.spd_backup.specs.FromBuilt.{ThawsProcess, process_functions}
use Rattle.spd_residual.specs.Residual.{IsValueOfState}
use Rattle.spd_residual.proofs.CallerLemmas.{value-of-state}
use Rattle.spd_turn.specs.Parts.{IsValueList, MakesParts, carried_functions}
use Rattle.spd_turn.specs.Turn.{present_value}
use Rattle.spd_turn.proofs.PlainLaws.{stands-plain}
use Rattle.spd_turn.proofs.SplitLaws.{grows-keeps, thawed-keeps}

-- ---- what was built fits

slots-positive : (ds : List ℕ) → ArePositive ds → ArePositive (slots ds)
slots-positive [] h = All-nil (λ d. 0 < d)
slots-positive (d ∷ ds) h =
    let first : 0 < d = All-head (λ d. 0 < d) d ds h in
    All-cons (λ d. 0 < d) d (d ∷ slots ds) first (All-cons (λ d. 0 < d) d (slots ds) first (slots-positive ds (All-tail (λ d. 0 < d) d ds h)))

mixed-fit : (sz : List ℕ) → ArePositive (slots sz) → (fs : List Function) → All (FitsSizes (slots sz)) (map (mixed_of sz) fs)
mixed-fit sz some [] = All-nil (FitsSizes (slots sz))
mixed-fit sz some (f ∷ fs) =
    All-cons (FitsSizes (slots sz)) (mixed_of sz f) (map (mixed_of sz) fs) (frozen-fits (slots sz) (λ p. f (plain_part p) (primed_part p)) some) (mixed-fit sz some fs)

lists-fit : (m : Process) → ArePositive (sizes m) → (actions : List Action) → All (FitsSizes (sizes m)) (map (λ a. frozen_numbers m (reward_of m a)) actions)
lists-fit m some [] = All-nil (FitsSizes (sizes m))
lists-fit m some (a ∷ actions) =
    All-cons (FitsSizes (sizes m)) (frozen_numbers m (reward_of m a)) (map (λ b. frozen_numbers m (reward_of m b)) actions) (frozen-fits (sizes m) (λ z. Num (reward_of m a z)) some) (lists-fit m some actions)

module _ (m : Process) (law : IsLawful m) (s : Shown) (same : s.sizes ≡ sizes m) where
  pub weights-fit : (b : Built) → IsBuilt m b → All (FitsSizes (slots s.sizes)) b.weights.items
  weights-fit b built = rw (same, built.weights) (mixed-fit (sizes m) (slots-positive (sizes m) (sizes_some m law)) (all_weights m))

  pub rewards-fit : (b : Built) → IsBuilt m b → All (FitsSizes s.sizes) b.rewards.items
  rewards-fit b built = rw (same, built.rewards) (lists-fit m (sizes_some m law) m.actions)

  -- ---- one after the other

  module _ (v : List ℕ → ℤ) (nodes : List (Node Leaf)) (is : IsValueList m v nodes) where
    pub value-fits : FitsSizes s.sizes nodes
    value-fits = rw (same, is.list) (frozen-fits (sizes m) (λ x. Num (v x)) (sizes_some m law))

    among-process : Among (process_functions m) (carried_functions m v)
    among-process = among-front (process_functions m) (present_value v ∷ [])

    among-value : Among (present_value v ∷ []) (carried_functions m v)
    among-value = among-back (process_functions m) (present_value v ∷ [])

    pub process-fails : (t : Shown) (e : StoreFault) → ThawsProcess m s t (Err e) → MakesParts m v s t (Err e)
    process-fails t e h = record { made = record { made = has-wider among-process h.made.made; fault = fault-wider e t among-process h.made.fault }; ok = tt }

    module _ (t : Shown) (x : Thawed) (h : ThawsProcess m s t (Ok x)) where
      process-made : HasMade s t (carried_functions m v)
      process-made = has-wider among-process h.made.made

      value-made : (u : Shown) (r : Result Entry StoreFault) → MakesDiagram t u (frozen_function nodes) r → MakesDiagram t u (present_value v) r
      value-made u r d =
          diagram-agrees h.made.made.sound
          (record { at = λ y z p q. ap (λ l. frozen_function l y z) is.list ∙ frozen-leaf_at (sizes m) (λ x. Num (v x)) (sizes_some m law) y (subst (λ z. IsState z y) (h.made.made.grows.sizes ∙ same) p) }) d

      pub value-fails : (u : Shown) (e : StoreFault) → MakesDiagram t u (frozen_function nodes) (Err e) → MakesParts m v s u (Err e)
      value-fails u e d = record { made = part-failed e among-value process-made (value-made u (Err e) d); ok = tt }

      pub parts-made : (u : Shown) (w : Entry) → MakesDiagram t u (frozen_function nodes) (Ok w) → MakesParts m v s u (Ok (record { thawed = x; w = w }))
      parts-made u w d =
          let own : MakesDiagram t u (present_value v) (Ok w) = value-made u (Ok w) d in
          let stands : StandsFor u w (present_value v) = own.ok in
          let layout : u.sizes ≡ sizes m = own.grows.sizes ∙ h.made.made.grows.sizes ∙ same in
          let within : IsValueOfState u w = value-of-state u w v stands (λ y p. is.bounded y (subst (λ z. IsState z y) layout p)) in
          record {
            made = record { made = has-then among-value process-made (has-made own); fault = tt };
            ok = record {
              can = record {
                thawed = thawed-keeps t u (grows-keeps own.grows) m x h.ok;
                known = stands.knows;
                whole = stands.whole;
                plain = stands-plain u w (λ y. Num (v y)) stands;
                values = within.valued.values;
                numbers = record { at = λ y p. stands.value.at y y p p };
              };
              stands = stands;
            };
          }
