-- The first value that a model was built into fits a forest over its variables.
use Rattle.std.proofs.Common.{◌≡◌, ℕ, ◌<◌, ◌≤◌, List, map, subst, All}
use Rattle.std.proofs.lemmas.List.Elements.{All-weaker}
use Rattle.spd_model.specs.Process.{Process}
use Rattle.spd_model.specs.Chances.{reward_of}
use Rattle.spd_model.specs.Numbers.{greatest}
use Rattle.spd_model.specs.States.{sizes}
use Rattle.spd_nodes.specs.declared.leaf.Leaf.TheVariants.{Num}
use Rattle.spd_nodes.specs.Shown.{Shown, IsSound}
use Rattle.spd_frozen.specs.Fits.{FitsSizes}
use Rattle.spd_frozen.proofs.CallerLemmas.{ArePositive, frozen-fits}
use Rattle.spd_build.specs.declared.built.Built.{Built}
use Rattle.spd_build.specs.Built.{IsBuilt}

module _ (s : Shown) (o : IsSound s) (m : Process) (same : s.sizes ≡ sizes m) (b : Built) (built : IsBuilt m b) where
  positive : ArePositive (sizes m)
  positive = subst ArePositive same (All-weaker (λ d. (0 < d) × (d ≤ 64)) (λ d. 0 < d) (λ d h. h.0) s.sizes o.layout.values)

  pub start-fits : FitsSizes s.sizes b.start
  start-fits = rw (same, built.start) (frozen-fits (sizes m) (λ z. Num (greatest (map (λ a. reward_of m a z) m.actions))) positive)
