-- What calls on a forest have made so far.
use Rattle.std.specs.Prelude.{List, Result, IfErr}
use Rattle.spd_nodes.specs.declared.forest.StoreFault.{StoreFault}
use Rattle.spd_nodes.specs.States.{Function}
use Rattle.spd_nodes.specs.Shown.{Shown, IsSound, Grows, MakesNodesOf, FaultsAt}

-- A forest is sound, shows all that it showed, and published since only nodes of some functions.
pub record HasMade (old new : Shown) (nodes : List Function) : Type 0 where
  pub sound : IsSound new
  pub grows : Grows old new
  pub makes : MakesNodesOf old new nodes

-- A call that makes several diagrams: whatever it answers, it made nodes of some functions alone, and Full comes only where the
-- forest is full and lacks one of those nodes.
pub record MakesAll {A : Type 0} (old new : Shown) (nodes : List Function) (result : Result A StoreFault) : Type 0 where
  pub made : HasMade old new nodes
  pub fault : IfErr result (λ e. FaultsAt e new nodes)
