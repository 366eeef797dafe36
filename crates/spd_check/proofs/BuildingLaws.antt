-- Why building a process in a forest of its own fails.
use Rattle.std.proofs.Common.{◌≡◌, ℕ, ◌<◌, [], List, ℤ, Err, refl, ap, arith}
use Rattle.spd_model.specs.Process.{Process}
use Rattle.spd_model.specs.States.{sizes}
use Rattle.spd_nodes.specs.States.{Function}
use Rattle.spd_nodes.specs.Store.{Held, shown}
use Rattle.spd_build.specs.declared.built.BuildFault.{BuildFault}
use Rattle.spd_build.specs.declared.built.BuildFault.TheVariants as B
use Rattle.spd_build.specs.Built.{Builds}
use Rattle.spd_build.specs.Functions.{building_functions}
use Rattle.spd_turn.specs.Turn.{count_nodes}
use Rattle.spd_turn.proofs.CallerLemmas.{store-more-nodes}
use Rattle.spd_check.specs.Faults.{IsFaultOf}
use Rattle.spd_check.specs.inner.Judging.{told_build_fault}

module _ (m : Process) (begun h : Held) (limit : ℕ) (layout : begun.sizes ≡ sizes m) (empty : begun.keys ≡ []) (same : h.limit ≡ limit) where
  abbrev building : List Function
  building = building_functions m

  building-full : Builds m (shown begun) (shown h) (Err B.Full) → limit < count_nodes (sizes m) building
  building-full built =
      let more : h.limit < count_nodes begun.sizes building = store-more-nodes begun h building empty built.made built.fault in
      let count : count_nodes begun.sizes building ≡ count_nodes (sizes m) building = ap (λ z. count_nodes z building) layout in
      omega (arith, more, same, count)

  pub building-fault : (w : List ℕ → ℤ) (policy : List ℕ → ℕ) (fault : BuildFault) → Builds m (shown begun) (shown h) (Err fault) → IsFaultOf m w policy limit (told_build_fault limit fault)
  building-fault w policy (B.Sum action var state sum) built = built.fault
  building-fault w policy (B.Range action state value) built = built.fault
  building-fault w policy B.Full built = (refl, building-full built)
  building-fault w policy B.Memory built = tt
