-- A check that found a forest full that had no entry before tells that its functions have more nodes than the limit.
use Rattle.std.proofs.Common.{◌≡◌, ℕ, ◌<◌, List, [], ap, subst, arith, ℤ, Result, Err, IfErr}
use Rattle.spd_model.specs.Process.{Process}
use Rattle.spd_model.specs.States.{sizes}
use Rattle.spd_nodes.specs.declared.forest.StoreFault.{StoreFault}
use Rattle.spd_nodes.specs.declared.forest.StoreFault.TheVariants as F
use Rattle.spd_nodes.specs.Made.{MakesAll}
use Rattle.spd_nodes.specs.Shown.{FaultsAt}
use Rattle.spd_nodes.specs.States.{Function}
use Rattle.spd_nodes.specs.Store.{Held, shown}
use Rattle.spd_turn.specs.Turn.{count_nodes}
use Rattle.spd_turn.proofs.CallerLemmas.{store-more-nodes}
use Rattle.spd_check.specs.Functions.{check_count, check_functions}

pub check-full : {A : Type 0} (m : Process) (w : List ℕ → ℤ) (policy : List ℕ → ℕ) (begun h : Held) (limit : ℕ) → begun.sizes ≡ sizes m → begun.keys ≡ [] → h.limit ≡ limit
    → (r : Result A StoreFault) → r ≡ Err F.Full → MakesAll (shown begun) (shown h) (check_functions m w policy) r → limit < check_count m w policy
check-full {A = A} m w policy begun h limit layout empty same r is made =
    let fs : List Function = check_functions m w policy in
    let fault : FaultsAt F.Full (shown h) fs = subst (λ (z : Result A StoreFault). IfErr z (λ e. FaultsAt e (shown h) fs)) is made.fault in
    let more : h.limit < count_nodes begun.sizes fs = store-more-nodes begun h fs empty made.made fault in
    let count : count_nodes begun.sizes fs ≡ check_count m w policy = ap (λ z. count_nodes z fs) layout in
    omega (arith, more, same, count)
