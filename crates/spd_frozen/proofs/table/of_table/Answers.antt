use Rattle.spd_model.specs.Reduced.{Node}
use Rattle.spd_nodes.specs.declared.leaf.Leaf.{Leaf}
use Rattle.std.proofs.Common.{◌≡◌, List, ap, sym, ◌∙◌, subst}
use Rattle.spd_model.proofs.CallerLemmas.StateOrder.{sizes_some}
use Rattle.spd_model.specs.Lawful.{IsLawful}
use Rattle.spd_model.specs.States.{sizes}
use Rattle.spd_frozen.specs.Frozen.{entry_at, IsFrozen, leaf_at, diagrams}
use Rattle.spd_frozen.specs.Fits.{FitsSizes}
use Rattle.spd_frozen.specs.inner.Unique.{sizes_of}
use Rattle.spd_frozen.proofs.FrozenLaws.{frozen-is, frozen-fits, frozen-leaf_at, table-list}
use Rattle.spd_frozen.proofs.table.of_table.Goals as goal

pub of_nodes-requires : goal.of_nodes-requires
of_nodes-requires c =
    let m = c.args.model.now in
    let same : sizes_of c.as_slice.result.now ≡ sizes m = ap sizes_of c.as_slice.ensures ∙ ap sizes c.model.view_is in
    let list = table-list _ (diagrams c.root.new.table) c.new-table.result (sizes_of c.as_slice.result.now) (sizes m) c.args.leaves.now c.in_ok-into_nodes.ensures c.in_ok-root.ensures.0 c.new-table.ensures same in
    let some = sizes_some m (subst IsLawful c.model.view_is c.model.invariant) in
    subst IsFrozen (sym list) (frozen-is (sizes m) (entry_at (sizes m) c.args.leaves.now) some)

pub returns-clause-function : goal.returns-clause-function
returns-clause-function c =
    let m = c.args.model.now in
    let same : sizes_of c.as_slice.result.now ≡ sizes m = ap sizes_of c.as_slice.ensures ∙ ap sizes c.model.view_is in
    let list = table-list _ (diagrams c.root.new.table) c.new-table.result (sizes_of c.as_slice.result.now) (sizes m) c.args.leaves.now c.in_ok-into_nodes.ensures c.in_ok-root.ensures.0 c.new-table.ensures same in
    let some = sizes_some m (subst IsLawful c.model.view_is c.model.invariant) in
    λ s h. ap (λ (nodes : List (Node Leaf)). leaf_at nodes s) (c.of_nodes.ensures ∙ list) ∙ frozen-leaf_at (sizes m) (entry_at (sizes m) c.args.leaves.now) some s h

pub returns-clause-fits : goal.returns-clause-fits
returns-clause-fits c =
    let m = c.args.model.now in
    let same : sizes_of c.as_slice.result.now ≡ sizes m = ap sizes_of c.as_slice.ensures ∙ ap sizes c.model.view_is in
    let list = table-list _ (diagrams c.root.new.table) c.new-table.result (sizes_of c.as_slice.result.now) (sizes m) c.args.leaves.now c.in_ok-into_nodes.ensures c.in_ok-root.ensures.0 c.new-table.ensures same in
    let some = sizes_some m (subst IsLawful c.model.view_is c.model.invariant) in
    subst (FitsSizes (sizes m)) (sym (c.of_nodes.ensures ∙ list)) (frozen-fits (sizes m) (entry_at (sizes m) c.args.leaves.now) some)
