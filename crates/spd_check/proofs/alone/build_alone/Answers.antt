use Rattle.std.proofs.Common.{◌∙◌, sym, ap, subst}
use Rattle.spd_nodes.specs.Store.{Held}
use Rattle.spd_check.specs.declared.verdict.CheckFault.{CheckFault}
use Rattle.spd_check.specs.Faults.{IsFaultOf}
use Rattle.spd_check.proofs.BuildingLaws.{building-fault}
use Rattle.spd_check.proofs.alone.build_alone.Goals as goal

pub returns-clause-fault : goal.returns-clause-fault
returns-clause-fault c w policy =
    let empty = c.in_ok-forest.ensures.ok in
    subst (λ (fault : CheckFault). IsFaultOf c.args.model.now w policy c.args.node_limit fault) (sym c.told_build_fault.ensures)
    (building-fault c.args.model.now c.in_ok-forest.forest c.build_uncounted.new.forest c.args.node_limit
    (ap (λ (h : Held). h.sizes) empty ∙ c.in_ok-layout.ensures) (ap (λ (h : Held). h.keys) empty) (c.in-Err.ensures.limit ∙ ap (λ (h : Held). h.limit) empty)
    w policy c.in-Err.fault c.in-Err.ensures.built)
