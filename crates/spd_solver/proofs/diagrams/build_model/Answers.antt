use Rattle.std.proofs.Common.{◌∙◌, sym, ap, subst}
use Rattle.spd_nodes.specs.Store.{Held, shown}
use Rattle.spd_solver.specs.declared.command.Way.TheVariants.{Diagrams}
use Rattle.spd_solver.specs.declared.solving.Unsolved.{Unsolved}
use Rattle.spd_solver.specs.inner.Stages.{IsUnsolved}
use Rattle.spd_solver.proofs.BuildLaws.{build-placed, build-unsolved}
use Rattle.spd_solver.proofs.diagrams.build_model.Goals as goal

pub named-requires : goal.named-requires
named-requires c = build-placed c.args.model.now (shown c.build_in.new.forest) c.in-Err.fault c.in-Err.ensures.built.fault

pub returns-clause-refused : goal.returns-clause-refused
returns-clause-refused c =
    let empty = c.in_ok-forest.ensures.ok in
    subst (λ (why : Unsolved). IsUnsolved Diagrams c.args.model.now c.args.options why) (sym c.in_ok-named-in-Err.ensures)
    (build-unsolved c.args.model.now c.args.options c.in_ok-forest.forest c.build_in.new.forest
    (ap (λ (h : Held). h.sizes) empty ∙ c.in_ok-layout.ensures) (ap (λ (h : Held). h.keys) empty) (c.in-Err.ensures.limit ∙ ap (λ (h : Held). h.limit) empty)
    c.in-Err.fault c.in-Err.ensures.built)
