use Rattle.std.proofs.Common.{◌≡◌, List, ap, sym, ◌∙◌, subst}
use Rattle.spd_model.specs.Reduced.{Node}
use Rattle.spd_nodes.specs.declared.leaf.Leaf.{Leaf}
use Rattle.spd_nodes.specs.Levels.{slots}
use Rattle.spd_nodes.specs.States.{point}
use Rattle.spd_frozen.specs.Fits.{FitsSizes}
use Rattle.spd_frozen.specs.Frozen.{IsFrozen, leaf_at}
use Rattle.spd_frozen.proofs.MixedLaws.{mixed-is, mixed-fits, mixed-leaf}
use Rattle.spd_frozen.proofs.freezing.freeze_mixed.Goals as goal

pub of_nodes-requires : goal.of_nodes-requires
of_nodes-requires g c =
    let s = g.F.Forest.shows c.args.forest.now in
    subst IsFrozen (sym c.in_ok-complete_all.ensures.reduced) (mixed-is s c.in_ok-complete_all.ensures.layout c.args.r)

pub returns-clause-reduced : goal.returns-clause-reduced
returns-clause-reduced g c = c.of_nodes.ensures ∙ c.in_ok-complete_all.ensures.reduced

pub returns-clause-function : goal.returns-clause-function
returns-clause-function g c =
    let s = g.F.Forest.shows c.args.forest.now in
    λ x t h k. ap (λ (nodes : List (Node Leaf)). leaf_at nodes (point x t)) (c.of_nodes.ensures ∙ c.in_ok-complete_all.ensures.reduced) ∙ mixed-leaf s c.in_ok-complete_all.ensures.layout c.args.r x t h k

pub returns-clause-fits : goal.returns-clause-fits
returns-clause-fits g c =
    let s = g.F.Forest.shows c.args.forest.now in
    subst (FitsSizes (slots s.sizes)) (sym (c.of_nodes.ensures ∙ c.in_ok-complete_all.ensures.reduced)) (mixed-fits s c.in_ok-complete_all.ensures.layout c.args.r)
