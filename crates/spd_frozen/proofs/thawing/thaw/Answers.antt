use Rattle.std.proofs.Common.{◌≡◌, List, map, subst, ap, sym, ◌∙◌}
use Rattle.std.proofs.lemmas.Simd.{map-map}
use Rattle.spd_model.specs.Reduced.{Node}
use Rattle.spd_nodes.specs.declared.leaf.Leaf.{Leaf}
use Rattle.spd_nodes.specs.Levels.{slots}
use Rattle.spd_nodes.specs.States.{Agree, point}
use Rattle.spd_nodes.proofs.CallerLemmas.{diagram-agrees}
use Rattle.spd_frozen.specs.declared.node.Node.{Node as StoredNode}
use Rattle.spd_frozen.specs.Fits.{FitsSizes}
use Rattle.spd_frozen.specs.Frozen.{IsFrozen, leaf_at}
use Rattle.spd_frozen.specs.Mixed.{on_plain_slot}
use Rattle.spd_frozen.specs.Nodes.{shown}
use Rattle.spd_frozen.specs.Thawing.{frozen_function, mixed_function}
use Rattle.spd_frozen.proofs.PlainLaws.{plain-frozen, plain-fits, plain-leaf}
use Rattle.spd_frozen.proofs.thawing.thaw.Goals as goal

pub thaw_nodes-requires-clause-frozen : goal.thaw_nodes-requires-clause-frozen
thaw_nodes-requires-clause-frozen g c =
    let list : map on_plain_slot c.args.f.now ≡ map (λ (n : StoredNode). on_plain_slot (shown n)) c.nodes.result.now = ap (map on_plain_slot) (sym c.nodes.ensures.nodes) ∙ map-map on_plain_slot shown c.nodes.result.now in
    subst IsFrozen list (plain-frozen c.args.f.now c.nodes.ensures.frozen)

pub thaw_nodes-requires-clause-fits : goal.thaw_nodes-requires-clause-fits
thaw_nodes-requires-clause-fits g c =
    let s = g.F.Forest.shows c.args.forest.now in
    let list : map on_plain_slot c.args.f.now ≡ map (λ (n : StoredNode). on_plain_slot (shown n)) c.nodes.result.now = ap (map on_plain_slot) (sym c.nodes.ensures.nodes) ∙ map-map on_plain_slot shown c.nodes.result.now in
    subst (FitsSizes (slots s.sizes)) list (plain-fits s.sizes c.args.f.now c.requires)

pub returns-clause-made : goal.returns-clause-made
returns-clause-made g c =
    let s = g.F.Forest.shows c.args.forest.now in
    let list : map on_plain_slot c.args.f.now ≡ map (λ (n : StoredNode). on_plain_slot (shown n)) c.nodes.result.now = ap (map on_plain_slot) (sym c.nodes.ensures.nodes) ∙ map-map on_plain_slot shown c.nodes.result.now in
    let same : Agree s.sizes (mixed_function (map (λ (n : StoredNode). on_plain_slot (shown n)) c.nodes.result.now)) (frozen_function c.args.f.now) = record {
      at = λ x t i j. ap (λ (nodes : List (Node Leaf)). leaf_at nodes (point x t)) (sym list) ∙ plain-leaf s.sizes x t c.args.f.now i j;
    } in
    diagram-agrees c.layout.ensures.sound same c.thaw_nodes.ensures.made
