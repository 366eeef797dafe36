use Rattle.std.proofs.Common.{◌≡◌, ℕ, List, ap, sym, ◌∙◌, subst}
use Rattle.spd_model.specs.Reduced.{Node}
use Rattle.spd_nodes.specs.declared.leaf.Leaf.{Leaf}
use Rattle.spd_nodes.specs.Shown.{meaning}
use Rattle.spd_frozen.specs.Fits.{FitsSizes}
use Rattle.spd_frozen.specs.Frozen.{IsFrozen, frozen_of, leaf_at}
use Rattle.spd_frozen.specs.Nodes.{all_shown}
use Rattle.spd_frozen.proofs.FrozenLaws.{frozen-is, frozen-fits, frozen-leaf_at}
use Rattle.spd_frozen.proofs.MixedLaws.{plain-some, plain-list, plain-back}
use Rattle.spd_frozen.proofs.freezing.freeze.Goals as goal

pub of_nodes-requires : goal.of_nodes-requires
of_nodes-requires g c =
    let s = g.F.Forest.shows c.args.forest.now in
    let sound = c.in_ok-nodes.ensures.layout in
    let f : List ℕ → Leaf = λ x. meaning s c.args.r x x in
    let list : all_shown c.in_ok-plain_nodes.field-0.items ≡ frozen_of s.sizes f =
    ap all_shown c.in_ok-plain_nodes.ensures ∙ plain-back c.in_ok-nodes.nodes.items (frozen_of s.sizes f) (c.in_ok-nodes.ensures.reduced ∙ plain-list s sound c.args.r c.requires.present) in
    subst IsFrozen (sym list) (frozen-is s.sizes f (plain-some s sound c.args.r))

pub returns-clause-reduced : goal.returns-clause-reduced
returns-clause-reduced g c =
    let s = g.F.Forest.shows c.args.forest.now in
    let sound = c.in_ok-nodes.ensures.layout in
    let f : List ℕ → Leaf = λ x. meaning s c.args.r x x in
    c.of_nodes.ensures ∙ ap all_shown c.in_ok-plain_nodes.ensures ∙ plain-back c.in_ok-nodes.nodes.items (frozen_of s.sizes f) (c.in_ok-nodes.ensures.reduced ∙ plain-list s sound c.args.r c.requires.present)

pub returns-clause-function : goal.returns-clause-function
returns-clause-function g c =
    let s = g.F.Forest.shows c.args.forest.now in
    let sound = c.in_ok-nodes.ensures.layout in
    let f : List ℕ → Leaf = λ x. meaning s c.args.r x x in
    let list : c.of_nodes.result ≡ frozen_of s.sizes f =
    c.of_nodes.ensures ∙ ap all_shown c.in_ok-plain_nodes.ensures ∙ plain-back c.in_ok-nodes.nodes.items (frozen_of s.sizes f) (c.in_ok-nodes.ensures.reduced ∙ plain-list s sound c.args.r c.requires.present) in
    λ x t h k. ap (λ (nodes : List (Node Leaf)). leaf_at nodes x) list ∙ frozen-leaf_at s.sizes f (plain-some s sound c.args.r) x h ∙ sym (c.requires.present.at x t h k)

pub returns-clause-fits : goal.returns-clause-fits
returns-clause-fits g c =
    let s = g.F.Forest.shows c.args.forest.now in
    let sound = c.in_ok-nodes.ensures.layout in
    let f : List ℕ → Leaf = λ x. meaning s c.args.r x x in
    let list : c.of_nodes.result ≡ frozen_of s.sizes f =
    c.of_nodes.ensures ∙ ap all_shown c.in_ok-plain_nodes.ensures ∙ plain-back c.in_ok-nodes.nodes.items (frozen_of s.sizes f) (c.in_ok-nodes.ensures.reduced ∙ plain-list s sound c.args.r c.requires.present) in
    subst (FitsSizes s.sizes) (sym list) (frozen-fits s.sizes f (plain-some s sound c.args.r))
