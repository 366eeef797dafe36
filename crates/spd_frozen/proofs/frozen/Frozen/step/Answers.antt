use Rattle.std.proofs.Common.{◌≡◌, ℕ, arith, sym, ◌∙◌, ap, subst, List, get_or, length, ◌<◌}
use Rattle.std.specs.Prelude.{All, slice_index}
use Rattle.std.proofs.lemmas.List.{length-map}
use Rattle.spd_model.specs.Reduced.{Node}
use Rattle.spd_nodes.specs.declared.leaf.Leaf.{Leaf}
use Rattle.spd_frozen.specs.Nodes.{shown}
use Rattle.spd_frozen.specs.Frozen.{HasKid}
use Rattle.spd_frozen.specs.inner.Followed.{leaf_from}
use Rattle.spd_frozen.proofs.FollowLaws.{at-leaf, at-branch}
use Rattle.spd_frozen.proofs.frozen.Frozen.step.Goals as goal

pub get-requires : goal.get-requires
get-requires c =
    let items = c.self.inside.nodes.items in
    let has = subst (All (HasKid c.args.s.now)) (sym c.self.view_is) c.requires.kids in
    let within : c.args.node < length items = omega (arith, c.requires.within, ap length c.self.view_is, length-map items shown) in
    (at-branch items c.args.s.now c.args.node c.index.result.now c.in-Branch.var c.in-Branch.kids c.self.invariant has within c.index.ensures c.in-Branch.is).var_in

pub index-requires-in-Branch : goal.index-requires-in-Branch
index-requires-in-Branch c =
    let items = c.self.inside.nodes.items in
    let has = subst (All (HasKid c.args.s.now)) (sym c.self.view_is) c.requires.kids in
    let within : c.args.node < length items = omega (arith, c.requires.within, ap length c.self.view_is, length-map items shown) in
    let steps = at-branch items c.args.s.now c.args.node c.index.result.now c.in-Branch.var c.in-Branch.kids c.self.invariant has within c.index.ensures c.in-Branch.is in
    omega (arith, steps.kid_in, c.get.ensures)

pub returns-in-Leaf : goal.returns-in-Leaf
returns-in-Leaf c =
    let items = c.self.inside.nodes.items in
    let within : c.args.node < length items = omega (arith, c.requires.within, ap length c.self.view_is, length-map items shown) in
    ap (λ (nodes : List (Node Leaf)). leaf_from nodes c.args.s.now c.args.node) (sym c.self.view_is)
    ∙ at-leaf items c.args.s.now c.args.node c.index.result.now c.in-Leaf.leaf c.self.invariant within c.index.ensures c.in-Leaf.is

pub returns-in-Branch : goal.returns-in-Branch
returns-in-Branch c =
    let items = c.self.inside.nodes.items in
    let s = c.args.s.now in
    let to = c.index-in-Branch.result.now in
    let has = subst (All (HasKid s)) (sym c.self.view_is) c.requires.kids in
    let within : c.args.node < length items = omega (arith, c.requires.within, ap length c.self.view_is, length-map items shown) in
    let steps = at-branch items s c.args.node c.index.result.now c.in-Branch.var c.in-Branch.kids c.self.invariant has within c.index.ensures c.in-Branch.is in
    let kid : to ≡ get_or c.in-Branch.kids.items (slice_index s c.in-Branch.var) to =
    c.index-in-Branch.ensures ∙ ap (λ (v : ℕ). get_or c.in-Branch.kids.items v to) c.get.ensures in (
      steps.smaller to kid,
      subst (λ (nodes : List (Node Leaf)). leaf_from nodes s to ≡ leaf_from nodes s c.args.node) c.self.view_is (sym (steps.same to kid)),
    )
