use Rattle.std.proofs.Common.{subst, sym}
use Rattle.spd_nodes.specs.Shown.{IsSound, IsViewOf}
use Rattle.spd_nodes.specs.Store.{key_view}
use Rattle.spd_nodes.proofs.ShownLaws.{tree-meaning}
use Rattle.spd_cons.specs.Values.{SeatValue}
use Rattle.spd_nodes.specs.KnownTrees.{shown_by}
use Rattle.spd_nodes.specs.Grove.{GroveValue, IsGrove}
use Rattle.spd_nodes.proofs.GroveLaws.{sound-shown, view-shown}
use Rattle.spd_nodes.proofs.grove.GroveForest.view.Goals as goal

pub returns-clause-sound : goal.returns-clause-sound
returns-clause-sound c =
    subst (λ (s : SeatValue). IsSound (shown_by c.self.inside.layout.now s)) (sym c.read.ensures.same) (sound-shown _ _ c.self.invariant.layout c.self.invariant.seat c.self.invariant.fit)

pub returns-clause-view : goal.returns-clause-view
returns-clause-view c =
    rw c.view_of.ensures
    (subst (λ (v : GroveValue). IsViewOf (shown_by v.sizes v.seat) c.args.r (key_view c.read.result)) c.self.view_is
    (view-shown c.self.inside.layout.now c.self.inside.seat c.self.invariant.seat c.self.invariant.fit c.args.r c.read.result c.read.ensures.key))

pub returns-clause-tree : goal.returns-clause-tree
returns-clause-tree c whole =
    let g : IsGrove _ c.args.self.now = subst (λ (v : GroveValue). IsGrove c.self.inside.cons.now v) c.self.view_is c.self.invariant in
    tree-meaning (shown_by c.args.self.now.sizes c.args.self.now.seat) (sound-shown _ _ g.layout g.seat g.fit) c.args.r c.requires.known whole
