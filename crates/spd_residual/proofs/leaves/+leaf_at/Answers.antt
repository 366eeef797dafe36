use Rattle.std.proofs.Common.{rules, ◌≡◌, ◌<◌, List, ℕ, true, length, sym, ◌∙◌, ap, subst, arith}
use Rattle.spd_model.specs.States.{IsState}
use Rattle.spd_model.proofs.CallerLemmas.StateOrder.{length-IsState}
use Rattle.spd_nodes.specs.Levels.{slots, IsTestOf}
use Rattle.spd_nodes.specs.Shown.{meaning}
use Rattle.spd_nodes.specs.Trees.{tree_rank}
use Rattle.spd_nodes.proofs.CallerLemmas.{rank-view}
use Rattle.spd_residual.proofs.LeafLaws.{leaf-no, leaf-yes}
use Rattle.spd_residual.proofs.leaves.+leaf_at.Goals as goal

pub get-requires : goal.get-requires
get-requires g t c =
    let s = g.F.Forest.shows c.args.forest.now in
    let sizes : c.layout.result.now ≡ s.sizes = c.layout.ensures.sizes ∙ ap (λ v. v.sizes) c.view.ensures.same in
    omega (arith, c.what-var.ensures.var_in, ap length sizes, length-IsState s.sizes c.args.state.now c.requires.state)

pub leaf_at-requires : goal.leaf_at-requires
leaf_at-requires g t c κs within =
    let s = g.F.Forest.shows c.args.forest.now in
    let v = c.in-Test.ensures.view in
    let w = rank-view s (rw c.view.ensures.same at c.view.ensures.sound) c.args.r c.in-Test.yes c.in-Test.no c.in-Test.level.0 c.requires.known v.0 in
    let smaller : tree_rank (slots (g.F.Forest.shows c.view.new.self).sizes) ((g.F.Forest.shows c.view.new.self).tree c.in-Test.yes) < tree_rank (slots s.sizes) (s.tree c.args.r) = rw c.view.ensures.same w.0 in
    let known : (g.F.Forest.shows c.view.new.self).knows c.in-Test.yes ≡ true = rw c.view.ensures.same v.1 in
    let state : IsState (g.F.Forest.shows c.view.new.self).sizes c.args.state.now = rw c.view.ensures.same c.requires.state in
    search rules

pub leaf_at-requires-else-get-value : goal.leaf_at-requires-else-get-value
leaf_at-requires-else-get-value g t c κs within =
    let s = g.F.Forest.shows c.args.forest.now in
    let v = c.in-Test.ensures.view in
    let w = rank-view s (rw c.view.ensures.same at c.view.ensures.sound) c.args.r c.in-Test.yes c.in-Test.no c.in-Test.level.0 c.requires.known v.0 in
    let smaller : tree_rank (slots (g.F.Forest.shows c.view.new.self).sizes) ((g.F.Forest.shows c.view.new.self).tree c.in-Test.no) < tree_rank (slots s.sizes) (s.tree c.args.r) = rw c.view.ensures.same w.1 in
    let known : (g.F.Forest.shows c.view.new.self).knows c.in-Test.no ≡ true = rw c.view.ensures.same v.2 in
    let state : IsState (g.F.Forest.shows c.view.new.self).sizes c.args.state.now = rw c.view.ensures.same c.requires.state in
    search rules

pub returns-then-get-value-clause-leaf : goal.returns-then-get-value-clause-leaf
returns-then-get-value-clause-leaf g t c =
    let s = g.F.Forest.shows c.args.forest.now in
    let sizes : c.layout.result.now ≡ s.sizes = c.layout.ensures.sizes ∙ ap (λ v. v.sizes) c.view.ensures.same in
    let test : IsTestOf s.sizes c.in-Test.level.0 c.what-var.result.0 c.what-var.result.1 c.what-var.result.2 =
    subst (λ (z : List ℕ). IsTestOf z c.in-Test.level.0 c.what-var.result.0 c.what-var.result.1 c.what-var.result.2) sizes c.what-var.ensures in
    let below : c.leaf_at.result ≡ meaning s c.in-Test.yes c.args.state.now c.args.state.now = rw c.view.ensures.same at c.leaf_at.ensures.leaf in
    below ∙ sym (leaf-yes s c.args.r c.in-Test.yes c.in-Test.no c.in-Test.level.0 c.args.state.now c.what-var.result.0 c.what-var.result.2 c.what-var.result.1 c.in-Test.ensures.view.0 c.requires.state test (sym c.get.ensures ∙ c.if-get-value.true))

pub returns-else-get-value-clause-leaf : goal.returns-else-get-value-clause-leaf
returns-else-get-value-clause-leaf g t c =
    let s = g.F.Forest.shows c.args.forest.now in
    let sizes : c.layout.result.now ≡ s.sizes = c.layout.ensures.sizes ∙ ap (λ v. v.sizes) c.view.ensures.same in
    let test : IsTestOf s.sizes c.in-Test.level.0 c.what-var.result.0 c.what-var.result.1 c.what-var.result.2 =
    subst (λ (z : List ℕ). IsTestOf z c.in-Test.level.0 c.what-var.result.0 c.what-var.result.1 c.what-var.result.2) sizes c.what-var.ensures in
    let below : c.leaf_at-else-get-value.result ≡ meaning s c.in-Test.no c.args.state.now c.args.state.now = rw c.view.ensures.same at c.leaf_at-else-get-value.ensures.leaf in
    below ∙ sym (leaf-no s c.args.r c.in-Test.yes c.in-Test.no c.in-Test.level.0 c.args.state.now c.what-var.result.0 c.what-var.result.2 c.what-var.result.1 c.in-Test.ensures.view.0 c.requires.state test (λ e. c.if-get-value.false (c.get.ensures ∙ e)))
