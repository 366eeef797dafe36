use Rattle.std.proofs.Common.{◌≡◌, true, List, length, take, get_or, sym, ◌∙◌, ap, subst, arith, ℕ}
use Rattle.std.specs.Prelude.{Contains}
use Rattle.std.proofs.Math.Seq.{take-length}
use Rattle.std.proofs.lemmas.List.Elements.{Contains-get_or}
use Rattle.spd_cons_core.specs.declared.key.Entry.{Entry}
use Rattle.spd_nodes.specs.Trees.{Ends, Tests}
use Rattle.spd_nodes.specs.Shown.{Shown}
use Rattle.spd_nodes.specs.Refs.{IsReached}
use Rattle.spd_apply.proofs.LeavesLaws.{Gathers, gathers-none, gathers-leaf, gathers-test, leaves-listed}
use Rattle.spd_apply.proofs.leaves.leaves_of.Goals as goal
use Rattle.spd_apply.proofs.leaves.leaves_of.Goals.{in-Leaf+in_ok-push, in_default}

pub loop-r-init : goal.loop-r-init
loop-r-init g c = record {
  same = c.reached.ensures.same;
  keeps = c.reached.ensures.keeps;
  gathers = rw c.in_ok-leaves.ensures.items (gathers-none (g.F.Forest.shows c.args.forest.now));
}

pub view-requires : goal.view-requires
view-requires g c =
    let r : Entry = get_or c.as_slice-r-items.result.now c.loop-r.r-index (record { 0 = 0 }) in
    let m : Contains c.as_slice-r-items.result.now r = Contains-get_or c.as_slice-r-items.result.now c.loop-r.r-index (record { 0 = 0 }) c.loop-r-test.true in
    record {
      known = subst (λ (s : Shown). s.knows r ≡ true) (sym c.loop-r.invariant.same)
          (c.in_ok-refs.ensures.ok.known r (subst (λ (v : List Entry). Contains v r) c.as_slice-r-items.ensures m));
    }

pub loop-r-preserved : goal.loop-r-preserved
loop-r-preserved g c =
    let s : Shown = g.F.Forest.shows c.args.forest.now in
    let refs : List Entry = c.as_slice-r-items.result.now in
    let i : ℕ = c.loop-r.r-index in
    let r : Entry = get_or refs i (record { 0 = 0 }) in
    let reached : IsReached s c.args.f refs = subst (λ (v : List Entry). IsReached s c.args.f v) (sym c.as_slice-r-items.ensures) c.in_ok-refs.ensures.ok in
    record {
      same = c.view.ensures.same ∙ c.loop-r.invariant.same;
      keeps = c.view.ensures.keeps ∙ c.loop-r.invariant.keeps;
      gathers = elim c.match-view.branch [
        | in-Leaf+in_ok-push w ↦
            let e : s.tree r ≡ Ends w.in-Leaf.leaf = subst (λ (t : Shown). t.tree r ≡ Ends w.in-Leaf.leaf) c.loop-r.invariant.same w.in-Leaf.ensures.view in
            rw w.leaves-is (rw w.in_ok-push.ensures.items (gathers-leaf s c.layout.ensures.sound c.args.f refs reached i (record { 0 = 0 }) c.loop-r-test.true c.loop-r.leaves.items c.loop-r.invariant.gathers w.in-Leaf.leaf e))
        | in_default w ↦
            let e : s.tree r ≡ Tests w.in_default.field-0.0 (s.tree w.in_default.field-1) (s.tree w.in_default.field-2) =
            subst (λ (t : Shown). t.tree r ≡ Tests w.in_default.field-0.0 (t.tree w.in_default.field-1) (t.tree w.in_default.field-2)) c.loop-r.invariant.same w.in_default.ensures.view.0 in
            rw w.leaves-is (gathers-test s c.layout.ensures.sound c.args.f refs reached i (record { 0 = 0 }) c.loop-r-test.true c.loop-r.leaves.items c.loop-r.invariant.gathers w.in_default.field-0.0 (s.tree w.in_default.field-1) (s.tree w.in_default.field-2) e)
      ];
    }

pub returns-clause-ok : goal.returns-clause-ok
returns-clause-ok g c =
    let s : Shown = g.F.Forest.shows c.args.forest.now in
    let refs : List Entry = c.as_slice-r-items.result.now in
    let n : c.loop-r.r-index ≡ length refs = omega arith in
    let gathers : Gathers s c.in_ok-refs.refs c.loop-r.leaves.items =
    subst (λ (v : List Entry). Gathers s v c.loop-r.leaves.items) (ap (λ k. take k refs) n ∙ take-length refs ∙ c.as_slice-r-items.ensures) c.loop-r.invariant.gathers in
    leaves-listed s c.layout.ensures.sound c.args.f c.in_ok-refs.refs c.loop-r.leaves.items c.sort_unstable.new.self.items c.requires.known c.requires.whole c.in_ok-refs.ensures.ok
    gathers c.sort_unstable.ensures.permutation c.sort_unstable.ensures.sorted
