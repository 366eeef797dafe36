use Rattle.std.proofs.Common.{◌≡◌, ◌∙◌, suc, max, map, fold, take, take_all, if◌then◌else◌, ap, sym, add-one}
use Rattle.spd_model.specs.Trees.{read_tree}
use Rattle.spd_model.proofs.CallerLemmas.Trees.{read_tree-Branch}
use Rattle.spd_plain.specs.inner.Reach.{latest}
use Rattle.spd_plain.proofs.reach.+latest_in.Goals as goal
use Rattle.spd_plain.proofs.reach.+latest_in.Goals.{then-primed, else-primed}

pub returns-after-loop-kid : goal.returns-after-loop-kid
returns-after-loop-kid t c =
    let var = c.in-Branch.var in
    let read = read_tree latest c.args.diagrams.now in
    let start : c.if-primed.most ≡ (if c.in-Branch.primed then suc var else 0) = elim c.if-primed.branch [
      | then-primed w ↦ w.most-is ∙ add-one var ∙ sym (ap (λ b. if b then suc var else 0) w.if-primed.true)
      | else-primed w ↦ w.most-is ∙ sym (ap (λ b. if b then suc var else 0) w.if-primed.false)
    ] in
    let kids : take c.loop-kid.kid-index c.as_slice-kid-items.result.now ≡ c.in-Branch.kids = take_all c.loop-kid.kid-index c.as_slice-kid-items.result.now c.loop-kid-test.false ∙ c.as_slice-kid-items.ensures in
    c.loop-kid.invariant ∙ (λ i. fold max (start i) (map read (kids i)))
    ∙ sym (ap read c.in-Branch.is ∙ read_tree-Branch latest c.args.diagrams.now var c.in-Branch.primed c.in-Branch.kids)
