use Rattle.std.proofs.Common.{ℕ, ◌+◌, ◌++◌, List, flat_map, sym, ap, ◌∙◌, arith}
use Rattle.spd_model.specs.Numbers.{numbers_below}
use Rattle.spd_gen.specs.Ring.{part_text}
use Rattle.spd_gen.proofs.TextLaws.{each-more, each-split, each-same}
use Rattle.spd_gen.proofs.WritingLaws.{writes-nothing, writes-then, writes-as, writes-exit}
use Rattle.spd_gen.proofs.ring.put_each_part.Goals as goal

pub loop-i-init : goal.loop-i-init
loop-i-init g c = writes-nothing _ _

pub loop-i-preserved : goal.loop-i-preserved
loop-i-preserved g c = writes-as _ _ _ _ _ (each-more part_text c.loop-i.i) (writes-then _ _ _ _ _ _ _ c.loop-i.invariant c.in_ok-put_part.ensures)

pub returns-in_err-put_part : goal.returns-in_err-put_part
returns-in_err-put_part g c =
    let i = c.loop-i.i in
    let front = flat_map part_text (numbers_below i) ++ part_text i in
    let rest = each-split part_text (i + 1) c.args.n (omega (arith, c.loop-i-test.true)) in
    writes-exit _ _ front _ rest.0 _ _ c.from_residual.ensures.0 (rest.1 ∙ ap (λ (l : List ℕ). l ++ rest.0) (sym (each-more part_text i)))
    (writes-then _ _ _ _ _ _ _ c.loop-i.invariant c.in_err-put_part.ensures)

pub returns : goal.returns
returns g c = writes-as _ _ _ _ _ (each-same part_text c.loop-i.i c.args.n (omega arith)) c.loop-i.invariant
