use Rattle.std.proofs.Common.{ℕ, ◌+◌, ◌++◌, List, flat_map, sym, ap, ◌∙◌, arith}
use Rattle.spd_model.specs.Numbers.{numbers_below}
use Rattle.spd_gen.specs.Ring.{table_line}
use Rattle.spd_gen.proofs.TextLaws.{each-more, each-split, each-same}
use Rattle.spd_gen.proofs.WritingLaws.{writes-nothing, writes-then, writes-as, writes-exit}
use Rattle.spd_gen.proofs.actions.put_tables.Goals as goal

pub loop-i-init : goal.loop-i-init
loop-i-init g c = writes-nothing _ _

pub loop-i-preserved : goal.loop-i-preserved
loop-i-preserved g c = writes-as _ _ _ _ _ (each-more (table_line c.args.n c.args.rebooted) c.loop-i.i) (writes-then _ _ _ _ _ _ _ c.loop-i.invariant c.in_ok-put_table.ensures)

pub returns-in_err-put_table : goal.returns-in_err-put_table
returns-in_err-put_table g c =
    let i = c.loop-i.i in
    let front = flat_map (table_line c.args.n c.args.rebooted) (numbers_below i) ++ (table_line c.args.n c.args.rebooted) i in
    let rest = each-split (table_line c.args.n c.args.rebooted) (i + 1) c.args.n (omega (arith, c.loop-i-test.true)) in
    writes-exit _ _ front _ rest.0 _ _ c.from_residual.ensures.0 (rest.1 ∙ ap (λ (l : List ℕ). l ++ rest.0) (sym (each-more (table_line c.args.n c.args.rebooted) i)))
    (writes-then _ _ _ _ _ _ _ c.loop-i.invariant c.in_err-put_table.ensures)

pub returns : goal.returns
returns g c = writes-as _ _ _ _ _ (each-same (table_line c.args.n c.args.rebooted) c.loop-i.i c.args.n (omega arith)) c.loop-i.invariant
