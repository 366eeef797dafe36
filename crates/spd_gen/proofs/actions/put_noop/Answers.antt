use Rattle.std.proofs.Common.{◌++◌, codes, append_assoc, refl, None}
use Rattle.spd_gen.specs.Ring.{line, tables_text}
use Rattle.spd_gen.proofs.WritingLaws.{writes-then, writes-exit}
use Rattle.spd_gen.proofs.actions.put_noop.Goals as goal

pub returns-in_err-put : goal.returns-in_err-put
returns-in_err-put g c =
    let head = line (codes "action noop") in
    let tables = tables_text c.args.n None in
    let last = line (codes "endaction") in
    writes-exit _ _ head _ (tables ++ last) _ _ c.from_residual.ensures.0 (append_assoc head tables last) c.in_err-put.ensures

pub returns-in_err-put_tables : goal.returns-in_err-put_tables
returns-in_err-put_tables g c =
    writes-exit _ _ (line (codes "action noop") ++ tables_text c.args.n None) _ (line (codes "endaction")) _ _ c.from_residual-in_err-put_tables.ensures.0 refl
    (writes-then _ _ _ _ _ _ _ c.in_ok-put.ensures c.in_err-put_tables.ensures)

pub returns : goal.returns
returns g c = writes-then _ _ _ _ _ _ _ (writes-then _ _ _ _ _ _ _ c.in_ok-put.ensures c.in_ok-put_tables.ensures) c.put-2.ensures
