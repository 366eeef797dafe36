use Rattle.std.proofs.Common.{◌≡◌, ◌++◌, ◌+◌, ◌∷◌, [], codes, decimal, append_assoc, sym, ◌∙◌, Some}
use Rattle.spd_gen.specs.Ring.{line, tables_text}
use Rattle.spd_gen.proofs.TextLaws.{reboot-is}
use Rattle.spd_gen.proofs.WritingLaws.{writes-then, writes-as, writes-exit}
use Rattle.spd_gen.proofs.actions.put_reboot.Goals as goal

pub returns-in_err-put_all : goal.returns-in_err-put_all
returns-in_err-put_all g c =
    let i = c.args.i in
    let own = c.as_bytes-machine.result.now in
    let head = line (codes "action reboot" ++ decimal (i + 1)) in
    let is : codes "action reboot" ++ (own ++ ((10 ∷ []) ++ [])) ≡ head = reboot-is i own (c.as_bytes-machine.ensures.value ∙ c.format.ensures.text) in
    let tables = tables_text c.args.n (Some i) in
    let cost = line (codes "cost (0.75)") in
    let last = line (codes "endaction") in
    writes-exit _ _ head _ (tables ++ (cost ++ last)) _ _ c.from_residual.ensures.0 (append_assoc (head ++ tables) cost last ∙ append_assoc head tables (cost ++ last))
    (writes-as _ _ _ _ _ is c.in_err-put_all.ensures)

pub returns-in_err-put_tables : goal.returns-in_err-put_tables
returns-in_err-put_tables g c =
    let i = c.args.i in
    let own = c.as_bytes-machine.result.now in
    let head = line (codes "action reboot" ++ decimal (i + 1)) in
    let is : codes "action reboot" ++ (own ++ ((10 ∷ []) ++ [])) ≡ head = reboot-is i own (c.as_bytes-machine.ensures.value ∙ c.format.ensures.text) in
    let tables = tables_text c.args.n (Some i) in
    let cost = line (codes "cost (0.75)") in
    let last = line (codes "endaction") in
    writes-exit _ _ (head ++ tables) _ (cost ++ last) _ _ c.from_residual-in_err-put_tables.ensures.0 (append_assoc (head ++ tables) cost last)
    (writes-then _ _ _ _ _ _ _ (writes-as _ _ _ _ _ is c.in_ok-put_all.ensures) c.in_err-put_tables.ensures)

pub returns : goal.returns
returns g c =
    let i = c.args.i in
    let own = c.as_bytes-machine.result.now in
    let head = line (codes "action reboot" ++ decimal (i + 1)) in
    let is : codes "action reboot" ++ (own ++ ((10 ∷ []) ++ [])) ≡ head = reboot-is i own (c.as_bytes-machine.ensures.value ∙ c.format.ensures.text) in
    let cost = line (codes "cost (0.75)") in
    let last = line (codes "endaction") in
    writes-as _ _ ((head ++ tables_text c.args.n (Some i)) ++ (cost ++ last)) _ _ (sym (append_assoc (head ++ tables_text c.args.n (Some i)) cost last))
    (writes-then _ _ _ _ _ _ _ (writes-then _ _ _ _ _ _ _ (writes-as _ _ _ _ _ is c.in_ok-put_all.ensures) c.in_ok-put_tables.ensures) c.put.ensures)
