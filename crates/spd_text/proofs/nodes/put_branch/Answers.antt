use Rattle.std.proofs.Common.{◌++◌, ◌∷◌, [], map, decimal, codes, sym, ◌∙◌, append_assoc}
use Rattle.spd_text.specs.inner.Pieces.{spaced}
use Rattle.spd_text.proofs.TextLaws.{branch-is}
use Rattle.spd_text.proofs.WritingLaws.{writes-then, writes-as, writes-exit}
use Rattle.spd_text.proofs.nodes.put_branch.Goals as goal

pub returns-in_err-put_all : goal.returns-in_err-put_all
returns-in_err-put_all g c =
    let front = c.args.number.now ++ ((32 ∷ codes "branch ") ++ (c.args.var.now ++ [])) in
    let kids = spaced (map decimal c.args.kids.now) in
    writes-exit _ _ _ _ _ front _ (kids ++ 10 ∷ []) _ _ c.from_residual.ensures.0
    (sym (branch-is c.args.number.now c.args.var.now (map decimal c.args.kids.now)) ∙ append_assoc front kids (10 ∷ [])) c.in_err-put_all.ensures

pub returns-in_err-put_kids : goal.returns-in_err-put_kids
returns-in_err-put_kids g c =
    let front = c.args.number.now ++ ((32 ∷ codes "branch ") ++ (c.args.var.now ++ [])) in
    let kids = spaced (map decimal c.args.kids.now) in
    writes-exit _ _ _ _ _ (front ++ kids) _ (10 ∷ []) _ _ c.from_residual-in_err-put_kids.ensures.0
    (sym (branch-is c.args.number.now c.args.var.now (map decimal c.args.kids.now))) (writes-then _ _ _ _ _ _ _ _ _ _ c.in_ok-put_all.ensures c.in_err-put_kids.ensures)

pub returns : goal.returns
returns g c =
    writes-as _ _ _ _ _ _ _ (branch-is c.args.number.now c.args.var.now (map decimal c.args.kids.now))
    (writes-then _ _ _ _ _ _ _ _ _ _ (writes-then _ _ _ _ _ _ _ _ _ _ c.in_ok-put_all.ensures c.in_ok-put_kids.ensures) c.put.ensures)
