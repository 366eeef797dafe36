use Rattle.std.proofs.Common.{[], refl}
use Rattle.spd_text.proofs.WritingLaws.{writes-waiting, writes-then, writes-through, writes-exit}
use Rattle.spd_text.proofs.waiting.put.Goals as goal

pub returns-then-piece-room : goal.returns-then-piece-room
returns-then-piece-room g c = writes-waiting _ _ _ _ _ c.add.ensures

pub returns-in_err-flush : goal.returns-in_err-flush
returns-in_err-flush g c = writes-exit _ _ _ _ _ [] _ c.args.piece.now _ _ c.from_residual.ensures.0 refl c.in_err-flush.ensures.wrote

pub returns : goal.returns
returns g c =
    let r = c.write_all_of.ensures in
    writes-then _ _ _ _ _ _ [] _ _ _ c.in_ok-flush.ensures.wrote (writes-through _ _ _ _ _ c.in_ok-flush.ensures.empty r.all r.ok r.prefix r.failed r.never_falls r.named)
