use Rattle.std.proofs.Common.{◌∙◌, arith}
use Rattle.std.proofs.lemmas.Result.{MatchResult-from_err}
use Rattle.spd_solver.proofs.Writing.{Took-more, TookFront-after}
use Rattle.spd_solver.proofs.pieces.write_pieces.Goals as goal

pub returns-in_err-write_all_of-clause-text : goal.returns-in_err-write_all_of-clause-text
returns-in_err-write_all_of-clause-text g c =
    let front = c.in_err-write_all_of.ensures.prefix in
    MatchResult-from_err c.from_residual.result _ _ c.from_residual.ensures.0 (λ _.
    TookFront-after _ _ _ c.args.pieces.now c.loop-piece.piece-index _ c.loop-piece-test.true c.loop-piece.invariant.0 (front.0, omega (arith, front.1), front.2))

pub loop-piece-preserved : goal.loop-piece-preserved
loop-piece-preserved g c =
    let wrote = c.in_ok-write_all_of.ensures in (
      Took-more _ _ _ c.args.pieces.now c.loop-piece.piece-index _ c.loop-piece-test.true c.loop-piece.invariant.0 wrote.all,
      wrote.ok ∙ c.loop-piece.invariant.1,
      c.write_all_of.ensures.named ∙ c.loop-piece.invariant.2,
    )
