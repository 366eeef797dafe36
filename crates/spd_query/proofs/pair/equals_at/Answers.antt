use Rattle.std.proofs.Common.{◌<◌, length, sym, arith, eq-eqb}
use Rattle.std.proofs.lemmas.List.Sums.{position_or_len_is}
use Rattle.spd_query.specs.Lines.{is_equals}
use Rattle.spd_query.proofs.pair.equals_at.Goals as goal

pub returns-else-word-at-ne61-clause-first : goal.returns-else-word-at-ne61-clause-first
returns-else-word-at-ne61-clause-first c =
    sym (position_or_len_is is_equals c.args.word.now c.loop-at.at 0 c.loop-at.invariant.0 c.loop-at.invariant.1 (λ h. eq-eqb _ 61 c.if-word-at-ne61.false))

pub returns-after-loop-at-clause-first : goal.returns-after-loop-at-clause-first
returns-after-loop-at-clause-first c =
    sym (position_or_len_is is_equals c.args.word.now c.loop-at.at 0 c.loop-at.invariant.0 c.loop-at.invariant.1 (λ (h : c.loop-at.at < length c.args.word.now). absurd (omega (arith, c.loop-at-test.false))))
