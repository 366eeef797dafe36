use Rattle.std.proofs.Common.{◌<◌, length, sym, ◌∙◌, arith}
use Rattle.std.proofs.lemmas.List.Sums.{position_or_len_is}
use Rattle.spd_query.specs.Lines.{is_blank}
use Rattle.spd_query.proofs.words.word_len.Goals as goal

pub returns-else-not-is_blank-clause-first : goal.returns-else-not-is_blank-clause-first
returns-else-not-is_blank-clause-first c =
    sym (position_or_len_is is_blank c.args.line.now c.loop-len.len 0 c.loop-len.invariant.0 c.loop-len.invariant.1 (λ h. sym c.is_blank.ensures ∙ c.if-not-is_blank.false))

pub returns-after-loop-len-clause-first : goal.returns-after-loop-len-clause-first
returns-after-loop-len-clause-first c =
    sym (position_or_len_is is_blank c.args.line.now c.loop-len.len 0 c.loop-len.invariant.0 c.loop-len.invariant.1 (λ (h : c.loop-len.len < length c.args.line.now). absurd (omega (arith, c.loop-len-test.false))))
