use Rattle.std.proofs.Common.{◌≡◌, ◌∙◌, length, sym, arith}
use Rattle.spd_words.proofs.Judged.{reads_exit, word_goes, word_stops, end_stops}
use Rattle.spd_words.proofs.words.said_by.Goals as goal

pub returns-in_err-expects : goal.returns-in_err-expects
returns-in_err-expects c =
    let words = c.args.words.now in
    reads_exit words c.args.verb c.from_residual.result c.in_err-expects.field-0.0 c.from_residual.ensures.1
    (word_stops words c.args.verb c.loop-at.expects c.loop-at.at c.loop-at.said c.in_err-expects.field-0.0 c.loop-at-test.true c.in_err-expects.ensures.said) c.loop-at.invariant

pub loop-at-preserved : goal.loop-at-preserved
loop-at-preserved c =
    let words = c.args.words.now in
    word_goes words c.args.verb c.loop-at.expects c.in_ok-expects.expects c.loop-at.at c.loop-at.said c.add_word.new.self c.loop-at-test.true
    c.in_ok-expects.ensures.said c.in_ok-expects.ensures.next ∙ c.loop-at.invariant

pub returns-else-is_whole : goal.returns-else-is_whole
returns-else-is_whole c =
    let words = c.args.words.now in
    let ended : c.loop-at.at ≡ length words = omega (arith, c.loop-at.auto.at-end (omega (arith, c.requires))) in
    sym c.loop-at.invariant ∙ end_stops words c.args.verb c.loop-at.expects c.loop-at.at c.loop-at.said ended (sym c.is_whole.ensures ∙ c.if-is_whole.false)
