use Rattle.std.proofs.Common.{◌∙◌, ap, arith}
use Rattle.spd_syntax.specs.declared.refusal.Want.TheVariants as wants
use Rattle.spd_syntax.specs.Words.{value_passes, text_of}
use Rattle.spd_model.proofs.CallerLemmas.Results.{err_is}
use Rattle.spd_syntax.proofs.FileMoves.{judged_err, judged_values, judged_tests, judged_ok}
use Rattle.spd_syntax.proofs.reader.Reader.further_value.Goals as goal

pub returns-in_err-value_passes : goal.returns-in_err-value_passes
returns-in_err-value_passes c =
    let w = c.args.word in
    err_is c.from_residual.result c.in_err-value_passes.field-0.0 c.from_residual.ensures.1
    ∙ judged_err c.args.count c.args.tests w.from (text_of c.args.self.now.file.now w) c.in_err-value_passes.field-0.0 (c.in_err-value_passes.ensures ∙ ap (value_passes wants.Close w.from) c.text.ensures)

pub returns-then-count-ge64 : goal.returns-then-count-ge64
returns-then-count-ge64 c =
    let w = c.args.word in
    judged_values c.args.count c.args.tests w.from (text_of c.args.self.now.file.now w) (c.in_ok-value_passes.ensures ∙ ap (value_passes wants.Close w.from) c.text.ensures) (omega arith)

pub returns-then-tests-ge256 : goal.returns-then-tests-ge256
returns-then-tests-ge256 c =
    let w = c.args.word in
    judged_tests c.args.count c.args.tests w.from (text_of c.args.self.now.file.now w) (c.in_ok-value_passes.ensures ∙ ap (value_passes wants.Close w.from) c.text.ensures) (omega arith) (omega arith)

pub returns : goal.returns
returns c =
    let w = c.args.word in
    judged_ok c.args.count c.args.tests w.from (text_of c.args.self.now.file.now w) (c.in_ok-value_passes.ensures ∙ ap (value_passes wants.Close w.from) c.text.ensures) (omega arith) (omega arith)
