use Rattle.std.proofs.Common.{◌≡◌, ◌∙◌, ap, sym, arith, Ok, Err}
use Rattle.spd_syntax.specs.declared.refusal.Want.TheVariants as wants
use Rattle.spd_syntax.specs.Words.{name_passes, text_of}
use Rattle.spd_syntax.proofs.Moves.{err_exit}
use Rattle.spd_syntax.proofs.FileMoves.{names_miss, names_stop, names_full}
use Rattle.spd_syntax.proofs.reader.Reader.declared.Goals as goal

pub returns-in_err-word-clause-err : goal.returns-in_err-word-clause-err
returns-in_err-word-clause-err c =
    err_exit _ c.from_residual.result c.in_err-word.field-0.0 c.from_residual.ensures.1
    (λ p qs names. names_miss c.args.self.now.file.now p c.args.what c.args.most c.args.count qs c.args.tokens.now c.in_err-word.field-0.0 names c.in_err-word.ensures.err)

pub returns-in_err-name_passes-clause-err : goal.returns-in_err-name_passes-clause-err
returns-in_err-name_passes-clause-err c =
    let file = c.args.self.now.file.now in
    let w = c.in_ok-word.word in
    let found : Err c.in_err-name_passes.field-0.0 ≡ name_passes wants.Name w.from (text_of file w) = c.in_err-name_passes.ensures ∙ ap (name_passes wants.Name w.from) c.text.ensures in
    err_exit _ c.from_residual-in_err-name_passes.result c.in_err-name_passes.field-0.0 c.from_residual-in_err-name_passes.ensures.1
    (λ p qs names. names_stop file p c.args.what c.args.most c.args.count qs w c.args.tokens.now c.in_ok-word.rest.now c.in_err-name_passes.field-0.0 names c.in_ok-word.ensures.ok found)

pub returns-then-count-most-clause-err : goal.returns-then-count-most-clause-err
returns-then-count-most-clause-err c p qs names =
    let file = c.args.self.now.file.now in
    let w = c.in_ok-word.word in
    let found : Ok tt ≡ name_passes wants.Name w.from (text_of file w) = c.in_ok-name_passes.ensures ∙ ap (name_passes wants.Name w.from) c.text.ensures in
    names_full file p c.args.what c.args.most c.args.count qs w c.args.tokens.now c.in_ok-word.rest.now names c.in_ok-word.ensures.ok found (omega arith)

pub returns-clause-ok : goal.returns-clause-ok
returns-clause-ok c =
    record { word = c.in_ok-word.ensures.ok; name = record { is = sym (c.in_ok-name_passes.ensures ∙ ap (name_passes wants.Name c.in_ok-word.word.from) c.text.ensures) } }
