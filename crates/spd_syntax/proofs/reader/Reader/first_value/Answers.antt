use Rattle.std.proofs.Common.{◌≡◌, ◌∙◌, ap, sym, Err}
use Rattle.spd_lex.specs.declared.token.Kind.TheVariants.{Word as WordKind}
use Rattle.spd_syntax.specs.declared.refusal.Want.TheVariants as wants
use Rattle.spd_syntax.specs.Positions.{first_value}
use Rattle.spd_syntax.specs.Words.{value_passes, text_of}
use Rattle.spd_syntax.proofs.Moves.{err_exit, misses}
use Rattle.spd_syntax.proofs.FileMoves.{first_only, first_stops}
use Rattle.spd_syntax.proofs.reader.Reader.first_value.Goals as goal

pub returns-in_err-word-clause-err : goal.returns-in_err-word-clause-err
returns-in_err-word-clause-err c =
    err_exit _ c.from_residual.result c.in_err-word.field-0.0 c.from_residual.ensures.1
    (λ k. misses c.args.self.now.file.now (first_value k) WordKind wants.Value c.args.tokens.now c.in_err-word.field-0.0 (first_only k) c.in_err-word.ensures.err)

pub returns-in_err-value_passes-clause-err : goal.returns-in_err-value_passes-clause-err
returns-in_err-value_passes-clause-err c =
    let file = c.args.self.now.file.now in
    let w = c.in_ok-word.word in
    let found : Err c.in_err-value_passes.field-0.0 ≡ value_passes wants.Value w.from (text_of file w) = c.in_err-value_passes.ensures ∙ ap (value_passes wants.Value w.from) c.text.ensures in
    err_exit _ c.from_residual-in_err-value_passes.result c.in_err-value_passes.field-0.0 c.from_residual-in_err-value_passes.ensures.1
    (λ k. first_stops file k w c.args.tokens.now c.in_ok-word.rest.now c.in_err-value_passes.field-0.0 c.in_ok-word.ensures.ok found)

pub returns-clause-ok : goal.returns-clause-ok
returns-clause-ok c =
    record { word = c.in_ok-word.ensures.ok; value = record { is = sym (c.in_ok-value_passes.ensures ∙ ap (value_passes wants.Value c.in_ok-word.word.from) c.text.ensures) } }
