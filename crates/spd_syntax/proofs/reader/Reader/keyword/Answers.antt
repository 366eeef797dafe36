use Rattle.std.proofs.Common.{◌≡◌, ◌∙◌, ap, sym, true, false}
use Rattle.std.specs.Prelude.{bytes_eq}
use Rattle.spd_syntax.specs.Words.{text_of}
use Rattle.spd_syntax.proofs.Moves.{err_exit}
use Rattle.spd_syntax.proofs.FileMoves.{keyword_misses, keyword_stops}
use Rattle.spd_syntax.proofs.reader.Reader.keyword.Goals as goal

pub returns-in_err-word-clause-err : goal.returns-in_err-word-clause-err
returns-in_err-word-clause-err c =
    err_exit _ c.from_residual.result c.in_err-word.field-0.0 c.from_residual.ensures.1
    (λ p qs stands. keyword_misses c.args.self.now.file.now p c.args.keyword.now c.args.want qs stands c.args.tokens.now c.in_err-word.field-0.0 c.in_err-word.ensures.err)

pub returns-then-not-says-clause-err : goal.returns-then-not-says-clause-err
returns-then-not-says-clause-err c p qs stands =
    let file = c.args.self.now.file.now in
    let w = c.in_ok-word.word in
    let other : bytes_eq (text_of file w) c.args.keyword.now ≡ false = ap (λ t. bytes_eq t c.args.keyword.now) (sym c.text.ensures) ∙ sym c.says.ensures ∙ c.if-not-says.true in
    keyword_stops file p c.args.keyword.now c.args.want qs stands w c.args.tokens.now c.in_ok-word.rest.now c.in_ok-word.ensures.ok other

pub returns-clause-ok : goal.returns-clause-ok
returns-clause-ok c =
    let file = c.args.self.now.file.now in
    let w = c.in_ok-word.word in
    let is : bytes_eq (text_of file w) c.args.keyword.now ≡ true = ap (λ t. bytes_eq t c.args.keyword.now) (sym c.text.ensures) ∙ sym c.says.ensures ∙ c.if-not-says.false in
    (w, record { word = c.in_ok-word.ensures.ok; says = record { is = is } })
