use Rattle.std.proofs.Common.{◌≡◌, ◌∙◌, ◌||◌, ap, sym, true, false, arith}
use Rattle.std.specs.Prelude.{codes, bytes_eq}
use Rattle.spd_lex.specs.declared.token.Kind.TheVariants.{Word as WordKind}
use Rattle.spd_syntax.specs.declared.refusal.Want.TheVariants as wants
use Rattle.spd_syntax.specs.Positions.{plus_sign}
use Rattle.spd_syntax.specs.Words.{text_of}
use Rattle.spd_syntax.proofs.Moves.{err_exit, misses, word_longer}
use Rattle.spd_syntax.proofs.FileMoves.{plus_only, plus_left_out, plus_expected}
use Rattle.spd_syntax.proofs.reader.Reader.plus.Goals as goal

pub returns-in_err-word-clause-err : goal.returns-in_err-word-clause-err
returns-in_err-word-clause-err c =
    err_exit _ c.from_residual.result c.in_err-word.field-0.0 c.from_residual.ensures.1
    (misses c.args.self.now.file.now plus_sign WordKind wants.Plus c.args.tokens.now c.in_err-word.field-0.0 plus_only c.in_err-word.ensures.err)

pub returns-then-says-clause-ok : goal.returns-then-says-clause-ok
returns-then-says-clause-ok c =
    let file = c.args.self.now.file.now in
    let w = c.in_ok-word.word in
    let is : bytes_eq (text_of file w) (codes "+") ≡ true = ap (λ t. bytes_eq t (codes "+")) (sym c.text-text.ensures) ∙ sym c.says.ensures ∙ c.if-says.true in
    (w, record { word = c.in_ok-word.ensures.ok; says = record { is = is } })

pub returns-then-says-clause-shorter : goal.returns-then-says-clause-shorter
returns-then-says-clause-shorter c = omega (arith, word_longer c.in_ok-word.word c.args.tokens.now c.in_ok-word.rest.now c.in_ok-word.ensures.ok)

pub returns-then-is_left_out_operator-clause-err : goal.returns-then-is_left_out_operator-clause-err
returns-then-is_left_out_operator-clause-err c =
    let file = c.args.self.now.file.now in
    let w = c.in_ok-word.word in
    let other : bytes_eq (text_of file w) (codes "+") ≡ false = ap (λ t. bytes_eq t (codes "+")) (sym c.text-text.ensures) ∙ sym c.says.ensures ∙ c.if-says.false in
    let left : (bytes_eq (text_of file w) (codes "*") || (bytes_eq (text_of file w) (codes "-") || bytes_eq (text_of file w) (codes "max"))) ≡ true =
    ap (λ t. bytes_eq t (codes "*") || (bytes_eq t (codes "-") || bytes_eq t (codes "max"))) (sym c.text-text.ensures) ∙ sym c.is_left_out_operator.ensures ∙ c.if-is_left_out_operator.true in
    plus_left_out file w c.args.tokens.now c.in_ok-word.rest.now c.in_ok-word.ensures.ok other left

pub returns-clause-err : goal.returns-clause-err
returns-clause-err c =
    let file = c.args.self.now.file.now in
    let w = c.in_ok-word.word in
    let other : bytes_eq (text_of file w) (codes "+") ≡ false = ap (λ t. bytes_eq t (codes "+")) (sym c.text-text.ensures) ∙ sym c.says.ensures ∙ c.if-says.false in
    let left : (bytes_eq (text_of file w) (codes "*") || (bytes_eq (text_of file w) (codes "-") || bytes_eq (text_of file w) (codes "max"))) ≡ false =
    ap (λ t. bytes_eq t (codes "*") || (bytes_eq t (codes "-") || bytes_eq t (codes "max"))) (sym c.text-text.ensures) ∙ sym c.is_left_out_operator.ensures ∙ c.if-is_left_out_operator.false in
    plus_expected file w c.args.tokens.now c.in_ok-word.rest.now c.in_ok-word.ensures.ok other left
