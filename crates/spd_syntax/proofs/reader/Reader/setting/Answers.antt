use Rattle.std.proofs.Common.{◌≡◌, ◌∙◌, ap, sym, refl, Ok, Err, ℤ, FitsSigned, rules, arith}
use Rattle.std.proofs.lemmas.Int.{to_z-of_z}
use mir.Syntax.{w128}
use Rattle.spd_lex.specs.declared.token.Kind.TheVariants.{Word as WordKind}
use Rattle.spd_syntax.specs.declared.refusal.Want.TheVariants as wants
use Rattle.spd_syntax.specs.Positions.{number}
use Rattle.spd_syntax.specs.Numbers.{number_of}
use Rattle.spd_syntax.specs.Words.{text_of}
use Rattle.spd_syntax.proofs.Moves.{err_exit, misses, word_longer}
use Rattle.spd_syntax.proofs.FileMoves.{setting_only, setting_stops}
use Rattle.spd_syntax.proofs.reader.Reader.setting.Goals as goal

pub returns-in_err-number-clause-err : goal.returns-in_err-number-clause-err
returns-in_err-number-clause-err c =
    err_exit _ c.from_residual.result c.in_err-number.field-0.0 c.from_residual.ensures.1
    (misses c.args.self.now.file.now (number c.args.quantity) WordKind wants.Number c.args.tokens.now c.in_err-number.field-0.0 (setting_only c.args.quantity) c.in_err-number.ensures.err)

pub returns-in_err-units-clause-err : goal.returns-in_err-units-clause-err
returns-in_err-units-clause-err c =
    let file = c.args.self.now.file.now in
    let w = c.in_ok-number.number in
    let found : Err c.in_err-units.field-0.0 ≡ number_of c.args.quantity w.from (text_of file w) = c.in_err-units.ensures ∙ ap (number_of c.args.quantity w.from) c.text.ensures in
    err_exit _ c.from_residual-in_err-units.result c.in_err-units.field-0.0 c.from_residual-in_err-units.ensures.1
    (setting_stops file c.args.quantity w c.args.tokens.now c.in_ok-number.rest.now c.in_err-units.field-0.0 c.in_ok-number.ensures.ok found)

pub returns-clause-ok : goal.returns-clause-ok
returns-clause-ok c k =
    let w = c.in_ok-number.number in
    let fits : FitsSigned w128 c.in_ok-units.units = search rules in (
      w,
      refl,
      refl,
      c.in_ok-number.ensures.ok,
      record { is = sym (c.in_ok-units.ensures ∙ ap (number_of c.args.quantity w.from) c.text.ensures) ∙ ap (λ (n : ℤ). Ok n) (sym (to_z-of_z w128 c.in_ok-units.units fits)) },
    )

pub returns-clause-shorter : goal.returns-clause-shorter
returns-clause-shorter c = omega (arith, word_longer c.in_ok-number.number c.args.tokens.now c.in_ok-number.rest.now c.in_ok-number.ensures.ok)
