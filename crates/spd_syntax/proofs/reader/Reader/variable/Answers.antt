use Rattle.std.proofs.Common.{◌∷◌, [], subst}
use Rattle.spd_syntax.specs.declared.file.Counts.{Counts}
use Rattle.spd_syntax.specs.Positions.{variable_name, first_value, one_variable}
use Rattle.spd_syntax.specs.Files.{HasValues}
use Rattle.spd_syntax.specs.Reading.{Fails}
use Rattle.spd_syntax.proofs.Moves.{refused_exit, same_exit}
use Rattle.spd_syntax.proofs.FileMoves.{variable_names, variable_values}
use Rattle.spd_syntax.proofs.reader.Reader.variable.Goals as goal

pub returns-in_err-name-clause-err : goal.returns-in_err-name-clause-err
returns-in_err-name-clause-err c =
    refused_exit c.args.self.now.file.now (variable_name c.args.counts ∷ []) c.args.tokens.now c.from_residual.result c.in_err-name.field-0.0 c.from_residual.ensures.1
    (c.in_err-name.ensures.err (variable_name c.args.counts) (first_value (one_variable c.args.counts) ∷ []) (variable_names c.args.counts))

pub returns-in_err-values-clause-err : goal.returns-in_err-values-clause-err
returns-in_err-values-clause-err c =
    let file = c.args.self.now.file.now in
    let u = c.in_err-values.field-0.0 in
    same_exit file (variable_name c.args.counts ∷ []) c.args.tokens.now c.from_residual-in_err-values.result u c.from_residual-in_err-values.ensures.1
    (variable_values file c.args.counts c.in_ok-name.name c.args.tokens.now c.in_ok-name.rest.now u c.in_ok-name.ensures.ok c.in_ok-name.ensures.room
    (subst (λ (k : Counts). Fails file (first_value k ∷ []) c.in_ok-name.rest.now u) c.one_variable.ensures c.in_err-values.ensures.err))

pub returns-clause-ok : goal.returns-clause-ok
returns-clause-ok c =
    let file = c.args.self.now.file.now in
    record {
      b = c.in_ok-name.rest.now;
      name = c.in_ok-name.ensures.ok;
      few = c.in_ok-name.ensures.room;
      values = subst (λ (k : Counts). HasValues file k c.in_ok-values.values c.in_ok-name.rest.now c.in_ok-values.rest.now) c.one_variable.ensures c.in_ok-values.ensures.ok;
    }
