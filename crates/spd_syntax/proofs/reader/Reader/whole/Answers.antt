use Rattle.std.proofs.Common.{◌∷◌, [], arith}
use Rattle.spd_lex.specs.declared.token.Kind.TheVariants.{Open}
use Rattle.spd_syntax.specs.declared.refusal.Want.TheVariants as wants
use Rattle.spd_syntax.specs.Positions.{file_begins, variables_word, first_variable, none_yet}
use Rattle.spd_syntax.proofs.Moves.{refused_exit, same_exit, misses}
use Rattle.spd_syntax.proofs.FileMoves.{file_only, variables_at, file_variables_word, file_variables, file_sections, variables_keep}
use Rattle.spd_syntax.proofs.reader.Reader.whole.Goals as goal

pub returns-in_err-rest-clause-err : goal.returns-in_err-rest-clause-err
returns-in_err-rest-clause-err c =
    let file = c.args.self.now.file.now in
    let f = c.in_err-rest.field-0.0 in
    refused_exit file (file_begins ∷ []) c.args.tokens.now c.from_residual.result f c.from_residual.ensures.1 (misses file file_begins Open wants.Variables c.args.tokens.now f file_only c.in_err-rest.ensures.err)

pub returns-in_err-rest-2-clause-err : goal.returns-in_err-rest-2-clause-err
returns-in_err-rest-2-clause-err c =
    let file = c.args.self.now.file.now in
    let f = c.in_err-rest-2.field-0.0 in
    refused_exit file (file_begins ∷ []) c.args.tokens.now c.from_residual-in_err-rest-2.result f c.from_residual-in_err-rest-2.ensures.1
    (file_variables_word file c.args.tokens.now c.in_ok-rest.rest.now f c.in_ok-rest.ensures.ok (c.in_err-rest-2.ensures.err variables_word (first_variable ∷ []) variables_at))

pub returns-in_err-variables-clause-err : goal.returns-in_err-variables-clause-err
returns-in_err-variables-clause-err c =
    let file = c.args.self.now.file.now in
    let u = c.in_err-variables.field-0.0 in
    let key = c.in_ok-rest-2.ensures.ok in
    same_exit file (file_begins ∷ []) c.args.tokens.now c.from_residual-in_err-variables.result u c.from_residual-in_err-variables.ensures.1
    (file_variables file key.0 c.args.tokens.now c.in_ok-rest.rest.now c.in_ok-rest-2.rest.now u c.in_ok-rest.ensures.ok key.1 c.in_err-variables.ensures.err)

pub sections-requires-clause-dds : goal.sections-requires-clause-dds
sections-requires-clause-dds c =
    let read = c.in_ok-variables.ensures.ok in
    let keeps = variables_keep c.args.self.now.file.now none_yet c.in_ok-variables.counts c.in_ok-variables.variables c.in_ok-rest-2.rest.now read.0 read.1 in
    omega (arith, keeps.0)

pub sections-requires-clause-actions : goal.sections-requires-clause-actions
sections-requires-clause-actions c =
    let read = c.in_ok-variables.ensures.ok in
    let keeps = variables_keep c.args.self.now.file.now none_yet c.in_ok-variables.counts c.in_ok-variables.variables c.in_ok-rest-2.rest.now read.0 read.1 in
    omega (arith, keeps.1)

pub returns-in_err-sections-clause-err : goal.returns-in_err-sections-clause-err
returns-in_err-sections-clause-err c =
    let file = c.args.self.now.file.now in
    let u = c.in_err-sections.field-0.0 in
    let key = c.in_ok-rest-2.ensures.ok in
    let read = c.in_ok-variables.ensures.ok in
    same_exit file (file_begins ∷ []) c.args.tokens.now c.from_residual-in_err-sections.result u c.from_residual-in_err-sections.ensures.1
    (file_sections file key.0 c.in_ok-variables.counts c.in_ok-variables.variables c.args.tokens.now c.in_ok-rest.rest.now c.in_ok-rest-2.rest.now read.0 c.in_ok-variables.rest.now u
    c.in_ok-rest.ensures.ok key.1 read.1 read.3 read.2 c.in_err-sections.ensures.err)
