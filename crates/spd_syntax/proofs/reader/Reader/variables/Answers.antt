use Rattle.std.proofs.Common.{◌≤◌, ◌++◌, ◌∷◌, [], List, sym, subst, arith}
use Rattle.spd_syntax.specs.declared.file.Counts.{Counts}
use Rattle.spd_syntax.specs.declared.file.Variable.{Variable}
use Rattle.spd_syntax.specs.Positions.{first_variable, variable_name, none_yet}
use Rattle.spd_syntax.specs.Files.{AreVariables}
use Rattle.spd_syntax.proofs.Moves.{refused_exit, same_exit, fails_after}
use Rattle.spd_syntax.proofs.FileMoves.{next_move, variables_more, variables_empty, variables_end}
use Rattle.spd_syntax.proofs.reader.Reader.variables.Goals as goal

pub returns-in_err-variable-clause-err : goal.returns-in_err-variable-clause-err
returns-in_err-variable-clause-err c =
    let file = c.args.self.now.file.now in
    let u = c.in_err-variable.field-0.0 in
    same_exit file (first_variable ∷ []) c.args.tokens.now c.from_residual.result u c.from_residual.ensures.1
    (fails_after file (first_variable ∷ []) (variable_name c.loop-inside.counts ∷ []) c.args.tokens.now c.in-Some.inside.now u
    (next_move file c.loop-inside.counts c.loop-inside.variables c.args.tokens.now c.loop-inside.rest.now c.in-Some.inside.now c.loop-inside.invariant.read c.in-Some.ensures) c.in_err-variable.ensures.err)

pub loop-inside-preserved : goal.loop-inside-preserved
loop-inside-preserved c =
    let file = c.args.self.now.file.now in
    let v = c.in_ok-variable.variable in
    let a = c.args.tokens.now in
    let e = c.in_ok-variable.after.now in
    let counts = c.after_variable-counts.ensures in
    record {
      read = subst (λ (vs : List Variable). AreVariables file none_yet vs c.after_variable-counts.result a e) (sym c.in_ok-push.ensures.ok)
          (subst (λ (k : Counts). AreVariables file none_yet (c.loop-inside.variables ++ v ∷ []) k a e) (sym counts)
          (variables_more file none_yet c.loop-inside.counts c.loop-inside.variables v a c.loop-inside.rest.now c.in-Some.inside.now e c.loop-inside.invariant.read c.in-Some.ensures c.in_ok-variable.ensures.ok));
      tests = subst (λ (k : Counts). k.tests ≤ 256) (sym counts) c.in_ok-variable.ensures.ok.values.few_tests;
    }

pub returns-then-is_empty-clause-err : goal.returns-then-is_empty-clause-err
returns-then-is_empty-clause-err c =
    variables_empty c.args.self.now.file.now c.loop-inside.counts c.loop-inside.variables c.args.tokens.now c.loop-inside.rest.now c.expected.result
    (grind (arith, c.is_empty.ensures, c.as_slice.ensures, c.if-is_empty.true, c.variables-2.view_is)) c.loop-inside.invariant.read c.in_default.ensures c.expected.ensures

pub returns-in_err-rest-clause-err : goal.returns-in_err-rest-clause-err
returns-in_err-rest-clause-err c =
    let file = c.args.self.now.file.now in
    let f = c.in_err-rest.field-0.0 in
    refused_exit file (first_variable ∷ []) c.args.tokens.now c.from_residual-in_err-rest.result f c.from_residual-in_err-rest.ensures.1
    (variables_end file c.loop-inside.counts c.loop-inside.variables c.args.tokens.now c.loop-inside.rest.now f c.loop-inside.invariant.read
    (grind (arith, c.is_empty.ensures, c.as_slice.ensures, c.if-is_empty.false, c.variables-2.view_is)) c.in_default.ensures c.in_err-rest.ensures.err)
