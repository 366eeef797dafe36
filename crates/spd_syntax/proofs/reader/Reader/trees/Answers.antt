use Rattle.std.proofs.Common.{◌∙◌, ◌∷◌, [], List, ap, sym, subst, length, length-append, lit<, arith}
use Rattle.spd_lex.specs.declared.token.Kind.TheVariants.{Open}
use Rattle.spd_syntax.specs.declared.file.Quantity.TheVariants.{Reward}
use Rattle.spd_syntax.specs.declared.file.Shape.{Shape}
use Rattle.spd_syntax.specs.Positions.{tree, more_parts}
use Rattle.spd_syntax.specs.Grammar.{IsTree}
use Rattle.spd_syntax.specs.Files.{Each}
use Rattle.spd_syntax.proofs.Moves.{refused_exit, same_exit, one_longer}
use Rattle.spd_syntax.proofs.FileMoves.{trees_inside, trees_end, each_more}
use Rattle.spd_syntax.proofs.reader.Reader.trees.Goals as goal

pub returns-in_err-tree-clause-err : goal.returns-in_err-tree-clause-err
returns-in_err-tree-clause-err c =
    let file = c.args.self.now.file.now in
    let u = c.in_err-tree.field-0.0 in
    same_exit file (tree Reward 0 ∷ more_parts ∷ []) c.args.tokens.now c.from_residual-in_err-tree.result u c.from_residual-in_err-tree.ensures.1
    (trees_inside file c.loop-inside.trees c.args.tokens.now c.loop-inside.rest.now c.in-Some.inside.now u c.loop-inside.invariant.read c.loop-inside.invariant.some c.in-Some.ensures c.in_err-tree.ensures.err)

pub loop-inside-preserved : goal.loop-inside-preserved
loop-inside-preserved c =
    let file = c.args.self.now.file.now in
    let pushed = c.in_ok-push-2.ensures.ok in
    let more = ap length pushed ∙ length-append c.loop-inside.trees (c.in_ok-tree.tree ∷ []) in
    record {
      read = subst (λ (ts : List Shape). Each (IsTree file Reward 0) ts c.args.tokens.now c.in_ok-tree.after.now) (sym pushed)
          (each_more (IsTree file Reward 0) c.loop-inside.trees c.in_ok-tree.tree c.args.tokens.now c.loop-inside.rest.now c.in_ok-tree.after.now c.loop-inside.invariant.read
          (record { shallow = lit< tt; b = c.in-Some.inside.now; opens = c.in-Some.ensures; inside = c.in_ok-tree.ensures.ok }));
      some = omega (arith, more);
      left = omega (arith, one_longer Open c.loop-inside.rest.now c.in-Some.inside.now c.in-Some.ensures, c.in_ok-tree.ensures.shorter, c.loop-inside.invariant.left);
    }

pub returns-in_err-rest-clause-err : goal.returns-in_err-rest-clause-err
returns-in_err-rest-clause-err c =
    let file = c.args.self.now.file.now in
    let f = c.in_err-rest.field-0.0 in
    refused_exit file (tree Reward 0 ∷ more_parts ∷ []) c.args.tokens.now c.from_residual-in_err-rest.result f c.from_residual-in_err-rest.ensures.1
    (trees_end file c.loop-inside.trees c.args.tokens.now c.loop-inside.rest.now f c.loop-inside.invariant.read c.loop-inside.invariant.some c.in_default.ensures c.in_err-rest.ensures.err)
