use Rattle.std.proofs.Common.{◌∷◌, [], ◌++◌, ◌∙◌, ap, List}
use Rattle.std.proofs.lemmas.Result.{IfOk-weaker, IfErr-weaker}
use Rattle.spd_syntax.specs.declared.file.Shape.{Shape}
use Rattle.spd_syntax.specs.Positions.{part}
use Rattle.spd_syntax.specs.Files.{a_tree, a_sum}
use Rattle.spd_syntax.proofs.Moves.{same_exit}
use Rattle.spd_syntax.proofs.FileMoves.{part_of_tree, part_of_sum}
use Rattle.spd_syntax.proofs.reader.Reader.parts.Goals as goal

pub returns-in-Some-clause-ok : goal.returns-in-Some-clause-ok
returns-in-Some-clause-ok c = IfOk-weaker c.sum.result _ _ (λ x is. a_sum c.in-Some.inside.now c.in-Some.ensures is) c.sum.ensures.ok

pub returns-in-Some-clause-err : goal.returns-in-Some-clause-err
returns-in-Some-clause-err c =
    IfErr-weaker c.sum.result _ _ (λ e fails. part_of_sum c.args.self.now.file.now c.args.tokens.now c.in-Some.inside.now e c.in-Some.ensures fails) c.sum.ensures.err

pub returns-in_err-tree-clause-err : goal.returns-in_err-tree-clause-err
returns-in_err-tree-clause-err c =
    let file = c.args.self.now.file.now in
    let u = c.in_err-tree.field-0.0 in
    same_exit file (part ∷ []) c.args.tokens.now c.from_residual.result u c.from_residual.ensures.1 (part_of_tree file c.args.tokens.now u c.in_default.ensures c.in_err-tree.ensures.err)

pub returns-clause-ok : goal.returns-clause-ok
returns-clause-ok c = a_tree c.in_ok-tree.tree (c.in_ok-push.ensures.ok ∙ ap (λ (l : List Shape). l ++ c.in_ok-tree.tree ∷ []) c.new-trees.ensures) c.in_ok-tree.ensures.ok
