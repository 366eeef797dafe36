use Rattle.std.proofs.Common.{◌∷◌, []}
use Rattle.spd_syntax.specs.declared.file.Quantity.TheVariants.{Diagram}
use Rattle.spd_syntax.specs.Positions.{dd_name, dd_end, tree}
use Rattle.spd_syntax.proofs.Moves.{refused_exit, same_exit, faults_more}
use Rattle.spd_syntax.proofs.FileMoves.{dd_names, dd_tree, dd_ends, enddd_at}
use Rattle.spd_syntax.proofs.reader.Reader.dd.Goals as goal

pub returns-in_err-name-clause-err : goal.returns-in_err-name-clause-err
returns-in_err-name-clause-err c =
    let file = c.args.self.now.file.now in
    let n = c.args.counts.dds in
    refused_exit file (dd_name n ∷ tree Diagram 0 ∷ dd_end ∷ []) c.args.tokens.now c.from_residual.result c.in_err-name.field-0.0 c.from_residual.ensures.1
    (faults_more file (tree Diagram 0 ∷ dd_end ∷ []) (dd_name n ∷ []) c.args.tokens.now c.in_err-name.field-0.0 (c.in_err-name.ensures.err (dd_name n) [] (dd_names n)))

pub returns-in_err-tree-clause-err : goal.returns-in_err-tree-clause-err
returns-in_err-tree-clause-err c =
    let file = c.args.self.now.file.now in
    let n = c.args.counts.dds in
    same_exit file (dd_name n ∷ tree Diagram 0 ∷ dd_end ∷ []) c.args.tokens.now c.from_residual-in_err-tree.result c.in_err-tree.field-0.0 c.from_residual-in_err-tree.ensures.1
    (dd_tree file n c.in_ok-name.name c.args.tokens.now c.in_ok-name.rest.now c.in_err-tree.field-0.0 c.in_ok-name.ensures.ok c.in_ok-name.ensures.room c.in_err-tree.ensures.err)

pub returns-in_err-rest-clause-err : goal.returns-in_err-rest-clause-err
returns-in_err-rest-clause-err c =
    let file = c.args.self.now.file.now in
    let n = c.args.counts.dds in
    refused_exit file (dd_name n ∷ tree Diagram 0 ∷ dd_end ∷ []) c.args.tokens.now c.from_residual-in_err-rest.result c.in_err-rest.field-0.0 c.from_residual-in_err-rest.ensures.1
    (dd_ends file n c.in_ok-name.name c.in_ok-tree.tree c.args.tokens.now c.in_ok-name.rest.now c.in_ok-tree.rest.now c.in_err-rest.field-0.0 c.in_ok-name.ensures.ok c.in_ok-name.ensures.room c.in_ok-tree.ensures.ok (c.in_err-rest.ensures.err dd_end [] enddd_at))
