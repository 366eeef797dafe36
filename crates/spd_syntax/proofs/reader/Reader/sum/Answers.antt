use Rattle.std.proofs.lemmas.Result.{IfErr-weaker}
use Rattle.spd_syntax.proofs.FileMoves.{sum_of_trees}
use Rattle.spd_syntax.proofs.reader.Reader.sum.Goals as goal

pub returns-clause-err : goal.returns-clause-err
returns-clause-err c =
    let key = c.in_ok-rest.ensures.ok in
    IfErr-weaker c.trees.result _ _ (λ e fails. sum_of_trees c.args.self.now.file.now key.0 c.args.tokens.now c.in_ok-rest.rest.now e key.1 fails) c.trees.ensures.err
