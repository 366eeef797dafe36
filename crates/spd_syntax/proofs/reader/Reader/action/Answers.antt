use Rattle.std.proofs.Common.{◌∷◌, []}
use Rattle.spd_syntax.specs.Positions.{action_name, item, one_action}
use Rattle.spd_syntax.proofs.Moves.{refused_exit, same_exit, faults_more}
use Rattle.spd_syntax.proofs.FileMoves.{action_names, action_items}
use Rattle.spd_syntax.proofs.reader.Reader.action.Goals as goal

pub returns-in_err-name-clause-err : goal.returns-in_err-name-clause-err
returns-in_err-name-clause-err c =
    let file = c.args.self.now.file.now in
    let n = c.args.counts.actions in
    let next = item (one_action c.args.counts) in
    refused_exit file (action_name n ∷ next ∷ []) c.args.tokens.now c.from_residual.result c.in_err-name.field-0.0 c.from_residual.ensures.1
    (faults_more file (next ∷ []) (action_name n ∷ []) c.args.tokens.now c.in_err-name.field-0.0 (c.in_err-name.ensures.err (action_name n) [] (action_names n)))

pub returns-in_err-items-clause-err : goal.returns-in_err-items-clause-err
returns-in_err-items-clause-err c =
    let file = c.args.self.now.file.now in
    let n = c.args.counts.actions in
    let u = c.in_err-items.field-0.0 in
    let k = one_action c.args.counts in
    same_exit file (action_name n ∷ item k ∷ []) c.args.tokens.now c.from_residual-in_err-items.result u c.from_residual-in_err-items.ensures.1
    (action_items file n (item k) c.in_ok-name.name c.args.tokens.now c.in_ok-name.rest.now u c.in_ok-name.ensures.ok c.in_ok-name.ensures.room (c.in_err-items.ensures.err k))
