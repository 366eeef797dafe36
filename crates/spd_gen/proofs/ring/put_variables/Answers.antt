use Rattle.std.proofs.Common.{◌++◌, ◌∷◌, [], codes, flat_map, append_assoc, refl}
use Rattle.spd_model.specs.Numbers.{numbers_below}
use Rattle.spd_gen.specs.Ring.{variable_text}
use Rattle.spd_gen.proofs.WritingLaws.{writes-then, writes-exit}
use Rattle.spd_gen.proofs.ring.put_variables.Goals as goal

pub returns-in_err-put : goal.returns-in_err-put
returns-in_err-put g c =
    let each = flat_map variable_text (numbers_below c.args.n) in
    let last = codes ")" ++ 10 ∷ [] in
    writes-exit _ _ (codes "(variables") _ (each ++ last) _ _ c.from_residual.ensures.0 (append_assoc (codes "(variables") each last) c.in_err-put.ensures

pub returns-in_err-put_each_variable : goal.returns-in_err-put_each_variable
returns-in_err-put_each_variable g c =
    let each = flat_map variable_text (numbers_below c.args.n) in
    writes-exit _ _ (codes "(variables" ++ each) _ (codes ")" ++ 10 ∷ []) _ _ c.from_residual-in_err-put_each_variable.ensures.0 refl
    (writes-then _ _ _ _ _ _ _ c.in_ok-put.ensures c.in_err-put_each_variable.ensures)

pub returns : goal.returns
returns g c = writes-then _ _ _ _ _ _ _ (writes-then _ _ _ _ _ _ _ c.in_ok-put.ensures c.in_ok-put_each_variable.ensures) c.put-2.ensures
