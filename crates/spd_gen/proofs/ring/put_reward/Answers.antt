use Rattle.std.proofs.Common.{◌++◌, ◌∷◌, [], codes, flat_map, append_assoc, refl}
use Rattle.spd_model.specs.Numbers.{numbers_below}
use Rattle.spd_gen.specs.Ring.{part_text}
use Rattle.spd_gen.proofs.WritingLaws.{writes-then, writes-exit}
use Rattle.spd_gen.proofs.ring.put_reward.Goals as goal

pub returns-in_err-put : goal.returns-in_err-put
returns-in_err-put g c =
    let each = flat_map part_text (numbers_below c.args.n) in
    let last = codes "]" ++ 10 ∷ [] in
    writes-exit _ _ (codes "reward [+") _ (each ++ last) _ _ c.from_residual.ensures.0 (append_assoc (codes "reward [+") each last) c.in_err-put.ensures

pub returns-in_err-put_each_part : goal.returns-in_err-put_each_part
returns-in_err-put_each_part g c =
    let each = flat_map part_text (numbers_below c.args.n) in
    writes-exit _ _ (codes "reward [+" ++ each) _ (codes "]" ++ 10 ∷ []) _ _ c.from_residual-in_err-put_each_part.ensures.0 refl
    (writes-then _ _ _ _ _ _ _ c.in_ok-put.ensures c.in_err-put_each_part.ensures)

pub returns : goal.returns
returns g c = writes-then _ _ _ _ _ _ _ (writes-then _ _ _ _ _ _ _ c.in_ok-put.ensures c.in_ok-put_each_part.ensures) c.put-2.ensures
