use Rattle.std.proofs.Common.{◌++◌, codes, flat_map, append_assoc, ◌∙◌, refl}
use Rattle.spd_model.specs.Numbers.{numbers_below}
use Rattle.spd_gen.specs.Ring.{line, noop_text, reboot_text}
use Rattle.spd_gen.specs.inner.Lines.{variables_text, reward_text}
use Rattle.spd_gen.proofs.WritingLaws.{writes-then, writes-exit}
use Rattle.spd_gen.proofs.ring.put_file.Goals as goal

pub returns-in_err-put_variables : goal.returns-in_err-put_variables
returns-in_err-put_variables g c =
    let n = c.args.n in
    let a = variables_text n in
    let b = noop_text n in
    let d = flat_map (reboot_text n) (numbers_below n) in
    let e = reward_text n in
    let f = line (codes "discount 0.95") ++ line (codes "tolerance 0.1") in
    writes-exit _ _ a _ (b ++ (d ++ (e ++ f))) _ _ c.from_residual.ensures.0
    (append_assoc ((a ++ b) ++ d) e f ∙ append_assoc (a ++ b) d (e ++ f) ∙ append_assoc a b (d ++ (e ++ f))) c.in_err-put_variables.ensures

pub returns-in_err-put_noop : goal.returns-in_err-put_noop
returns-in_err-put_noop g c =
    let n = c.args.n in
    let a = variables_text n in
    let b = noop_text n in
    let d = flat_map (reboot_text n) (numbers_below n) in
    let e = reward_text n in
    let f = line (codes "discount 0.95") ++ line (codes "tolerance 0.1") in
    writes-exit _ _ (a ++ b) _ (d ++ (e ++ f)) _ _ c.from_residual-in_err-put_noop.ensures.0
    (append_assoc ((a ++ b) ++ d) e f ∙ append_assoc (a ++ b) d (e ++ f))
    (writes-then _ _ _ _ _ _ _ c.in_ok-put_variables.ensures c.in_err-put_noop.ensures)

pub returns-in_err-put_reboots : goal.returns-in_err-put_reboots
returns-in_err-put_reboots g c =
    let n = c.args.n in
    let a = variables_text n in
    let b = noop_text n in
    let d = flat_map (reboot_text n) (numbers_below n) in
    let e = reward_text n in
    let f = line (codes "discount 0.95") ++ line (codes "tolerance 0.1") in
    writes-exit _ _ ((a ++ b) ++ d) _ (e ++ f) _ _ c.from_residual-in_err-put_reboots.ensures.0 (append_assoc ((a ++ b) ++ d) e f)
    (writes-then _ _ _ _ _ _ _ (writes-then _ _ _ _ _ _ _ c.in_ok-put_variables.ensures c.in_ok-put_noop.ensures) c.in_err-put_reboots.ensures)

pub returns-in_err-put_reward : goal.returns-in_err-put_reward
returns-in_err-put_reward g c =
    let n = c.args.n in
    writes-exit _ _ (((variables_text n ++ noop_text n) ++ flat_map (reboot_text n) (numbers_below n)) ++ reward_text n) _ (line (codes "discount 0.95") ++ line (codes "tolerance 0.1")) _ _
    c.from_residual-in_err-put_reward.ensures.0 refl
    (writes-then _ _ _ _ _ _ _ (writes-then _ _ _ _ _ _ _ (writes-then _ _ _ _ _ _ _ c.in_ok-put_variables.ensures c.in_ok-put_noop.ensures) c.in_ok-put_reboots.ensures) c.in_err-put_reward.ensures)

pub returns : goal.returns
returns g c =
    writes-then _ _ _ _ _ _ _
    (writes-then _ _ _ _ _ _ _
    (writes-then _ _ _ _ _ _ _ (writes-then _ _ _ _ _ _ _ c.in_ok-put_variables.ensures c.in_ok-put_noop.ensures) c.in_ok-put_reboots.ensures)
    c.in_ok-put_reward.ensures)
    c.put.ensures
