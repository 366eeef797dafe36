use Rattle.spd_cons_core.specs.Events.{new_machine}
use Rattle.spd_cons_core.proofs.Runs.{new_sized, new_sound, run_keeps}
use Rattle.spd_cons_core.proofs.laws.every_run_is_sound.Goals as goal

pub returns : goal.returns
returns c = λ limit most count events a b d e is fit.
    run_keeps events (new_machine limit most count) (new_sized limit most count a b d e is) (new_sound limit most count d) fit
