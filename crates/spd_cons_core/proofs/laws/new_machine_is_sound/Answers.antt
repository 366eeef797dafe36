use Rattle.spd_cons_core.proofs.Runs.{new_sized, new_sound}
use Rattle.spd_cons_core.proofs.laws.new_machine_is_sound.Goals as goal

pub returns-clause-sized : goal.returns-clause-sized
returns-clause-sized c = new_sized

pub returns-clause-sound : goal.returns-clause-sound
returns-clause-sound c = new_sound
