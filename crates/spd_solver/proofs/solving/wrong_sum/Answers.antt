use Rattle.spd_solver.proofs.SolvingLaws.{state_length}
use Rattle.spd_solver.proofs.solving.wrong_sum.Goals as goal

pub state_text-requires : goal.state_text-requires
state_text-requires c = state_length c.args.model.now c.args.state.now c.requires
