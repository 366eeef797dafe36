use Rattle.std.proofs.Common.{◌-◌}
use Rattle.spd_turn.proofs.rooms.+turn_in_room.Given as goal

abbrev pub decreases-turn_in_room : goal.decreases-turn_in_room
decreases-turn_in_room g l = l.options.nodes - l.room
