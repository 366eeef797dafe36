-- For crates above: the functions of a turn's parts, what a full forest tells of the number of nodes, the diagrams of functions of the present
-- state, the bounds of actions that are backed up, the value of a turn and its list at turn 0, when a turn can be finished, what is told of it,
-- at which turns of a run the stop rule doesn't hold, and where a run stops.
pub use Rattle.spd_turn.proofs.AttemptLaws.{can-finish}
pub use Rattle.spd_turn.proofs.CountLaws.{store-more-nodes}
pub use Rattle.spd_turn.proofs.FinishLaws.{present-of, turn-bounded}
pub use Rattle.spd_turn.proofs.PlainLaws.{stands-plain}
pub use Rattle.spd_turn.proofs.RunLaws.{one-more, start-value}
pub use Rattle.spd_turn.proofs.StopLaws.{answer-stops, stop-told}
pub use Rattle.spd_turn.proofs.TurnLaws.{among-backups, among-finish, among-process, among-value, backed-bounds, turn-told}
pub use Rattle.spd_turn.proofs.WaveLaws.{some-action}
