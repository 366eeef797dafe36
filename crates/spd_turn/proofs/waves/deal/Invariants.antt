use Rattle.std.proofs.Common.{◌≡◌, ◌+◌, ◌-◌, ◌≤◌, length}
use Rattle.spd_nodes.specs.Grove.{shown_of, standing_of}
use Rattle.spd_turn.specs.Waves.{EachFrom, IsDealt}
use Rattle.spd_turn.proofs.waves.deal.Given as goal

abbrev pub invariant-loop-tables : goal.invariant-loop-tables
invariant-loop-tables l = record {
  shows : shown_of l.grove ≡ shown_of l.initial.grove;
  sizes : l.grove.sizes ≡ l.initial.grove.sizes;
  standing : standing_of l.grove ≡ record (standing_of l.initial.grove) { splits = l.initial.grove.seat.mind.splits - length l.yielded };
  count : length l.jobs.items ≡ length l.yielded;
  room : length l.fn.lanes.items ≤ l.jobs.cap;
  action : l.action ≡ l.fn.first + length l.yielded;
  dealt : EachFrom (IsDealt l.initial.grove.seat.table (shown_of l.initial.grove) l.thawed l.w) l.fn.first l.jobs.items;
}
