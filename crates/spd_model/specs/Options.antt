-- The options of a run: their limits, and what holds where none is given.
use Rattle.std.specs.Prelude.{◌^◌, ◌≤◌, pos, ◌≤ℤ◌}
use Rattle.spd_model.specs.declared.options.Options.{Options}

abbrev pub default_options : Options
default_options = record { workers = 1; nodes = 262144; turns = 10000; span = pos 0; memo = 65536 }

-- options within their limits
pub record AreOptions (options : Options) : Type 0 where
  pub least_workers : 1 ≤ options.workers
  pub most_workers : options.workers ≤ 64
  pub least_nodes : 16 ≤ options.nodes
  pub most_nodes : options.nodes ≤ 8388608
  pub most_turns : options.turns ≤ 1000000
  pub least_span : pos 0 ≤ℤ options.span
  pub most_span : options.span ≤ℤ pos (10 ^ 30)
  pub least_memo : 1 ≤ options.memo
  pub most_memo : options.memo ≤ 8388608
