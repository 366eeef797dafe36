use Rattle.std.proofs.Common.{◌≡◌, ◌≤◌, take}
use Rattle.spd_model.specs.States.{sizes, state_count}
use Rattle.spd_stage_rows.proofs.values.count_states.Given as goal

abbrev pub invariant-loop-var : goal.invariant-loop-var
invariant-loop-var l = record {
  count : l.count ≡ state_count (take l.var-index (sizes l.model));
  few : l.count ≤ 4096;
}
