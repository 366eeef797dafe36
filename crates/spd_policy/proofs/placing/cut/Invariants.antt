use Rattle.std.proofs.Common.{◌≡◌, ℕ, ◌<◌, ◌≤◌, length, get_or}
use Rattle.spd_cons_core.specs.declared.key.Entry.{Entry}
use Rattle.spd_policy.proofs.placing.cut.Given as goal

abbrev pub invariant-loop-i : goal.invariant-loop-i
invariant-loop-i l = record {
  long : length l.list.items ≡ length l.fn.list.items;
  same : (k : ℕ) (d : Entry) → k < l.initial.i → get_or l.list.items k d ≡ get_or l.fn.list.items k d;
  rest : (k : ℕ) (d : Entry) → l.initial.i ≤ k → k < l.i → k < length l.list.items → get_or l.list.items k d ≡ get_or l.fn.list.items 0 d;
}
