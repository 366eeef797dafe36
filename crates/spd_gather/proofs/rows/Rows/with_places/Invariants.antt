use Rattle.std.proofs.Common.{◌≡◌, None, All, length}
use Rattle.spd_gather.proofs.rows.Rows.with_places.Given as goal

abbrev pub invariant-loop : goal.invariant-loop
invariant-loop l = record {
  empty : All (λ place. place ≡ None) l.answers.items;
  count : length l.answers.items ≡ l.counter;
}
