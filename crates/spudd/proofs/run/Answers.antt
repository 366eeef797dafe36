-- The place of the system was asked for no name, and one that remembers shows the same.
use Rattle.std.proofs.Common.{ap, ◌∙◌}
use Rattle.spudd.proofs.run.Goals as goal

pub solve_run-status-requires-clause-fresh : goal.solve_run-status-requires-clause-fresh
solve_run-status-requires-clause-fresh g c κs within = λ name. ap (λ direction. direction.stage name) c.new-place.ensures.inputs ∙ c.new.ensures.inputs name
