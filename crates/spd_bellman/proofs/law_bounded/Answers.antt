use Rattle.spd_model.proofs.CallerLemmas.Bounded.{turn_limited, return_limited, floor_keeps, ceil_keeps}
use Rattle.spd_scaled.specs.Scaled.{floor_div, ceil_div}
use Rattle.spd_bellman.proofs.law_bounded.Goals as goal

pub returns-clause-turns : goal.returns-clause-turns
returns-clause-turns c = λ m law valid span some k. turn_limited m law valid span k

pub returns-clause-below : goal.returns-clause-below
returns-clause-below c = λ m law valid w bounded a offered. return_limited m law valid floor_div floor_keeps w bounded a offered

pub returns-clause-above : goal.returns-clause-above
returns-clause-above c = λ m law valid w bounded a offered. return_limited m law valid ceil_div ceil_keeps w bounded a offered
