-- Which variables' next values a table of probabilities follows.
use Rattle.std.specs.Prelude.{ℕ, suc, max, nat_le, if◌then◌else◌, List, length, map, fold, slice_get, Some, None}
use Rattle.spd_model.specs.declared.process.Action.{Action}
use Rattle.spd_model.specs.Process.{Process}
use Rattle.spd_model.specs.Numbers.{numbers_below}
use Rattle.spd_model.specs.Trees.{Reading, read_in}
use Rattle.spd_plain.specs.declared.reach.Reach.{Reach}
use Rattle.spd_plain.specs.declared.reach.Reach.TheVariants.{Own, Later}

-- one more than the number of the last variable whose next value a tree follows, or 0 where it follows none
abbrev pub latest : Reading ℕ
latest = record {
  leaf = λ x. 0;
  branch = λ var primed kids. fold max (if primed then suc var else 0) kids;
  absent = 0;
}

-- the reach of an action's table for the variable i
abbrev pub reach_at : Process → Action → ℕ → Reach
reach_at m a i = elim (slice_get a.tables i) [ None ↦ Later | Some tree ↦ if nat_le (read_in latest m tree) (suc i) then Own else Later ]

-- the reach of each of an action's tables, and of each action's
abbrev pub reaches_after : Process → Action → List Reach
reaches_after m a = map (reach_at m a) (numbers_below (length m.vars))

abbrev pub reaches_of : Process → List (List Reach)
reaches_of m = map (reaches_after m) m.actions

-- for how many of `after` places of the variables after its own a table may have other probabilities
abbrev pub places_of : Reach → ℕ → ℕ
places_of Own after = 1
places_of Later after = after
