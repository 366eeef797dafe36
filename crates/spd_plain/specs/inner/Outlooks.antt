-- What the actions of a process come to at its states.
use Rattle.std.specs.Prelude.{ℕ, ◌*◌, Bool, nat_le, if◌then◌else◌, List, [], ℤ, map, length}
use Rattle.spd_model.specs.declared.process.Action.{Action}
use Rattle.spd_model.specs.Process.{Process}
use Rattle.spd_model.specs.Numbers.{numbers_below}
use Rattle.spd_model.specs.States.{sizes, state_count, table_of}
use Rattle.spd_model.specs.Chances.{reward_of}
use Rattle.spd_plain.specs.declared.outlook.Outlook.{Outlook}
use Rattle.spd_plain.specs.inner.Chances.{values_of}
use Rattle.spd_plain.specs.inner.Reach.{reaches_after}

-- whether the probabilities that can be kept are kept: where there are few enough pairs of an action and a state
abbrev pub keeps : Process → Bool
keeps m = nat_le (length m.actions * state_count (sizes m)) 16384

-- what is kept of the probabilities after action a at s: those of each variable, or nothing
abbrev pub kept_of : Process → List ℕ → Action → List (List ℤ)
kept_of m s a = if keeps m then map (values_of m a s) (numbers_below (length m.vars)) else []

-- what an action comes to at s: its reward, the reach of each variable's table, and what is kept of its probabilities
abbrev pub outlook_of : Process → List ℕ → Action → Outlook
outlook_of m s a = record { reward = reward_of m a s; reaches = reaches_after m a; kept = kept_of m s a }

-- what each action comes to at s
abbrev pub outlooks_at : Process → List ℕ → List Outlook
outlooks_at m s = map (outlook_of m s) m.actions

-- what each action comes to at each state, one row for each state in order
abbrev pub outlooks_of : Process → List (List Outlook)
outlooks_of m = table_of (sizes m) (outlooks_at m)
