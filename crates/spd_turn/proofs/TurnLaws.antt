-- The functions of a turn's parts are among those of the turn; backed up actions have their bounds; and what is told of a turn.
use Rattle.std.proofs.Common.{◌≡◌, ◌==◌, ℕ, List, [], ◌∷◌, ◌++◌, map, ◌∙◌, ap, ℤ}
use Rattle.std.specs.List.{AllZip}
use Rattle.std.specs.Ordering.{int_eq}
use Rattle.spd_model.specs.declared.process.Action.{Action}
use Rattle.spd_model.specs.Process.{Process}
use Rattle.spd_model.specs.Reduced.{listed, reduced}
use Rattle.spd_model.specs.ResultText.{iterate_of}
use Rattle.spd_model.specs.States.{sizes, at}
use Rattle.spd_model.specs.Backup.{policy_of}
use Rattle.spd_model.specs.Turns.{Place, place_of, residual_of}
use Rattle.spd_nodes.specs.Shown.{Shown, StandsFor}
use Rattle.spd_nodes.specs.States.{Function}
use Rattle.spd_nodes.proofs.CallerLemmas.{Among, among-back, among-front, among-trans}
use Rattle.spd_frozen.specs.declared.iterate.Iterate.{Iterate}
use Rattle.spd_frozen.specs.Told.{told, with_leaf, number_of, action_of}
use Rattle.spd_frozen.proofs.CallerLemmas.{actions-told, numbers-told}
use Rattle.spd_weigh.specs.declared.way.Way.TheVariants.{Down, Up}
use Rattle.spd_backup.specs.declared.backing.Bounds.{Bounds}
use Rattle.spd_backup.specs.Expected.{bound}
use Rattle.spd_backup.specs.FromBuilt.{process_functions}
use Rattle.spd_policy.specs.Best.{lows_of, highs_of, AreBoundsOf}
use Rattle.spd_turn.specs.Waves.{all_backups, AreBackedUp}
use Rattle.spd_turn.specs.Turn.{finish_functions, present_value, turn_functions, value_of_turn, IsTurnOf}

-- ---- the functions of a turn

module _ (m : Process) (span : ℤ) (w : List ℤ) where
  abbrev own : List Function
  own = present_value (at (sizes m) w) ∷ []

  abbrev backups : List Function
  backups = all_backups m (at (sizes m) w)

  pub among-process : Among (process_functions m) (turn_functions m span w)
  among-process =
      among-trans (among-front (process_functions m) own)
      (among-trans (among-front (process_functions m ++ own) backups) (among-front ((process_functions m ++ own) ++ backups) (finish_functions m span w)))

  pub among-value : Among (present_value (at (sizes m) w) ∷ []) (turn_functions m span w)
  among-value =
      among-trans (among-back (process_functions m) own)
      (among-trans (among-front (process_functions m ++ own) backups) (among-front ((process_functions m ++ own) ++ backups) (finish_functions m span w)))

  pub among-backups : Among (all_backups m (at (sizes m) w)) (turn_functions m span w)
  among-backups =
      among-trans (among-back (process_functions m ++ own) backups) (among-front ((process_functions m ++ own) ++ backups) (finish_functions m span w))

  pub among-finish : Among (finish_functions m span w) (turn_functions m span w)
  among-finish = among-back ((process_functions m ++ own) ++ backups) (finish_functions m span w)

-- ---- the bounds of all actions

lows-backed : (m : Process) (value : List ℕ → ℤ) (s : Shown) (bs : List Bounds) (actions : List Action) → AreBackedUp m value s bs actions
    → AllZip (StandsFor s) (lows_of bs) (map (λ a. bound Down m a value) actions)
lows-backed m value s [] [] h = tt
lows-backed m value s [] (a ∷ actions) h = absurd h
lows-backed m value s (b ∷ bs) [] h = absurd h
lows-backed m value s (b ∷ bs) (a ∷ actions) h = let first = h.0 in (first.low, lows-backed m value s bs actions h.1)

highs-backed : (m : Process) (value : List ℕ → ℤ) (s : Shown) (bs : List Bounds) (actions : List Action) → AreBackedUp m value s bs actions
    → AllZip (StandsFor s) (highs_of bs) (map (λ a. bound Up m a value) actions)
highs-backed m value s [] [] h = tt
highs-backed m value s [] (a ∷ actions) h = absurd h
highs-backed m value s (b ∷ bs) [] h = absurd h
highs-backed m value s (b ∷ bs) (a ∷ actions) h = let first = h.0 in (first.high, highs-backed m value s bs actions h.1)

-- where all actions are backed up, their bounds are those of the process
pub backed-bounds : (m : Process) (value : List ℕ → ℤ) (s : Shown) (bs : List Bounds) → AreBackedUp m value s bs m.actions → AreBoundsOf m value s bs
backed-bounds m value s bs h = record { low = lows-backed m value s bs m.actions h; high = highs-backed m value s bs m.actions h }

-- ---- what is told

-- an iterate of a turn tells what the definition of the result's text reads of that turn
pub turn-told : (m : Process) (span : ℤ) (k : ℕ) (x : Iterate) → IsTurnOf m span k x → told x ≡ iterate_of m k (value_of_turn m span k)
turn-told m span k x h =
    let w = value_of_turn m span k in
    let value : map (with_leaf number_of) x.value ≡ listed int_eq (reduced int_eq (sizes m) w) = ap (map (with_leaf number_of)) h.value ∙ numbers-told (sizes m) w in
    let policy : map (with_leaf action_of) x.policy ≡ listed (λ a b. a == b) (reduced (λ a b. a == b) (sizes m) (policy_of m w)) =
    ap (map (with_leaf action_of)) h.policy ∙ actions-told (sizes m) (policy_of m w) in
    let here : Place = record { state = x.residual.at; side = x.residual.side; action = x.residual.action } in
    let place : here ≡ place_of m w (residual_of m w) = h.residual.place ∙ ap (place_of m w) h.residual.number in
    let number = h.number in
    let residual = h.residual.number in
    let error = h.error in
    λ i. record { turn = number i; residual = residual i; place = place i; error = error i; value = value i; policy = policy i }
