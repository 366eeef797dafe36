-- What the bounds of all actions of a valid process are, where a value within limits follows.
use Rattle.std.proofs.Common.{◌≡◌, ℕ, suc, ◌<◌, Bool, true, false, if◌then◌else◌, List, [], ◌∷◌, map, length, refl, ap, subst, arith, ℤ, ◌≤ℤ◌, All, Contains}
use Rattle.std.specs.List.{AllZip}
use Rattle.std.specs.Ordering.{int_eq}
use Rattle.std.proofs.lemmas.List.{length-map}
use Rattle.std.proofs.lemmas.List.Elements.{All-nil, All-cons, All-head, All-tail, All-contains_itself}
use Rattle.std.proofs.lemmas.Option.{slice_get_within}
use Rattle.spd_model.specs.declared.process.Action.{Action}
use Rattle.spd_model.specs.declared.Side.TheVariants.{Above, Below}
use Rattle.spd_model.specs.Process.{Process}
use Rattle.spd_model.specs.Backup.{high_of, best_high, policy_of, highest_of}
use Rattle.spd_model.specs.Turns.{Place, place_of, gap_above, state_of_residual}
use Rattle.spd_model.proofs.CallerLemmas.Gaps.{policy_near}
use Rattle.spd_model.proofs.CallerLemmas.Greatest.{first_place_reads, greatest_reached}
use Rattle.spd_nodes.specs.Shown.{Shown, StandsFor}
use Rattle.spd_weigh.specs.declared.way.Way.TheVariants.{Down, Up}
use Rattle.spd_backup.specs.declared.backing.Bounds.{Bounds}
use Rattle.spd_backup.specs.Expected.{bound}
use Rattle.spd_policy.specs.Best.{lows_of, highs_of, AreBoundsOf}

-- ---- what holds of the bounds of each action

module _ (m : Process) (w : List ℕ → ℤ) (s : Shown) (P : Bounds → Type 0) (f : (b : Bounds) (a : Action) → Contains m.actions a → StandsFor s b.lo (bound Down m a w) → StandsFor s b.hi (bound Up m a w) → P b) where
  each-of : (cs : List Action) (bs : List Bounds) → All (Contains m.actions) cs → AllZip (StandsFor s) (lows_of bs) (map (λ a. bound Down m a w) cs)
      → AllZip (StandsFor s) (highs_of bs) (map (λ a. bound Up m a w) cs) → All P bs
  each-of [] [] h l u = All-nil P
  each-of (a ∷ cs) [] h l u = absurd l
  each-of [] (b ∷ bs) h l u = absurd l
  each-of (a ∷ cs) (b ∷ bs) h l u =
      All-cons P b bs (f b a (All-head (Contains m.actions) a cs h) l.0 u.0) (each-of cs bs (All-tail (Contains m.actions) a cs h) l.1 u.1)

  pub each-bounds : (bs : List Bounds) → AreBoundsOf m w s bs → All P bs
  each-bounds bs h = each-of m.actions bs (All-contains_itself m.actions) h.low h.high

count-of : (s : Shown) (m : Process) (w : List ℕ → ℤ) (cs : List Action) (bs : List Bounds) → AllZip (StandsFor s) (lows_of bs) (map (λ a. bound Down m a w) cs) → length bs ≡ length cs
count-of s m w [] [] l = refl
count-of s m w (a ∷ cs) [] l = absurd l
count-of s m w [] (b ∷ bs) l = absurd l
count-of s m w (a ∷ cs) (b ∷ bs) l = ap suc (count-of s m w cs bs l.1)

pub bounds-count : (m : Process) (w : List ℕ → ℤ) (s : Shown) (bs : List Bounds) → AreBoundsOf m w s bs → length bs ≡ length m.actions
bounds-count m w s bs h = count-of s m w m.actions bs h.low

-- ---- the action at the residual's place

choice-near : (b : Bool) (p q : Place) (n : ℕ) → p.action < n → q.action < n → (if b then p else q).action < n
choice-near true p q n h k = h
choice-near false p q n h k = k

highest-near : (m : Process) (w : List ℕ → ℤ) → 0 < length m.actions → (s : List ℕ) → highest_of m w s < length m.actions
highest-near m w some s =
    let highs = map (λ a. high_of m w a s) m.actions in
    subst (λ n. highest_of m w s < n) (length-map m.actions (λ a. high_of m w a s))
    (slice_get_within highs (highest_of m w s) (best_high m w s) (first_place_reads (best_high m w s) highs (greatest_reached highs (omega (arith, some, length-map m.actions (λ a. high_of m w a s))))))

pub place-near : (m : Process) (w : List ℕ → ℤ) → 0 < length m.actions → (r : ℤ) → (place_of m w r).action < length m.actions
place-near m w some r =
    let s = state_of_residual m w r in
    choice-near (int_eq r (gap_above m w s)) (record { state = s; side = Above; action = highest_of m w s }) (record { state = s; side = Below; action = policy_of m w s })
    (length m.actions) (highest-near m w some s) (policy_near m w some s)
