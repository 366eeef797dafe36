-- What a forest has of a certificate on the way to its verdict.
use Rattle.std.specs.Prelude.{◌≡◌, ℕ, ◌||◌, if◌then◌else◌, Bool, true, List, ℤ, pos, find, Option, option_map, Result, IfOk}
use Rattle.spd_cons_core.specs.declared.key.Entry.{Entry}
use Rattle.spd_model.specs.declared.Side.TheVariants.{Above, Below}
use Rattle.spd_model.specs.Process.{Process}
use Rattle.spd_model.specs.Lawful.{IsLawful}
use Rattle.spd_model.specs.Chances.{IsValid}
use Rattle.spd_model.specs.Reduced.{Node}
use Rattle.spd_model.specs.States.{sizes, states}
use Rattle.spd_model.specs.Backup.{best_high}
use Rattle.spd_model.specs.Turns.{gap_above, IsBounded}
use Rattle.spd_nodes.specs.declared.forest.StoreFault.{StoreFault}
use Rattle.spd_nodes.specs.declared.leaf.Leaf.{Leaf}
use Rattle.spd_nodes.specs.declared.leaf.Leaf.TheVariants.{Num, Pair, Act}
use Rattle.spd_nodes.specs.Made.{HasMade, MakesAll}
use Rattle.spd_nodes.specs.Shown.{Shown, IsWhole, StandsFor, meaning}
use Rattle.spd_build.specs.declared.built.BuildFault.{BuildFault}
use Rattle.spd_build.specs.declared.built.BuildFault.TheVariants as B
use Rattle.spd_build.specs.Functions.{numbers}
use Rattle.spd_backup.specs.declared.backing.Bounds.{Bounds}
use Rattle.spd_bellman.specs.Courses.{IsPolicy}
use Rattle.spd_policy.specs.Best.{AreBoundsOf}
use Rattle.spd_residual.specs.Residual.{first_upper}
use Rattle.spd_turn.specs.Jobs.{CanBackUp}
use Rattle.spd_turn.specs.Turn.{present_value}
use Rattle.spd_check.specs.declared.verdict.CheckFault.{CheckFault}
use Rattle.spd_check.specs.declared.verdict.CheckFault.TheVariants as C
use Rattle.spd_check.specs.declared.given.Given.{Given}
use Rattle.spd_check.specs.declared.gaps.GapDiagrams.{GapDiagrams}
use Rattle.spd_check.specs.declared.first.Failure.{Failure}
use Rattle.spd_check.specs.Certificates.{gap_own, policy_by}
use Rattle.spd_check.specs.Functions.{chosen, given_functions, highest_functions, highest_among, own_functions, own_among, gap_functions}

-- a fault of building, where a forest may hold so many nodes
abbrev pub told_build_fault : ℕ → BuildFault → CheckFault
told_build_fault nodes (B.Sum action var state sum) = C.Sum action var state sum
told_build_fault nodes (B.Range action state value) = C.Range action state value
told_build_fault nodes B.Full = C.NodeLimit true nodes
told_build_fault nodes B.Memory = C.Memory

-- a lawful, valid process, a value within limits, and a policy that names an action at each state
pub record CanCheck (m : Process) (w : List ℕ → ℤ) (policy : List ℕ → ℕ) : Type 0 where
  pub law : IsLawful m
  pub valid : IsValid m
  pub bounded : IsBounded (sizes m) w
  pub named : IsPolicy m policy

-- the process's parts, the value and the policy as diagrams
pub record AreGiven (m : Process) (w : List ℕ → ℤ) (policy : List ℕ → ℕ) (s : Shown) (g : Given) : Type 0 where
  pub can : CanBackUp m w s g.thawed g.w
  pub value : StandsFor s g.w (present_value w)
  pub act : StandsFor s g.act (chosen policy)

-- a call that makes them
pub record MakesGiven (m : Process) (w : List ℕ → ℤ) (policy : List ℕ → ℕ) (old new : Shown) (result : Result Given StoreFault) : Type 0 where
  pub made : MakesAll old new (given_functions m w policy) result
  pub ok : IfOk result (AreGiven m w policy new)

-- the bounds of all actions where some value follows
pub record AreSomeBounds (s : Shown) (bounds : List Bounds) : Type 0 where
  pub process : Process
  pub value : List ℕ → ℤ
  pub are : AreBoundsOf process value s bounds

-- the greatest upper bound of the first n actions is made, on the way nodes of such bounds alone
pub record HasHighest (m : Process) (w : List ℕ → ℤ) (old s : Shown) (n : ℕ) (high : Entry) : Type 0 where
  pub made : HasMade old s (highest_functions m w)
  pub stands : StandsFor s high (highest_among m w n)

-- the bounds of all actions where a value follows, and a policy
pub record AreBeside (m : Process) (w : List ℕ → ℤ) (policy : List ℕ → ℕ) (s : Shown) (bounds : List Bounds) (act : Entry) : Type 0 where
  pub layout : s.sizes ≡ sizes m
  pub named : IsPolicy m policy
  pub all : AreBoundsOf m w s bounds
  pub acts : StandsFor s act (chosen policy)

-- those of some process, value and policy
pub record AreSomeBeside (s : Shown) (bounds : List Bounds) (act : Entry) : Type 0 where
  pub process : Process
  pub value : List ℕ → ℤ
  pub policy : List ℕ → ℕ
  pub are : AreBeside process value policy s bounds act

-- the policy beside the lower bound of its action, as far as that is one of the first n, is made
pub record HasOwn (m : Process) (w : List ℕ → ℤ) (policy : List ℕ → ℕ) (old s : Shown) (n : ℕ) (kept : Entry) : Type 0 where
  pub made : HasMade old s (own_functions m w policy)
  pub stands : StandsFor s kept (own_among m w policy n)

-- an action's number beside 0; another leaf stays
abbrev pub beside_zero : Leaf → Leaf
beside_zero (Num x) = Num x
beside_zero (Pair x y) = Pair x y
beside_zero (Act a) = Pair (pos a) (pos 0)

-- the diagrams of both gaps stand for them
pub record AreGaps (m : Process) (w : List ℕ → ℤ) (policy : List ℕ → ℕ) (s : Shown) (d : GapDiagrams) : Type 0 where
  pub above : StandsFor s d.above (numbers (λ x y. gap_above m w x))
  pub below : StandsFor s d.below (numbers (λ x y. gap_own m w policy x))

-- a call that makes them
pub record MakesGaps (m : Process) (w : List ℕ → ℤ) (policy : List ℕ → ℕ) (old new : Shown) (result : Result GapDiagrams StoreFault) : Type 0 where
  pub made : MakesAll old new (gap_functions m w policy) result
  pub ok : IfOk result (AreGaps m w policy new)

-- the number of the action by which a certificate fails, as a forest has it: above that of the first upper bound that is the greatest one,
-- below the policy's
abbrev pub action_by : Shown → List Bounds → Entry → List (Node Leaf) → Failure → ℕ
action_by s bounds high policy failure = elim failure.side [
  | Above ↦ first_upper s bounds (meaning s high failure.state failure.state) failure.state
  | Below ↦ policy_by policy failure.state
]

-- both gaps are whole entries that are known
pub record AreWhole (s : Shown) (d : GapDiagrams) : Type 0 where
  pub above_known : s.knows d.above ≡ true
  pub above_whole : IsWhole s d.above
  pub below_known : s.knows d.below ≡ true
  pub below_whole : IsWhole s d.below

-- a state with the side of which of two rules holds there, the first one before the second
abbrev pub sided : (List ℕ → Bool) → List ℕ → Failure
sided above x = if above x then record { state = x; side = Above } else record { state = x; side = Below }

-- the first state at which one of two rules holds, with its side
abbrev pub first_of_both : List ℕ → (List ℕ → Bool) → (List ℕ → Bool) → Option Failure
first_of_both sizes above below = option_map (sided above) (find (λ x. above x || below x) (states sizes))

-- what a forest has of a certificate that is judged: the bounds of all actions, the greatest upper one, and the gaps
pub record CanJudge (m : Process) (w : List ℕ → ℤ) (policy : List ℕ → ℕ) (s : Shown) (bounds : List Bounds) (high : Entry) (d : GapDiagrams) : Type 0 where
  pub can : CanCheck m w policy
  pub layout : s.sizes ≡ sizes m
  pub all : AreBoundsOf m w s bounds
  pub highest : StandsFor s high (numbers (λ x y. best_high m w x))
  pub gaps : AreGaps m w policy s d
