-- To follow a policy, or one for each number of steps left, is a course of action.
use Rattle.std.proofs.Common.{◌≡◌, ℕ, zero, suc, ◌^◌, ◌<◌, ◌≤◌, List, [], ◌∷◌, length, Contains, ℤ, pos, ◌+ℤ◌, ◌*ℤ◌, ◌⊎◌, inl, inr, refl, ap, sym, ◌∙◌, arith}
use Rattle.std.specs.Prelude.{slice_get, Option, Some, None}
use Rattle.std.proofs.lemmas.Bool.{cases_lt}
use Rattle.std.proofs.lemmas.Option.{slice_get_within, get_or_from_slice_get}
use Rattle.spd_model.specs.declared.process.Action.{Action}
use Rattle.spd_model.specs.Process.{Process}
use Rattle.spd_model.specs.States.{sizes, IsState}
use Rattle.spd_model.specs.Chances.{reward_of, scale_of}
use Rattle.spd_bellman.specs.Courses.{Chances, Course, stop, act, exact_return, return_of_course, IsPolicy, return_of_policy, IsAmongCourses}
use Rattle.spd_model.proofs.CallerLemmas.Sums.{sum_over_states-cong}

-- ---- actions by their numbers

pub numbered : {X : Type 0} (xs : List X) (k : ℕ) → k < length xs → (x : X) × (slice_get xs k ≡ Some x)
numbered [] k near = absurd (omega arith)
numbered (x ∷ xs) zero near = (x, refl)
numbered (x ∷ xs) (suc k) near = numbered xs k (omega arith)

pub offered_by : (m : Process) (k : ℕ) (a : Action) → slice_get m.actions k ≡ Some a → Contains m.actions a
offered_by m k a is = (k, slice_get_within m.actions k a is, get_or_from_slice_get m.actions k a a is)

-- the return of one step more by policies, at a state to which they give this action
pub step-return_of_policy : (m : Process) (chances : ℕ → Chances) (w : List ℕ → ℤ) (policy : ℕ → List ℕ → ℕ) (n : ℕ) (s : List ℕ) (a : Action)
    → slice_get m.actions (policy (suc n) s) ≡ Some a
    → return_of_policy m chances w policy (suc n) s ≡ exact_return m (chances (suc n)) (scale_of m ^ suc n) (return_of_policy m chances w policy n) a s
step-return_of_policy m chances w policy n s a is =
    ap (λ (o : Option Action). elim o [
      | None ↦ pos 0
      | Some b ↦ exact_return m (chances (suc n)) (scale_of m ^ suc n) (return_of_policy m chances w policy n) b s
    ]) is

-- ---- the course of policies

module _ (m : Process) (policy : ℕ → List ℕ → ℕ) (is_policy : (left : ℕ) → IsPolicy m (policy left)) (other : Action) (offered : Contains m.actions other) where
  -- an action's number is tested, since a list that is no state may have any
  abbrev Tested : ℕ → Type 0
  Tested k = (k < length m.actions) ⊎ (length m.actions ≤ k)

  -- the action of a number
  abbrev action_of : (k : ℕ) → Tested k → (a : Action) × Contains m.actions a
  action_of k (inl near) = let chosen = numbered m.actions k near in (chosen.0, offered_by m k chosen.0 chosen.1)
  action_of k (inr far) = (other, offered)

  abbrev course_of_policy : (n : ℕ) → List ℕ → Course m n
  course_of_policy zero s = stop
  course_of_policy (suc n) s =
      let first = action_of (policy (suc n) s) (cases_lt (policy (suc n) s) (length m.actions)) in act first.0 first.1 (course_of_policy n)

  module _ (chances : ℕ → Chances) (w : List ℕ → ℤ) where
    -- the course and the policies return the same from s
    abbrev IsSame : ℕ → List ℕ → Type 0
    IsSame n s = return_of_course m chances w (course_of_policy n s) s ≡ return_of_policy m chances w policy n s

    one_more : (n : ℕ) → ((t : List ℕ) → IsState (sizes m) t → IsSame n t) → (s : List ℕ) → IsState (sizes m) s
        → (tested : Tested (policy (suc n) s))
        → let first = action_of (policy (suc n) s) tested in
        return_of_course m chances w (act first.0 first.1 (course_of_policy n)) s ≡ return_of_policy m chances w policy (suc n) s
    one_more n same s is (inl near) =
        let chosen = numbered m.actions (policy (suc n) s) near in
        let a = chosen.0 in
        ap (λ x. pos (scale_of m ^ suc n) *ℤ reward_of m a s +ℤ pos m.discount *ℤ x)
        (sum_over_states-cong (sizes m) _ _ (λ t there. ap (λ x. chances (suc n) a s t *ℤ x) (same t there)))
        ∙ sym (step-return_of_policy m chances w policy n s a chosen.1)
    one_more n same s is (inr far) = let near = is_policy (suc n) s is in absurd (omega arith)

    same_return : (n : ℕ) (s : List ℕ) → IsState (sizes m) s → IsSame n s
    same_return zero s is = refl
    same_return (suc n) s is = one_more n (same_return n) s is (cases_lt (policy (suc n) s) (length m.actions))

-- from each state some course returns what the policies do
pub among_courses : (m : Process) (policy : ℕ → List ℕ → ℕ) → ((left : ℕ) → IsPolicy m (policy left)) → IsAmongCourses m policy
among_courses m policy is_policy n s is =
    let chosen = numbered m.actions (policy 0 s) (is_policy 0 s is) in
    let offered = offered_by m (policy 0 s) chosen.0 chosen.1 in
    (course_of_policy m policy is_policy chosen.0 offered n s, λ chances w. same_return m policy is_policy chosen.0 offered chances w n s is)
