-- Each step of a return of bounded values fits 128 bits.
use Rattle.std.proofs.Common.{◌≡◌, ◌∙◌, ℕ, ◌≤◌, List, length, get_or, All, Contains, ℤ, pos, ◌+ℤ◌, ◌*ℤ◌, FitsSigned, ap, sym, subst, arith}
use Rattle.std.proofs.lemmas.Int.{ints}
use Rattle.std.proofs.lemmas.List.{get_or_default}
use mir.Syntax.{w128}
use Rattle.spd_scaled.specs.Scaled.{IsWithin, floor_div}
use Rattle.spd_scaled.proofs.CallerLemmas.Magnitude.{fits_within, IsWithin-from_abs}
use Rattle.spd_model.specs.declared.process.Action.{Action}
use Rattle.spd_model.specs.Process.{Process}
use Rattle.spd_model.specs.States.{sizes, IsState}
use Rattle.spd_model.specs.Chances.{discount_one, reward_limit, reward_of, IsValid}
use Rattle.spd_model.specs.declared.Side.{Side}
use Rattle.spd_model.specs.declared.Side.TheVariants.{Above, Below}
use Rattle.spd_model.specs.Backup.{Rounding}
use Rattle.spd_model.specs.Turns.{value_limit}
use Rattle.spd_plain.specs.declared.outlook.Outlook.{Outlook}
use Rattle.spd_plain.specs.inner.Expectations.{rounding_of}
use Rattle.spd_plain.specs.inner.Outlooks.{outlook_of}
use Rattle.spd_model.proofs.CallerLemmas.Bounded.{IsLimited, KeepsWithin, floor_keeps, ceil_keeps, discounted_limit, product_within, return_within}

pub product_fits : (g : ℕ) (e : ℤ) → g ≤ 999999 → IsLimited e → FitsSigned w128 (pos g *ℤ e)
product_fits g e p h = fits_within w128 (pos discounted_limit *ℤ pos discount_one) _ (omega (arith, ints)) (product_within floor_div floor_keeps g e p h)

pub keeps_on : (side : Side) → KeepsWithin (rounding_of side)
keeps_on Above = ceil_keeps
keeps_on Below = floor_keeps

pub return_fits : (round : Rounding) → KeepsWithin round → (reward : ℤ) (g : ℕ) (e : ℤ) → IsWithin (pos reward_limit) reward → g ≤ 999999 → IsLimited e
    → FitsSigned w128 (reward +ℤ round (pos g *ℤ e) (pos discount_one))
return_fits round k reward g e r p h = fits_within w128 (pos value_limit) _ (omega (arith, ints)) (return_within round k reward g e r p h)

-- the only entry of a table
pub only_entry : (values : List ℤ) (x e : ℤ) → length values ≡ 1 → get_or values 0 (pos 0) ≡ e → x ≡ get_or values 0 x → x ≡ e
only_entry values x e count told is = is ∙ get_or_default values 0 x (pos 0) (omega arith) ∙ told

pub only_limited : (values : List ℤ) (x : ℤ) → length values ≡ 1 → All (IsWithin (pos value_limit)) values → x ≡ get_or values 0 x → IsLimited x
only_limited values x count bounded is = subst IsLimited (sym is) (bounded 0 x (omega arith))

-- the reward of an outlook of a valid model keeps its limit
pub reward_limited : (m : Process) → IsValid m → (a : Action) (s : List ℕ) (outlook : Outlook) → Contains m.actions a → IsState (sizes m) s → outlook ≡ outlook_of m s a → IsWithin (pos reward_limit) outlook.reward
reward_limited m valid a s outlook offered state is =
    subst (IsWithin (pos reward_limit)) (sym (ap (λ (x : Outlook). x.reward) is)) (IsWithin-from_abs reward_limit (reward_of m a s) (valid.rewards a offered s state))
