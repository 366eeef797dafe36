-- Leaves that are values.
use Rattle.std.proofs.Common.{◌≡◌, ℕ, ◌≤◌, true, nat_le, unsigned_abs, arith}
use Rattle.std.proofs.lemmas.Bool.{false≢true}
use Rattle.std.proofs.lemmas.Bool.Decides.{nat_tests}
use Rattle.spd_scaled.proofs.CallerLemmas.Magnitude.{IsWithin-from_abs}
use Rattle.spd_cons_core.specs.declared.key.Entry.{Entry}
use Rattle.spd_nodes.specs.declared.leaf.Leaf.{Leaf}
use Rattle.spd_nodes.specs.declared.leaf.Leaf.TheVariants.{Num, Pair, Act}
use Rattle.spd_nodes.specs.Shown.{Shown, meaning}
use Rattle.spd_apply.specs.Outcome.{FitsEverywhere}
use Rattle.spd_weigh.specs.Leaves.{IsValue, HasValues}
use Rattle.spd_stage_rows.specs.Values.{is_value}

at_most : (x : ℕ) → nat_le x 1000000000000000001000000 ≡ true → x ≤ 1000000000000000001000000
at_most x h = grind (arith, nat_tests)

pub is-value : (a : Leaf) → is_value a ≡ true → IsValue a
is-value (Num x) h = IsWithin-from_abs 1000000000000000001000000 x (at_most (unsigned_abs x) h)
is-value (Pair x y) h = absurd (false≢true h)
is-value (Act a) h = absurd (false≢true h)

pub has-values : (s : Shown) (w : Entry) → FitsEverywhere is_value s w → HasValues s.sizes (meaning s w)
has-values s w h = record { at = λ x y p q. is-value (meaning s w x y) (h.at x y p q) }
