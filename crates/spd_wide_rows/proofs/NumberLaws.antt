-- Numbers of tests are values.
use Rattle.std.proofs.Common.{◌≡◌, ℕ, ◌≤◌, true, nat_le, unsigned_abs, arith}
use Rattle.std.proofs.lemmas.Bool.{false≢true}
use Rattle.std.proofs.lemmas.Bool.Decides.{nat_tests}
use Rattle.spd_scaled.proofs.CallerLemmas.Magnitude.{IsWithin-from_abs}
use Rattle.spd_cons_core.specs.declared.key.Entry.{Entry}
use Rattle.spd_nodes.specs.declared.leaf.Leaf.{Leaf}
use Rattle.spd_nodes.specs.declared.leaf.Leaf.TheVariants.{Num, Pair, Act}
use Rattle.spd_nodes.specs.Shown.{Shown, meaning}
use Rattle.spd_apply.specs.Outcome.{FitsEverywhere}
use Rattle.spd_weigh.specs.Leaves.{IsValue, HasValues}
use Rattle.spd_wide_rows.specs.Numbers.{is_test_number}

small : (x : ℕ) → nat_le x 512 ≡ true → x ≤ 1000000000000000001000000
small x h = grind (arith, nat_tests)

test-value : (a : Leaf) → is_test_number a ≡ true → IsValue a
test-value (Num x) h = IsWithin-from_abs 1000000000000000001000000 x (small (unsigned_abs x) h)
test-value (Pair x y) h = absurd (false≢true h)
test-value (Act a) h = absurd (false≢true h)

pub test-values : (s : Shown) (w : Entry) → FitsEverywhere is_test_number s w → HasValues s.sizes (meaning s w)
test-values s w h = record { at = λ x y p q. test-value (meaning s w x y) (h.at x y p q) }
