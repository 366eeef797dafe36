-- The limits on variables.
use Rattle.std.specs.Prelude.{ℕ, ◌<◌, ◌≤◌, List, length, All}
use Rattle.spd_nodes.specs.Levels.{levels_of}

-- 1 to 100 variables of 1 to 64 values each, with at most 256 tests of the plain values
pub record IsLayout (sizes : List ℕ) : Type 0 where
  pub variables : (0 < length sizes) × (length sizes ≤ 100)
  pub values : All (λ d. (0 < d) × (d ≤ 64)) sizes
  pub tests : levels_of sizes ≤ 256
