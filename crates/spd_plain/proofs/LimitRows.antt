-- The limit on states, computed: thirteen variables of two values have too many, twelve don't, and a large one first is told alone.
use Rattle.std.proofs.Common.{◌≡◌, ℕ, List, [], ◌∷◌, codes, map, replicate, None, Some, pos, refl}
use Rattle.spd_model.specs.Process.{Process}
use Rattle.spd_plain.specs.Space.{first_large_product}

abbrev process : List ℕ → Process
process sizes = record {
  vars = map (λ n. record { name = codes "x"; values = replicate n (codes "v") }) sizes;
  dds = [];
  actions = [];
  reward = [];
  discount = 0;
  tolerance = pos 0;
  horizon = None;
}

twelve : first_large_product (process (replicate 12 2)) ≡ None
twelve = refl

thirteen : first_large_product (process (replicate 13 2)) ≡ Some 8192
thirteen = refl

at_the_second : first_large_product (process (64 ∷ 65 ∷ 2 ∷ [])) ≡ Some 4160
at_the_second = refl
