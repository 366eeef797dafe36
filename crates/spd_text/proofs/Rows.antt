-- Lines of failures, by hand.
use Rattle.std.proofs.Common.{◌≡◌, [], ◌∷◌, ◌++◌, pos, codes, None, refl}
use Rattle.spd_model.specs.declared.Side.TheVariants.{Above, Below}
use Rattle.spd_model.specs.Process.{Process}
use Rattle.spd_text.specs.Failure.{failure_line}

abbrev model : Process
model = record {
  vars = record { name = codes "x"; values = codes "yes" ∷ codes "no" ∷ [] } ∷ record { name = codes "die"; values = codes "1" ∷ codes "2" ∷ codes "3" ∷ [] } ∷ [];
  dds = [];
  actions = record { name = codes "stay"; tables = []; cost = [] } ∷ record { name = codes "roll"; tables = []; cost = [] } ∷ [];
  reward = [];
  discount = 500000;
  tolerance = pos 100000000;
  horizon = None;
}

fails_above : failure_line model (record { state = 0 ∷ 2 ∷ []; side = Above; action = 1 }) ≡ codes "no x=yes die=3 above roll" ++ 10 ∷ []
fails_above = refl

fails_below : failure_line model (record { state = 1 ∷ 0 ∷ []; side = Below; action = 0 }) ≡ codes "no x=no die=1 below stay" ++ 10 ∷ []
fails_below = refl
