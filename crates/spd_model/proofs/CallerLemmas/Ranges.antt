-- Which ranges are the same.
use Rattle.std.proofs.Common.{◌≡◌, true, refl}
use Rattle.std.proofs.lemmas.Bool.Decides.{Decides-int_eq}
use Rattle.spd_model.specs.Ranges.{Range, is_same}

pub is_same_itself : (p : Range) → is_same p p ≡ true
is_same_itself p = rw ((Decides-int_eq p.low p.low).1 refl, (Decides-int_eq p.high p.high).1 refl) refl
