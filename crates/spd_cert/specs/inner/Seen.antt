-- What the code's types stand for.
use Rattle.std.specs.Prelude.{ℕ, take}
use Rattle.spd_model.specs.Turns.{Place}
use Rattle.spd_cert.specs.declared.place.Place.{Place as StoredPlace}

-- a place over so many variables
abbrev pub place_seen : ℕ → StoredPlace → Place
place_seen vars p = record { state = take vars p.values; side = p.side; action = p.action }
