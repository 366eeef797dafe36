-- What a table and a seat show, and what holds of a seat between two calls.
use Rattle.std.specs.Prelude.{◌≡◌, [], None, length}
use Rattle.spd_cons.specs.declared.view.View.{View}
use Rattle.spd_cons.specs.declared.seat.ActiveSeat.{ActiveSeat}
use Rattle.spd_cons.specs.declared.seat.Seat.TheInside.{Inside}
use Rattle.spd_cons.specs.Values.{SeatValue}
use Rattle.spd_cons.specs.Told.{Sees}

abbrev pub view_of : ActiveSeat → View
view_of a = a.token.me.0

-- what the code keeps of a seat is what its view says
pub record IsActive (a : ActiveSeat) : Type 0 where
  pub none_held : a.token.me.1 ≡ []
  pub sees : Sees (view_of a)
  pub heard : (view_of a).heard ≡ []
  pub spare : (view_of a).mind.spare ≡ a.spare
  pub ended : (view_of a).mind.ended ≡ a.ended
  pub published : a.published ≡ length (view_of a).mind.published
  pub stands : (view_of a).mind.stands ≡ a.stands
  pub splits : (view_of a).mind.splits ≡ a.splits

abbrev pub shown : Inside → SeatValue
shown s = record { table = record { id = s.active.token.table_id; size = (view_of s.active).size }; mind = (view_of s.active).mind }

pub record IsAtRest (s : Inside) : Type 0 where
  pub active : IsActive s.active
  pub rests : (view_of s.active).mind.call ≡ None
