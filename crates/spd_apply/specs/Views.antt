-- The views of two entries, and where an operation goes on from them.
use Rattle.std.specs.Prelude.{◌==◌, cond, nat_lt, Option, None, Some}
use Rattle.spd_cons_core.specs.declared.key.Entry.{Entry}
use Rattle.spd_nodes.specs.declared.layout.Level.{Level}
use Rattle.spd_nodes.specs.declared.forest.View.{View}
use Rattle.spd_nodes.specs.declared.forest.View.TheVariants as V

-- the lower of the levels that two views test, if any
abbrev pub lower_of_views : View → View → Option Level
lower_of_views (V.Leaf a) (V.Leaf b) = None
lower_of_views (V.Leaf a) (V.Test l v m) = Some l
lower_of_views (V.Test k y n) (V.Leaf b) = Some k
lower_of_views (V.Test k y n) (V.Test l v m) = Some (cond (nat_lt l.0 k.0) l k)

-- where an entry with this view goes on if a level's test holds
abbrev pub next_yes : View → Entry → Level → Entry
next_yes (V.Leaf a) r l = r
next_yes (V.Test k y n) r l = cond (k.0 == l.0) y r

-- and where it goes on if it doesn't
abbrev pub next_no : View → Entry → Level → Entry
next_no (V.Leaf a) r l = r
next_no (V.Test k y n) r l = cond (k.0 == l.0) n r
