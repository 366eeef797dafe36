use Rattle.spd_nodes.specs.Shown.{meaning}
use Rattle.spd_nodes.specs.States.{Agree}
use Rattle.spd_nodes.proofs.CallerLemmas.{diagram-agrees}
use Rattle.spd_weigh.specs.declared.way.Way.TheVariants.{Down, Up}
use Rattle.spd_weigh.specs.Discounting.{discounted}
use Rattle.spd_weigh.proofs.CallerLemmas.{discounts-grow}
use Rattle.spd_backup.proofs.exact.discount_once.Goals as goal

-- ---- down

pub discount_with-requires-clause-table : goal.discount_with-requires-clause-table
discount_with-requires-clause-table g c = rw c.needed_way.ensures.same c.requires.down

pub returns-in-Down-clause-made : goal.returns-in-Down-clause-made
returns-in-Down-clause-made g c =
    let s = g.F.Forest.shows c.args.forest.now in
    let same : Agree s.sizes (discounted Down c.args.discount (meaning s c.args.f)) (discounted c.args.way c.args.discount (meaning s c.args.f)) = rw c.in-Down.is at c.needed_way.ensures.agrees in
    diagram-agrees c.layout.ensures.sound same (rw c.needed_way.ensures.same at c.discount_with.ensures.made)

pub returns-in-Down-clause-up : goal.returns-in-Down-clause-up
returns-in-Down-clause-up g c =
    let made = rw c.needed_way.ensures.same at c.discount_with.ensures.made in
    discounts-grow Up c.args.discount (g.F.Forest.shows c.args.forest.now) (g.F.Forest.shows c.discount_with.new.forest) c.args.up.now made.grows c.requires.up

-- ---- up

pub discount_with-requires-in-Up-clause-table : goal.discount_with-requires-in-Up-clause-table
discount_with-requires-in-Up-clause-table g c = rw c.needed_way.ensures.same c.requires.up

pub returns-in-Up-clause-made : goal.returns-in-Up-clause-made
returns-in-Up-clause-made g c =
    let s = g.F.Forest.shows c.args.forest.now in
    let same : Agree s.sizes (discounted Up c.args.discount (meaning s c.args.f)) (discounted c.args.way c.args.discount (meaning s c.args.f)) = rw c.in-Up.is at c.needed_way.ensures.agrees in
    diagram-agrees c.layout.ensures.sound same (rw c.needed_way.ensures.same at c.discount_with-in-Up.ensures.made)

pub returns-in-Up-clause-down : goal.returns-in-Up-clause-down
returns-in-Up-clause-down g c =
    let made = rw c.needed_way.ensures.same at c.discount_with-in-Up.ensures.made in
    discounts-grow Down c.args.discount (g.F.Forest.shows c.args.forest.now) (g.F.Forest.shows c.discount_with-in-Up.new.forest) c.args.down.now made.grows c.requires.down
