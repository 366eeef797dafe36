use Rattle.std.proofs.Common.{length, refl, subst, sym}
use Rattle.spd_backup.specs.Exact.{HoldDown}
use Rattle.spd_backup.proofs.ExactLaws.{down-held, down-none}
use Rattle.spd_backup.proofs.KeepingLaws.{all-grow}
use Rattle.spd_backup.proofs.backing.expected_of.Goals as goal

pub expect-requires : goal.expect-requires
expect-requires g c = record {
  followed = c.requires.followed;
  down = down-none (g.F.Forest.shows c.args.forest.now) _ refl;
  sums = c.requires.tables.down.sums;
}

pub expect-requires-in-Up : goal.expect-requires-in-Up
expect-requires-in-Up g c =
    let s = g.F.Forest.shows c.args.forest.now in
    record {
      followed = c.requires.followed;
      down = subst (HoldDown s) (sym c.as_slice.ensures.value) (down-held s (length c.args.thawed.now.sizes.items) c.args.tables.now.down.sums.items c.requires.tables.down.sums);
      sums = c.requires.tables.up.sums;
    }

pub returns-in-Down-clause-tables : goal.returns-in-Down-clause-tables
returns-in-Down-clause-tables g c =
    let k = c.requires.followed in
    let s = g.F.Forest.shows c.args.forest.now in
    let t = g.F.Forest.shows c.expect.new.forest in
    let grows = (c.expect.ensures.made k.process k.chosen k.value k.follows).among.grows in
    let held = all-grow (length c.args.thawed.now.sizes.items) c.args.thawed.now.g s t c.args.tables.now grows c.requires.tables in
    record { next = held.next; down = record { sums = c.expect.ensures.sums; discounts = held.down.discounts }; up = held.up; adds = held.adds }

pub returns-in-Up-clause-tables : goal.returns-in-Up-clause-tables
returns-in-Up-clause-tables g c =
    let k = c.requires.followed in
    let s = g.F.Forest.shows c.args.forest.now in
    let t = g.F.Forest.shows c.expect-in-Up.new.forest in
    let grows = (c.expect-in-Up.ensures.made k.process k.chosen k.value k.follows).among.grows in
    let held = all-grow (length c.args.thawed.now.sizes.items) c.args.thawed.now.g s t c.args.tables.now grows c.requires.tables in
    record { next = held.next; down = held.down; up = record { sums = c.expect-in-Up.ensures.sums; discounts = held.up.discounts }; adds = held.adds }
