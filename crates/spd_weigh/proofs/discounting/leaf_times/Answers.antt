use Rattle.std.proofs.Common.{rules, ap, ◌∙◌, pos, ◌*ℤ◌}
use Rattle.std.proofs.lemmas.Int.{to_z-of_z}
use Rattle.spd_nodes.specs.declared.leaf.Leaf.TheVariants.{Num}
use Rattle.spd_weigh.specs.Leaves.{rounding_of}
use Rattle.spd_weigh.proofs.DiscountLaws.{fits-some, leaf-times, product-fits}
use Rattle.spd_weigh.proofs.discounting.leaf_times.Goals as goal

pub returns-in-Down-clause-leaf : goal.returns-in-Down-clause-leaf
returns-in-Down-clause-leaf g c =
    let view = rw c.in-Leaf-Num.field-0-is at c.in-Leaf-Num.ensures.view in
    let some = fits-some (g.F.Forest.shows c.args.forest.now) c.args.list.now c.requires.fit in
    let is = leaf-times c.args.way c.args.discount (g.F.Forest.shows c.args.forest.now) c.args.list.now _ c.in-Leaf-Num.x some view ∙ ap (λ w. Num (rounding_of w (pos c.args.discount *ℤ c.in-Leaf-Num.x) (pos 1000000))) c.in-Down.is in
    let product = product-fits c.args.discount (g.F.Forest.shows c.args.forest.now) c.args.list.now _ c.in-Leaf-Num.x c.requires.discount c.requires.fit view in
    let quotient = c.floor_div.ensures.quotient in
    search (rules, to_z-of_z)

pub returns-in-Up-clause-leaf : goal.returns-in-Up-clause-leaf
returns-in-Up-clause-leaf g c =
    let view = rw c.in-Leaf-Num.field-0-is at c.in-Leaf-Num.ensures.view in
    let some = fits-some (g.F.Forest.shows c.args.forest.now) c.args.list.now c.requires.fit in
    let is = leaf-times c.args.way c.args.discount (g.F.Forest.shows c.args.forest.now) c.args.list.now _ c.in-Leaf-Num.x some view ∙ ap (λ w. Num (rounding_of w (pos c.args.discount *ℤ c.in-Leaf-Num.x) (pos 1000000))) c.in-Up.is in
    let product = product-fits c.args.discount (g.F.Forest.shows c.args.forest.now) c.args.list.now _ c.in-Leaf-Num.x c.requires.discount c.requires.fit view in
    let quotient = c.ceil_div.ensures.quotient in
    search (rules, to_z-of_z)
