use Rattle.std.proofs.Common.{arith, ◌≡◌}
use Rattle.std.proofs.lemmas.Int.{ints}
use Rattle.std.proofs.lemmas.Bool.Decides.{Decides-int_eq}
use Rattle.std.proofs.lemmas.Bool.{and_parts}
use Rattle.spd_apply.specs.Halves.{IsLeaf}
use Rattle.spd_weigh.specs.Summed.{weights, each_fits}
use Rattle.spd_model.specs.Chances.{one}
use Rattle.spd_weigh.proofs.NumberLaws.{leaves_of}
use Rattle.spd_gather.proofs.CallerLemmas.{all-of}
use Rattle.spd_weigh.proofs.weighing.weighed_leaf.Goals as goal

pub sum_products-sum-requires-clause-leaves : goal.sum_products-sum-requires-clause-leaves
sum_products-sum-requires-clause-leaves g c = all-of IsLeaf (g.F.Forest.shows c.args.forest.now) c.args.list.now c.requires.leaves

pub sum_products-sum-requires-clause-fit : goal.sum_products-sum-requires-clause-fit
sum_products-sum-requires-clause-fit g c = (and_parts (each_fits (leaves_of (g.F.Forest.shows c.args.forest.now) c.args.list.now)) _ c.requires.fit).0

pub sum_products-sum-requires-clause-total : goal.sum_products-sum-requires-clause-total
sum_products-sum-requires-clause-total g c =
    let e : weights (leaves_of (g.F.Forest.shows c.args.forest.now) c.args.list.now) ≡ one = (Decides-int_eq _ one).0 (and_parts (each_fits (leaves_of (g.F.Forest.shows c.args.forest.now) c.args.list.now)) _ c.requires.fit).1 in
    rw e (omega (arith, ints))
