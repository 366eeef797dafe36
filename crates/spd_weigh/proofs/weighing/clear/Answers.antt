use Rattle.std.proofs.Common.{rules, refl, arith, ◌≡◌, ◌<◌, ◌+◌, ◌*◌, length}
use Rattle.spd_gather.specs.Lists.{trees_of}
use Rattle.spd_weigh.proofs.EarlyLaws.{cleared-end, like-same}
use Rattle.spd_weigh.proofs.weighing.clear.Goals as goal

pub loop-v-init : goal.loop-v-init
loop-v-init g c =
    record {
      same = refl;
      keeps = refl;
      length_is = refl;
      zero = c.requires.zero;
      known = search rules;
      like = like-same (trees_of (g.F.Forest.shows c.args.forest.now) c.args.list.now.items);
      cleared = tt;
    }

pub loop-v-preserved : goal.loop-v-preserved
loop-v-preserved g c =
    let like = rw c.loop-v.invariant.same at c.clear_value-zero.ensures.like in
    let known = rw c.loop-v.invariant.same at c.clear_value-zero.ensures.known in
    let zero = rw c.loop-v.invariant.same at c.clear_value-zero.ensures.zero in
    let cleared = rw c.loop-v.invariant.same at c.clear_value-zero.ensures.cleared in
    let next : 2 * (c.loop-v.v + 1) ≡ 2 * c.loop-v.v + 2 = omega arith in
    record {
      same = search rules;
      keeps = search rules;
      length_is = search rules;
      zero = zero;
      known = known;
      like = like _ c.loop-v.invariant.like;
      cleared = rw next (cleared c.loop-v.invariant.cleared);
    }

pub returns-clause-cleared : goal.returns-clause-cleared
returns-clause-cleared g c =
    let end : length c.loop-v.list.items < 2 * c.loop-v.v + 2 = search (rules, arith) in
    cleared-end (g.F.Forest.shows c.args.forest.now) c.loop-v.list.items c.loop-v.v end c.loop-v.invariant.cleared
