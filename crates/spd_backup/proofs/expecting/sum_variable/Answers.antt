use Rattle.std.proofs.Common.{[], ◌∷◌, map, refl, sym, subst}
use Rattle.spd_nodes.specs.Shown.{MakesDiagram, meaning}
use Rattle.spd_nodes.proofs.CallerLemmas.{makes_among-known}
use Rattle.spd_weigh.specs.Weighing.{summed_out}
use Rattle.spd_model.proofs.CallerLemmas.Results.{err_is}
use Rattle.spd_backup.specs.Thawing.{weights_in}
use Rattle.spd_backup.proofs.KeepingLaws.{last-stands, last-sum-grows, sum-kept}
use Rattle.spd_backup.proofs.expecting.sum_variable.Goals as goal

pub weights_of-weights-requires : goal.weights_of-weights-requires
weights_of-weights-requires g c = record { few = c.requires.can.few; var = c.requires.can.var_in; action = c.requires.can.room }

-- ---- what was summed out last

pub returns-in-Some-clause-made : goal.returns-in-Some-clause-made
returns-in-Some-clause-made g c =
    let s = g.F.Forest.shows c.args.forest.now in
    let ws = weights_in c.args.thawed.now.sizes.items c.args.thawed.now.weights.items c.args.action c.args.var in
    let f = summed_out c.args.way c.args.var (map (meaning s) ws) (meaning s c.args.expected) in
    let stands = last-stands c.args.way c.args.var s c.args.expected c.weights_of-weights.result.now c.in-Some.sum c.args.tables.now.last c.requires.can.held.last c.in-Some.ensures in
    makes_among-known s c.layout.ensures.sound c.in-Some.sum f (f ∷ []) (rw c.weights_of-weights.ensures at stands)

pub returns-in-Some-clause-keeps : goal.returns-in-Some-clause-keeps
returns-in-Some-clause-keeps g c = refl

pub returns-in-Some-clause-tables : goal.returns-in-Some-clause-tables
returns-in-Some-clause-tables g c = c.requires.can.held

-- ---- what is summed out now

pub sum_once-requires : goal.sum_once-requires
sum_once-requires g c =
    let k = c.requires.can in
    record {
      known = k.known;
      whole = k.whole;
      weights_known = rw c.weights_of-weights.ensures k.weights_known;
      weights_whole = rw c.weights_of-weights.ensures k.weights_whole;
      var = k.var_there;
      count = rw c.weights_of-weights.ensures k.count;
      weights = rw c.weights_of-weights.ensures k.weights;
      values = k.values;
      down = c.requires.down;
      table = k.held.rows;
    }

pub returns-in_err-sum-clause-made : goal.returns-in_err-sum-clause-made
returns-in_err-sum-clause-made g c =
    let s = g.F.Forest.shows c.args.forest.now in
    let ws = weights_in c.args.thawed.now.sizes.items c.args.thawed.now.weights.items c.args.action c.args.var in
    subst (MakesDiagram s (g.F.Forest.shows c.sum_once.new.forest) (summed_out c.args.way c.args.var (map (meaning s) ws) (meaning s c.args.expected)))
    (sym (err_is c.from_residual.result c.in_err-sum.field-0.0 c.from_residual.ensures.1)) (rw c.weights_of-weights.ensures at c.in_err-sum.ensures.made)

pub returns-in_err-sum-clause-keeps : goal.returns-in_err-sum-clause-keeps
returns-in_err-sum-clause-keeps g c = c.sum_once.ensures.keeps

pub returns-in_err-sum-clause-tables : goal.returns-in_err-sum-clause-tables
returns-in_err-sum-clause-tables g c = record {
  last = last-sum-grows c.args.way c.args.var (g.F.Forest.shows c.args.forest.now) (g.F.Forest.shows c.sum_once.new.forest) c.args.tables.now.last c.in_err-sum.ensures.made.grows c.requires.can.held.last;
  rows = c.sum_once.ensures.table;
}

pub returns-clause-made : goal.returns-clause-made
returns-clause-made g c = rw c.weights_of-weights.ensures at c.in_ok-sum.ensures.made

pub returns-clause-keeps : goal.returns-clause-keeps
returns-clause-keeps g c = c.sum_once.ensures.keeps

pub returns-clause-tables : goal.returns-clause-tables
returns-clause-tables g c = record {
  last = sum-kept c.args.way c.args.var (g.F.Forest.shows c.args.forest.now) (g.F.Forest.shows c.sum_once.new.forest) c.args.expected c.weights_of-weights.result.now c.in_ok-sum.sum c.kept_sum.result c.requires.can.known
      (rw c.weights_of-weights.ensures c.requires.can.weights_known) c.in_ok-sum.ensures.made c.kept_sum.ensures;
  rows = c.sum_once.ensures.table;
}
