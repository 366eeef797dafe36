use Rattle.std.proofs.Common.{◌≡◌, sym, ◌∙◌, ap, arith, length}
use Rattle.spd_policy.specs.Best.{lows_of, highs_of, lows_in, highs_in, greatest_of, policy_by, best_functions, lower_bounds, upper_bounds}
use Rattle.spd_policy.proofs.AgreeLaws.{makes-policy}
use Rattle.spd_policy.proofs.BestLaws.{best-none, highs-length, highs-numeric, lows-length, lows-numeric}
use Rattle.spd_policy.proofs.choosing.best_with.Goals as goal

pub choose-requires : goal.choose-requires
choose-requires g c =
    let s = g.F.Forest.shows c.args.forest.now in
    let lows : c.as_slice.result.now ≡ lows_of c.args.bounds.now = c.as_slice.ensures.value ∙ c.in-Ok.ensures.lows in
    let highs : c.as_slice-in-Ok.result.now ≡ highs_of c.args.bounds.now = c.as_slice-in-Ok.ensures.value ∙ c.in-Ok.ensures.highs in
    record {
      lower = rw lows (lows-numeric s c.args.bounds.now c.requires.bounds);
      upper = rw highs (highs-numeric s c.args.bounds.now c.requires.bounds);
      some = omega (arith, ap length lows, lows-length c.args.bounds.now, c.requires.some);
      few = omega (arith, ap length lows, lows-length c.args.bounds.now, c.requires.few);
      beside = ap length highs ∙ highs-length c.args.bounds.now ∙ sym (ap length lows ∙ lows-length c.args.bounds.now);
      tables = c.requires.tables;
    }

pub returns-in-Ok-clause-made : goal.returns-in-Ok-clause-made
returns-in-Ok-clause-made g c =
    let lows : c.as_slice.result.now ≡ lows_of c.args.bounds.now = c.as_slice.ensures.value ∙ c.in-Ok.ensures.lows in
    let highs : c.as_slice-in-Ok.result.now ≡ highs_of c.args.bounds.now = c.as_slice-in-Ok.ensures.value ∙ c.in-Ok.ensures.highs in
    rw (lows, highs) at c.choose.ensures.made

pub returns-in-Ok-clause-policy : goal.returns-in-Ok-clause-policy
returns-in-Ok-clause-policy g c = λ m w b.
    let lows : c.as_slice.result.now ≡ lows_of c.args.bounds.now = c.as_slice.ensures.value ∙ c.in-Ok.ensures.lows in
    let highs : c.as_slice-in-Ok.result.now ≡ highs_of c.args.bounds.now = c.as_slice-in-Ok.ensures.value ∙ c.in-Ok.ensures.highs in
    makes-policy m w (g.F.Forest.shows c.args.forest.now) (g.F.Forest.shows c.choose.new.forest) c.args.bounds.now c.choose.result c.layout.ensures.sound b (rw (lows, highs) at c.choose.ensures.made)

pub returns-in-Err-clause-made : goal.returns-in-Err-clause-made
returns-in-Err-clause-made g c =
    let s = g.F.Forest.shows c.args.forest.now in
    best-none (greatest_of (lows_in s c.args.bounds.now)) (greatest_of (highs_in s c.args.bounds.now)) (policy_by (lows_in s c.args.bounds.now)) (best_functions (lows_in s c.args.bounds.now) (highs_in s c.args.bounds.now)) s c.layout.ensures.sound

pub returns-in-Err-clause-policy : goal.returns-in-Err-clause-policy
returns-in-Err-clause-policy g c = λ m w b. best-none _ _ _ (best_functions (lower_bounds m w) (upper_bounds m w)) (g.F.Forest.shows c.args.forest.now) c.layout.ensures.sound
