use Rattle.std.proofs.Common.{rules, refl, pos, get_or, FitsSigned}
use Rattle.std.proofs.lemmas.Int.{to_z-of_z}
use mir.Syntax.{w128}
use Rattle.spd_plain.proofs.Weights.{length-spread, entry-spread}
use Rattle.spd_plain.proofs.chances.spread.Goals as goal

pub loop-value-preserved : goal.loop-value-preserved
loop-value-preserved c =
    let v = c.loop-value.value in
    let now = c.loop-value.chances.items in
    let kept = c.args.kept.now in
    let x = get_or kept v (pos 0) in
    let fits : FitsSigned w128 x = search rules in
    rw c.in_ok-resize.ensures.items (simp to_z-of_z (record {
      len = length-spread c.args.after v c.loop-value.chances.len x now kept c.loop-value.invariant.len c.loop-value.chances.ok.0 refl c.loop-value.invariant.each;
      each = entry-spread c.args.after v c.loop-value.chances.len x now kept c.loop-value.invariant.len c.loop-value.chances.ok.0 refl c.loop-value.invariant.each;
    }))
