use Rattle.std.proofs.Common.{rules, ◌≡◌, ◌≢◌, ◌<◌, ◌≤◌, ◌*◌, length, pos, List, ℤ, FitsSigned, ap, ◌∙◌, arith, below_more, get_or-set_same, get_or-set_other, slice_index_or, slice_set}
use Rattle.std.proofs.lemmas.Int.{to_z-of_z}
use Rattle.std.proofs.lemmas.List.Elements.{All-set}
use Rattle.std.proofs.Math.ListN.{length-set}
use Rattle.std.proofs.Math.Nat.{mul-le-mul_right}
use mir.Syntax.{w128}
use Rattle.spd_scaled.specs.Scaled.{IsWithin}
use Rattle.spd_model.specs.Chances.{one}
use Rattle.spd_model.specs.Turns.{value_limit}
use Rattle.spd_plain.specs.inner.Expectations.{rounding_of, weighted}
use Rattle.spd_plain.proofs.Weights.{weighted_same}
use Rattle.spd_plain.proofs.expectation.sum_out.Goals as goal

pub loop-place-preserved : goal.loop-place-preserved
loop-place-preserved c =
    let size = c.args.size in
    let after = c.args.after in
    let chances = c.args.chances.now in
    let old = c.args.values.now.items in
    let now = c.loop-place.values.items in
    let k = c.loop-place.place in
    let x = c.rounded.result in
    let fits : FitsSigned w128 x = search rules in
    let sum_fits : FitsSigned w128 c.weighted_sum-sum.result = search rules in
    let more : 1 * after ≤ size * after = mul-le-mul_right after c.requires.some in
    let near : k < length now = omega arith in
    let sum : c.weighted_sum-sum.result ≡ weighted size after chances old k =
    c.weighted_sum-sum.ensures.sum ∙ ap (λ (l : List ℤ). weighted size after chances l k) c.deref.ensures.value ∙ weighted_same size after chances now old k c.loop-place.invariant.later in
    let here : x ≡ rounding_of c.args.side (weighted size after chances old k) one = simp to_z-of_z at c.rounded.ensures.value ∙ ap (λ s. rounding_of c.args.side s one) sum in
    simp to_z-of_z (record {
      count = length-set now k x ∙ c.loop-place.invariant.count;
      done = below_more (λ j. slice_index_or (slice_set now k x) j (pos 0) ≡ rounding_of c.args.side (weighted size after chances old j) one) k
          (λ j h. let ne : j ≢ k = omega arith in get_or-set_other now k j x (pos 0) ne ∙ c.loop-place.invariant.done j h)
          (get_or-set_same now k x (pos 0) near ∙ here);
      later = λ j h. let ne : j ≢ k = omega arith in get_or-set_other now k j x (pos 0) ne ∙ c.loop-place.invariant.later j (omega arith);
      bounded = All-set (IsWithin (pos value_limit)) now k x c.rounded.ensures.within c.loop-place.invariant.bounded;
    })
