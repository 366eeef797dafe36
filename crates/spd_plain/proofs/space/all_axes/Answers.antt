use Rattle.std.proofs.Common.{◌≡◌, ◌∙◌, ◌<◌, ◌*◌, ◌/◌, ℕ, length, drop, get_or, ap, sym, subst, arith, add-one}
use Rattle.std.proofs.Math.Nat.{mul-div_cancel_left}
use Rattle.spd_model.specs.Process.{Process}
use Rattle.spd_model.specs.Lawful.{IsLawful}
use Rattle.spd_model.specs.States.{sizes, state_count}
use Rattle.spd_model.specs.Chances.{sizes_after}
use Rattle.spd_model.proofs.CallerLemmas.StateOrder.{length-sizes, sizes_some}
use Rattle.spd_plain.specs.declared.space.Axis.{Axis}
use Rattle.spd_plain.specs.inner.Axes.{axis_of}
use Rattle.spd_plain.proofs.Products.{size_at}
use Rattle.spd_plain.proofs.Tables.{state_count-from, map_below_more}
use Rattle.spd_plain.proofs.space.all_axes.Goals as goal

pub loop-var-preserved : goal.loop-var-preserved
loop-var-preserved c =
    let m = c.args.model.now in
    let law = subst IsLawful c.model.view_is c.model.invariant in
    let k = c.loop-var.var in
    let vars = c.as_slice-vars.ensures ∙ ap (λ (m : Process). m.vars) c.model.view_is in
    let size : c.len-size.result ≡ get_or (sizes m) k 0 = c.len-size.ensures ∙ size_at m c.as_slice-vars.result.now k c.index-vars-var.result vars c.loop-var-test.true in
    let near : k < length m.vars = omega (arith, ap length vars, c.loop-var-test.true) in
    let some : 0 < get_or (sizes m) k 0 = sizes_some m law k 0 (omega (arith, length-sizes m)) in
    let whole : c.loop-var.after ≡ get_or (sizes m) k 0 * state_count (sizes_after m k) = c.loop-var.invariant.after ∙ state_count-from m k near in
    let after : c.loop-var.after / c.len-size.result ≡ state_count (sizes_after m k) = (λ i. whole i / size i) ∙ mul-div_cancel_left (state_count (sizes_after m k)) some in
    let axis : Axis = record { var = k; size = c.len-size.result; after = c.loop-var.after / c.len-size.result } in
    let here : axis ≡ axis_of m k = λ i. record { var = k; size = size i; after = after i } in
    record {
      axes = c.in_ok-push.ensures.items ∙ map_below_more (axis_of m) k c.loop-var.axes.items axis c.loop-var.invariant.axes here;
      after = after ∙ ap (λ (n : ℕ). state_count (drop n (sizes m))) (sym (add-one k));
    }
