use Rattle.std.proofs.Common.{rules, ◌≡◌, ◌∙◌, ◌-ℤ◌, ap, map, pos, List, FitsSigned, arith}
use Rattle.std.proofs.lemmas.Int.{ints, to_z-of_z}
use mir.Syntax.{w128}
use Rattle.spd_scaled.specs.Scaled.{floor_div}
use Rattle.spd_model.specs.declared.tree.Tree.{Tree}
use Rattle.spd_model.specs.Process.{Process}
use Rattle.spd_model.specs.Trees.{value_of}
use Rattle.spd_model.specs.Numbers.{total}
use Rattle.spd_plain.proofs.validity.reward.Goals as goal

pub returns : goal.returns
returns c =
    let m = c.args.model.now in
    let s = c.args.s.now in
    let gained_fits : FitsSigned w128 c.total_of-gained.result = search rules in
    let paid_fits : FitsSigned w128 c.total_of-paid.result = search rules in
    let difference : FitsSigned w128 (c.total_of-gained.result -ℤ c.total_of-paid.result) = omega (arith, ints, c.total_of-gained.ensures.within, c.total_of-paid.ensures.within) in
    let fits : FitsSigned w128 c.floor_div.result = search rules in
    let quotient = simp to_z-of_z at c.floor_div.ensures.quotient in
    let reward : c.as_slice.result.now ≡ m.reward = c.as_slice.ensures ∙ ap (λ (m : Process). m.reward) c.model.view_is in
    let gained = c.total_of-gained.ensures.sum ∙ ap (λ (trees : List Tree). total (map (λ tree. value_of m tree s s) trees)) reward in
    let paid = c.total_of-paid.ensures.sum ∙ ap (λ (trees : List Tree). total (map (λ tree. value_of m tree s s) trees)) c.as_slice-2.ensures in
    simp to_z-of_z (quotient ∙ (λ i. floor_div (gained i -ℤ paid i) (pos 1000)))
