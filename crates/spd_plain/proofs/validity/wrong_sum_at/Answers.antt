use Rattle.std.proofs.Common.{rules, ◌≡◌, ◌<◌, ℕ, List, [], length, get_or, ap, sym, subst, not, FitsSigned, arith}
use Rattle.std.specs.Ordering.{int_eq}
use Rattle.std.proofs.lemmas.Int.{to_z-of_z}
use mir.Syntax.{w128}
use Rattle.spd_model.specs.States.{states}
use Rattle.spd_model.specs.Chances.{Sum, sum_of, sizes_after, one}
use Rattle.spd_model.proofs.CallerLemmas.Finds.{find_map_more, find_map_here}
use Rattle.spd_model.proofs.CallerLemmas.StateOrder.{length-states}
use Rattle.spd_plain.proofs.BitTests.{is_one, is_not_one}
use Rattle.spd_plain.proofs.Tables.{after_is}
use Rattle.spd_plain.proofs.OwnSums.{place_below, places_none}
use Rattle.spd_plain.proofs.validity.wrong_sum_at.Goals as goal
use Rattle.spd_plain.proofs.validity.wrong_sum_at.Goals.{After-chance_sum-sum}

pub chance_sum-sum-requires-clause-place : goal.chance_sum-sum-requires-clause-place
chance_sum-sum-requires-clause-place c =
    place_below c.args.model.now c.args.axis.now c.requires.axis c.args.reach c.loop-place.place (subst (λ (n : ℕ). c.loop-place.place < n) c.sum_count-place-end.ensures c.loop-place-test.true)

-- the sum with these values of the later variables
abbrev record_of : After-chance_sum-sum → List ℕ → Sum
record_of c rest = record { action = c.args.number; var = c.args.axis.now.var; state = c.args.s.now; sum = sum_of c.args.model.now c.args.action.now c.args.s.now c.args.axis.now.var rest }

near : (c : After-chance_sum-sum) → c.loop-place.place < length (states (sizes_after c.args.model.now c.args.axis.now.var))
near c =
    let place = place_below c.args.model.now c.args.axis.now c.requires.axis c.args.reach c.loop-place.place (subst (λ (n : ℕ). c.loop-place.place < n) c.sum_count-place-end.ensures c.loop-place-test.true) in
    omega (arith, place, length-states (sizes_after c.args.model.now c.args.axis.now.var), after_is c.args.model.now c.args.axis.now c.requires.axis)

pub returns-then-sum-ne-ONE : goal.returns-then-sum-ne-ONE
returns-then-sum-ne-ONE c =
    let p = (goal.at.returns-then-sum-ne-ONE c).After-chance_sum-sum in
    let found : Sum = record { action = c.args.number; var = c.args.axis.now.var; state = c.same_state.result; sum = c.chance_sum-sum.result } in
    let here : found ≡ record_of p (get_or (states (sizes_after c.args.model.now c.args.axis.now.var)) c.loop-place.place []) =
    λ i. record { action = c.args.number; var = c.args.axis.now.var; state = c.same_state.ensures i; sum = c.chance_sum-sum.ensures i } in
    let fits : FitsSigned w128 c.chance_sum-sum.result = search rules in
    simp to_z-of_z (sym (find_map_here (λ (x : Sum). not (int_eq x.sum one)) (record_of p) (states (sizes_after c.args.model.now c.args.axis.now.var)) c.loop-place.place [] (near p) c.loop-place.invariant
    found here (ap not (is_not_one c.chance_sum-sum.result c.if-sum-ne-ONE.true))))

pub loop-place-preserved : goal.loop-place-preserved
loop-place-preserved c =
    let p = (goal.at.loop-place-preserved c).After-chance_sum-sum in
    let fits : FitsSigned w128 c.chance_sum-sum.result = search rules in
    let found : Sum = record { action = c.args.number; var = c.args.axis.now.var; state = c.args.s.now; sum = c.chance_sum-sum.result } in
    let here : found ≡ record_of p (get_or (states (sizes_after c.args.model.now c.args.axis.now.var)) c.loop-place.place []) =
    λ i. record { action = c.args.number; var = c.args.axis.now.var; state = c.args.s.now; sum = c.chance_sum-sum.ensures i } in
    find_map_more (λ (x : Sum). not (int_eq x.sum one)) (record_of p) (states (sizes_after c.args.model.now c.args.axis.now.var)) c.loop-place.place [] (near p) c.loop-place.invariant
    found here (ap not (is_one c.chance_sum-sum.result fits c.if-sum-ne-ONE.false))

pub returns : goal.returns
returns c =
    sym (places_none c.args.model.now c.args.action.now c.requires.action c.args.s.now c.requires.state c.args.axis.now c.requires.axis c.args.number c.args.reach c.requires.reach c.loop-place.place
    (omega (arith, c.sum_count-place-end.ensures, c.loop-place-test.false)) c.loop-place.invariant)
