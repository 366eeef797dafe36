use Rattle.std.proofs.Common.{◌≡◌, ◌∙◌, List, ℕ, ap, sym, subst, rules, to_z, of_z}
use Rattle.std.specs.Int.{w128}
use Rattle.std.specs.Option.{option_map}
use Rattle.std.specs.Prelude.{Some}
use Rattle.std.proofs.lemmas.Int.{to_z-of_z}
use Rattle.spd_model.specs.Chances.{Reward}
use Rattle.spd_nodes.specs.States.{Agree}
use Rattle.spd_nodes.specs.Shown.{meaning}
use Rattle.spd_search.specs.Found.{first_found}
use Rattle.spd_build.specs.Functions.{reward}
use Rattle.spd_build.specs.Ranges.{is_wide}
use Rattle.spd_build.proofs.RangeLaws.{told, wide-is}
use Rattle.spd_build.proofs.rewards.test_range.Goals as goal

pub returns-in-None-clause-range : goal.returns-in-None-clause-range
returns-in-None-clause-range g c = λ m a law same h.
    let s = g.F.Forest.shows c.args.forest.now in
    let k = c.args.number in
    let f = meaning s c.args.reward in
    sym (wide-is m k a f (subst (λ (z : List ℕ). Agree z f (reward m a)) same h.value) law)
    ∙ ap (λ (z : List ℕ). option_map (told k) (first_found z is_wide f)) (sym same)
    ∙ ap (option_map (told k)) (sym c.in_ok-first_found.ensures.found ∙ c.in-None.is)

pub returns-in-Some-clause-range : goal.returns-in-Some-clause-range
returns-in-Some-clause-range g c = λ m a law same h.
    let s = g.F.Forest.shows c.args.forest.now in
    let k = c.args.number in
    let f = meaning s c.args.reward in
    let state = c.in-Some.found.state in
    let value : to_z w128 (of_z w128 c.number_of.result) ≡ c.number_of.result = search (rules, to_z-of_z) in
    sym (wide-is m k a f (subst (λ (z : List ℕ). Agree z f (reward m a)) same h.value) law)
    ∙ ap (λ (z : List ℕ). option_map (told k) (first_found z is_wide f)) (sym same)
    ∙ ap (option_map (told k)) (sym c.in_ok-first_found.ensures.found ∙ c.in-Some.is)
    ∙ (λ i. let x : Reward = record { action = k; state = state; value = sym (value ∙ c.number_of.ensures) i } in Some x)
