use Rattle.std.proofs.Common.{option_map, sym, ◌∙◌, ap}
use Rattle.spd_search.specs.declared.found.Found.{Found as F}
use Rattle.spd_check.proofs.FirstLaws.{above-state, below-state, both-above, both-below, first-above, first-below, first-none}
use Rattle.spd_check.proofs.first.first_of.Goals as goal

pub returns-in-None-None-clause-first : goal.returns-in-None-None-clause-first
returns-in-None-None-clause-first c = λ sizes p q e f.
    first-none sizes p q (sym (ap (option_map (λ (x : F). x.state)) c.in-None-None.is-0) ∙ e) (sym (ap (option_map (λ (x : F). x.state)) c.in-None-None.is-1) ∙ f)

pub returns-in-None-Some-clause-first : goal.returns-in-None-Some-clause-first
returns-in-None-Some-clause-first c = λ sizes p q e f.
    first-below sizes p q c.in-None-Some.below.state (sym (ap (option_map (λ (x : F). x.state)) c.in-None-Some.is-0) ∙ e) (sym (ap (option_map (λ (x : F). x.state)) c.in-None-Some.is-1) ∙ f)

pub returns-in-Some-None-clause-first : goal.returns-in-Some-None-clause-first
returns-in-Some-None-clause-first c = λ sizes p q e f.
    first-above sizes p q c.in-Some-None.above.state (sym (ap (option_map (λ (x : F). x.state)) c.in-Some-None.is-0) ∙ e) (sym (ap (option_map (λ (x : F). x.state)) c.in-Some-None.is-1) ∙ f)

pub returns-then-comes_before-clause-first : goal.returns-then-comes_before-clause-first
returns-then-comes_before-clause-first c = λ sizes p q e f.
    let a = sym (ap (option_map (λ (x : F). x.state)) c.in-Some-Some.is-0) ∙ e in
    let b = sym (ap (option_map (λ (x : F). x.state)) c.in-Some-Some.is-1) ∙ f in
    both-below sizes p q c.in-Some-Some.above.state c.in-Some-Some.below.state a b
    (sym (c.comes_before.ensures sizes (below-state sizes p q c.in-Some-Some.above.state c.in-Some-Some.below.state a b) (above-state sizes p q c.in-Some-Some.above.state c.in-Some-Some.below.state a b)) ∙ c.if-comes_before.true)

pub returns-else-comes_before-clause-first : goal.returns-else-comes_before-clause-first
returns-else-comes_before-clause-first c = λ sizes p q e f.
    let a = sym (ap (option_map (λ (x : F). x.state)) c.in-Some-Some.is-0) ∙ e in
    let b = sym (ap (option_map (λ (x : F). x.state)) c.in-Some-Some.is-1) ∙ f in
    both-above sizes p q c.in-Some-Some.above.state c.in-Some-Some.below.state a b
    (sym (c.comes_before.ensures sizes (below-state sizes p q c.in-Some-Some.above.state c.in-Some-Some.below.state a b) (above-state sizes p q c.in-Some-Some.above.state c.in-Some-Some.below.state a b)) ∙ c.if-comes_before.false)
