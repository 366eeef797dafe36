use Rattle.std.proofs.Common.{◌∙◌, refl, sym, subst}
use Rattle.std.specs.List.{Contains}
use Rattle.spd_cons.specs.Searching.{Held}
use Rattle.spd_cons.proofs.Passing.{probes-from}
use Rattle.spd_cons.proofs.words.WordTable.probe.Goals as goal

pub fill-requires-clause-unknown : goal.fill-requires-clause-unknown
fill-requires-clause-unknown g c = λ k at. c.look_into-found.ensures.looks.unknown c.if-found-eq0.true k (subst (λ (h : Held). Contains h.knows k) c.look_into-found.ensures.looks.held at)

pub returns-then-found-eq0-clause-probes : goal.returns-then-found-eq0-clause-probes
returns-then-found-eq0-clause-probes g c = probes-from _ _ _ _ _ _ _ _ c.look_into-found.ensures.looks.held (λ none. sym c.look_into-found.ensures.looks.spare ∙ none) refl c.fill.ensures.probes

pub returns-clause-probes : goal.returns-clause-probes
returns-clause-probes g c = probes-from _ _ _ _ _ _ _ _ c.look_into-found.ensures.looks.held (λ none. sym c.look_into-found.ensures.looks.spare ∙ none) refl c.compared.ensures.probes
