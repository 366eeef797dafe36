use Rattle.std.proofs.Common.{◌∙◌, refl, sym}
use Rattle.spd_cons.proofs.Passing.{probes-from}
use Rattle.spd_cons.proofs.words.WordTable.publish_at.Goals as goal

pub returns-clause-probes : goal.returns-clause-probes
returns-clause-probes c =
    let h = c.publish-found.ensures.publishes.held c.if-found-eq0.false in
    probes-from _ _ _ _ _ _ _ _ h.0 (λ none. sym h.1 ∙ none) refl c.compared.ensures.probes
