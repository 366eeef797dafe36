use Rattle.std.proofs.Common.{ℕ, List, [], refl, subst, take}
use Rattle.spd_text.specs.inner.Pieces.{shown, Writes}
use Rattle.spd_text.proofs.WritingLaws.{writes-flushed}
use Rattle.spd_text.proofs.waiting.Waiting.flush.Goals as goal

pub returns-clause-wrote : goal.returns-clause-wrote
returns-clause-wrote g c =
    let r = c.write_all_of-result.ensures in
    subst (λ (w : List ℕ). Writes (shown g.K.Sink.taken g.K.Sink.faults g.K.Opened.name c.args.k.now) w [] c.write_all_of-result.result
    (shown g.K.Sink.taken g.K.Sink.faults g.K.Opened.name c.write_all_of-result.new.k) [])
    c.self.view_is (writes-flushed _ _ (take c.self.inside.len c.self.inside.bytes) [] _ refl r.all r.ok r.prefix r.failed r.never_falls r.named)
