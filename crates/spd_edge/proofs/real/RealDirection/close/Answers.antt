use Rattle.std.proofs.Common.{◌≡◌, ℕ, List, Option, ap, ◌∙◌, arith, Some}
use Rattle.spd_edge.specs.declared.outside.Stage.{Stage}
use Rattle.spd_edge.specs.Openings.{stage_among}
use Rattle.spd_edge.proofs.NamesLemmas.{updated-same, updated-other}
use Rattle.spd_edge.proofs.real.RealDirection.close.Goals as goal

pub returns-clause-closes : goal.returns-clause-closes
returns-clause-closes c =
    let name = c.args.name.now in
    let before = stage_among c.args.self.now.openings in
    let in_range = c.args.self.now.in_range in
    record {
      closed = ap (λ (stage : List ℕ → Option Stage). stage name) c.set.ensures ∙ updated-same before name (Some Stage.Closed);
      other_stages = λ other differ. ap (λ (stage : List ℕ → Option Stage). stage other) c.set.ensures ∙ updated-other before name (Some Stage.Closed) other differ;
      added = c.saturating_add-self.ensures;
      no_fault = λ none.
          let same : c.saturating_add-self.result ≡ c.args.self.now.faults = omega (arith, none, in_range, c.saturating_add-self.ensures) in
          let all : ℕ → List ℕ → ℕ = λ n _. n in
          ap all same;
    }
