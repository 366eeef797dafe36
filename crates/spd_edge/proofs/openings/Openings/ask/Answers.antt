use Rattle.std.proofs.Common.{◌≡◌, ap, ◌∙◌, List, [], ◌∷◌, ◌++◌, ℕ, None, Some, rules}
use Rattle.spd_edge.specs.declared.openings.Opening.{Opening}
use Rattle.spd_edge.specs.declared.outside.Stage.TheVariants as Stage
use Rattle.spd_edge.specs.Names.{updated}
use Rattle.spd_edge.specs.Openings.{stage_among}
use Rattle.spd_edge.proofs.NamesLemmas.{under, under-push, shown-updated, option_map-None}
use Rattle.spd_edge.proofs.openings.Openings.ask.Goals as goal

pub returns-clause-ok : goal.returns-clause-ok
returns-clause-ok c =
    let name = c.args.name.now in
    let before = c.self.inside.openings.items in
    let label : Opening → List ℕ = λ opening. opening.name.items in
    let opening : Opening = record { name = c.in_ok-name.name; stage = Stage.Unopened } in
    let named : c.in_ok-name.name.items ≡ name = search rules in
    let none : under label before name ≡ None =
    option_map-None (λ each. each.stage) (under label before name) (ap (λ (openings : List Opening). stage_among openings name) c.self.view_is ∙ c.requires) in
    ap stage_among c.in_ok-push.ensures.items
    ∙ shown-updated (λ each. each.stage) (under label before) (under label (before ++ opening ∷ [])) name opening (under-push label before name opening none named)
    ∙ ap (λ (openings : List Opening). updated (stage_among openings) name (Some Stage.Unopened)) c.self.view_is
