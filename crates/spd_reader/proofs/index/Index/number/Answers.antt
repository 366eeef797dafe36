use Rattle.std.proofs.Common.{◌∙◌, ap, sym}
use Rattle.spd_reader.specs.Trees.{number_in}
use Rattle.spd_reader.proofs.IndexViews.{number_in-shown}
use Rattle.spd_reader.proofs.index.Index.number.Goals as goal

pub returns-in-Some : goal.returns-in-Some
returns-in-Some c = c.in-Some.ensures.index ∙ sym (number_in-shown c.args.name.now c.self.inside.set.keys) ∙ ap (λ l. number_in l c.args.name.now) c.self.view_is

pub returns-in-None : goal.returns-in-None
returns-in-None c = c.in-None.ensures.index ∙ sym (number_in-shown c.args.name.now c.self.inside.set.keys) ∙ ap (λ l. number_in l c.args.name.now) c.self.view_is
