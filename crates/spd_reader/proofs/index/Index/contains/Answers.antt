use Rattle.std.proofs.Common.{◌∙◌, ap, sym}
use Rattle.spd_reader.specs.Trees.{is_among}
use Rattle.spd_reader.proofs.IndexViews.{is_among-shown}
use Rattle.spd_reader.proofs.index.Index.contains.Goals as goal

pub returns : goal.returns
returns c = c.contains.ensures ∙ sym (is_among-shown c.args.name.now c.self.inside.set.keys) ∙ ap (λ l. is_among l c.args.name.now) c.self.view_is
