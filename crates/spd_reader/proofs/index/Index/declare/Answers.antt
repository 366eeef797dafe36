use Rattle.std.proofs.Common.{◌∙◌, ap, sym}
use Rattle.spd_reader.specs.Trees.{with_name}
use Rattle.spd_reader.proofs.IndexViews.{shown, with_name-shown}
use Rattle.spd_reader.proofs.index.Index.declare.Goals as goal

pub returns : goal.returns
returns c = ap shown c.in_ok-insert.ensures.keys ∙ sym (with_name-shown c.args.name c.self.inside.set.keys) ∙ ap (λ l. with_name l c.args.name.now) c.self.view_is
