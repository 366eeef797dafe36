use Rattle.std.proofs.Common.{List, subst}
use Rattle.std.specs.Prelude.{Contains}
use Rattle.std.proofs.lemmas.List.Elements.{Contains-append_right}
use Rattle.std.proofs.lemmas.Option.{IfSome_then}
use Rattle.spd_gather.specs.Rows.{Row}
use Rattle.spd_gather.proofs.table.Table.get.Goals as goal

pub returns-then-list-eq-SHORT : goal.returns-then-list-eq-SHORT
returns-then-list-eq-SHORT c =
    IfSome_then c.get.result c.get.ensures (λ r m. subst (λ (l : List Row). Contains l (c.args.list.now, r)) c.self.view_is (Contains-append_right c.self.inside.long c.self.inside.short (c.args.list.now, r) m))
