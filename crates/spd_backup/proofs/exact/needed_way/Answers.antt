use Rattle.std.proofs.Common.{[], IsTrue, rules, sym, subst}
use Rattle.std.proofs.lemmas.List.Elements.{All-head}
use Rattle.spd_nodes.specs.Shown.{meaning}
use Rattle.spd_nodes.specs.States.{Agree}
use Rattle.spd_weigh.specs.declared.way.Way.{Way}
use Rattle.spd_weigh.specs.declared.way.Way.TheVariants.{Down}
use Rattle.spd_weigh.specs.Discounting.{discounted}
use Rattle.spd_backup.specs.Exact.{HasExactLeaves}
use Rattle.spd_backup.proofs.ExactLaws.{exact-discounts}
use Rattle.spd_backup.proofs.exact.needed_way.Goals as goal

pub returns-then-are_exact-clause-agrees : goal.returns-then-are_exact-clause-agrees
returns-then-are_exact-clause-agrees g c =
    let s = g.F.Forest.shows c.args.forest.now in
    let yes : IsTrue c.are_exact.result = search rules in
    let exact = All-head (λ q. HasExactLeaves (record { times = c.args.discount; by = 1000000 }) (s.tree q)) c.args.f [] (c.are_exact.ensures.leaves yes) in
    subst (λ (way : Way). Agree s.sizes (discounted Down c.args.discount (meaning s c.args.f)) (discounted way c.args.discount (meaning s c.args.f))) (sym c.in-Up.is) (exact-discounts s c.args.f c.args.discount exact)
