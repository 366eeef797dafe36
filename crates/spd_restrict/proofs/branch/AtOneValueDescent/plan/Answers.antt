use Rattle.std.proofs.Common.{sym, ◌∙◌}
use Rattle.spd_restrict.proofs.ChosenLaws.{replaces-at, replaces-same}
use Rattle.spd_restrict.proofs.branch.AtOneValueDescent.plan.Goals as goal

pub returns-then-eq : goal.returns-then-eq
returns-then-eq g c = record { plan = replaces-same c.args.self.now.first c.args.self.now.value (g.F.Forest.shows c.args._forest.now) c.requires.sound c.args.f.name c.args.g.name c.requires.left.known c.requires.right.known c.requires.may (sym c.eq.ensures ∙ c.if-eq.true) }

pub returns-in-Some : goal.returns-in-Some
returns-in-Some g c = record {
  plan = rw c.test_of_halves.ensures (replaces-at c.args.self.now.first c.args.self.now.value (g.F.Forest.shows c.args._forest.now) c.requires.sound c.args.f.name c.args.g.name c.requires.left.known c.requires.right.known c.requires.may c.args.f.root c.args.g.root c.in-Some.level c.requires.left.root c.requires.right.root (sym c.in-Some.ensures) c.if-level-self.true);
}
