use Rattle.std.proofs.Common.{◌≡◌, take}
use Rattle.std.specs.List.{fold}
use Rattle.spd_cons_core.specs.Seats.{learned}
use Rattle.spd_cons_core.proofs.mind.Mind.learn_all.Given as goal

abbrev pub invariant-loop-known : goal.invariant-loop-known
invariant-loop-known l = l.self ≡ record l.initial.self { knows = fold learned l.initial.self.knows (take l.known-index l.knowns) }
