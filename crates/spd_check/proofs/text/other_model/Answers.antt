use Rattle.std.proofs.Common.{None, Some, refl, sym, ◌∙◌}
use Rattle.std.proofs.lemmas.Slice.Eq.{bytes_eq-Decides}
use Rattle.spd_check.proofs.TextLaws.{names-none, names-own}
use Rattle.spd_check.proofs.text.other_model.Goals as goal

pub returns-in-None : goal.returns-in-None
returns-in-None c = names-none c.args.digest.now c.args.text.now None c.in-None.ensures.every refl

pub returns-then-eq : goal.returns-then-eq
returns-then-eq c = names-own c.args.digest.now c.args.text.now c.in-Some.found (Some c.in-Some.found) c.in-Some.ensures.every refl ((bytes_eq-Decides c.in-Some.found c.args.digest.now).0 (sym c.eq.ensures ∙ c.if-eq.true))
