use Rattle.std.proofs.Common.{◌≡◌, rules, true, ◌*ℤ◌}
use Rattle.std.proofs.lemmas.Int.{to_z-of_z}
use Rattle.spd_apply.specs.Operations.{in_i128}
use Rattle.spd_apply.specs.Rounding.{times_fits}
use Rattle.spd_nodes.specs.declared.leaf.Leaf.TheVariants.{Num}
use Rattle.std.proofs.lemmas.Bool.{and_parts}
use Rattle.spd_apply.proofs.RoundingLaws.{in_i128-fits}
use Rattle.spd_apply.proofs.rounding.TimesCeilLeafMap.of.Goals as goal

pub returns-in-Num : goal.returns-in-Num
returns-in-Num c =
    let fits : times_fits c.args.self.now.g c.args.self.now.gd (Num c.in-Num.x) ≡ true = rw c.in-Num.is at c.requires in
    let within = and_parts _ (in_i128 (c.args.self.now.g *ℤ c.in-Num.x)) fits in
    let product = in_i128-fits (c.args.self.now.g *ℤ c.in-Num.x) within.1 in
    let quotient = c.ceil_div.ensures.quotient in
    search (rules, to_z-of_z)
