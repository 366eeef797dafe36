use Rattle.std.proofs.Common.{◌≡◌, ◌==◌, Bool, true, false, get_or, cond, sym, ◌∙◌, ap, subst}
use Rattle.std.proofs.lemmas.Bool.{ne_eqb}
use Rattle.std.proofs.lemmas.Bool.Decides.{Decides-eqb}
use Rattle.spd_nodes.specs.Levels.{IsTestOf}
use Rattle.spd_search.specs.declared.looking.Turn.TheVariants.{Yes, No}
use Rattle.spd_search.proofs.TurnLaws.{turn-past, turn-primed, turn-plain}
use Rattle.spd_search.proofs.looking.turn_of.Goals as goal

pub returns-in-None : goal.returns-in-None
returns-in-None c =
    sym (turn-past c.args.layout.now c.args.first.now c.args.level.0 c.what-var.result.0 c.what-var.result.2 c.what-var.result.1 c.what-var.ensures c.in-None.ensures.lookup.3)

pub returns-in-Some : goal.returns-in-Some
returns-in-Some c =
    let is : IsTestOf c.args.layout.now c.args.level.0 c.what-var.result.0 true c.what-var.result.2 = subst (λ (b : Bool). IsTestOf c.args.layout.now c.args.level.0 c.what-var.result.0 b c.what-var.result.2) c.if-primed.true c.what-var.ensures in
    sym (turn-primed c.args.layout.now c.args.first.now c.args.level.0 c.what-var.result.0 c.what-var.result.2 is c.in-Some.ensures.lookup.3.0)

pub returns-in-Some-2 : goal.returns-in-Some-2
returns-in-Some-2 c =
    let is : IsTestOf c.args.layout.now c.args.level.0 c.what-var.result.0 false c.what-var.result.2 = subst (λ (b : Bool). IsTestOf c.args.layout.now c.args.level.0 c.what-var.result.0 b c.what-var.result.2) c.if-primed.false c.what-var.ensures in
    let found = c.in-Some.ensures.lookup.3 in
    let same : (get_or c.args.first.now c.what-var.result.0 0 == c.what-var.result.2) ≡ true = (Decides-eqb (get_or c.args.first.now c.what-var.result.0 0) c.what-var.result.2).1 (sym (found.1 0) ∙ c.if-given-value.true) in
    sym (turn-plain c.args.layout.now c.args.first.now c.args.level.0 c.what-var.result.0 c.what-var.result.2 is found.0 ∙ ap (λ (b : Bool). cond b Yes No) same)

pub returns-in-Some-3 : goal.returns-in-Some-3
returns-in-Some-3 c =
    let is : IsTestOf c.args.layout.now c.args.level.0 c.what-var.result.0 false c.what-var.result.2 = subst (λ (b : Bool). IsTestOf c.args.layout.now c.args.level.0 c.what-var.result.0 b c.what-var.result.2) c.if-primed.false c.what-var.ensures in
    let found = c.in-Some.ensures.lookup.3 in
    let other : (get_or c.args.first.now c.what-var.result.0 0 == c.what-var.result.2) ≡ false = ne_eqb (get_or c.args.first.now c.what-var.result.0 0) c.what-var.result.2 (λ e. c.if-given-value.false (found.1 0 ∙ e)) in
    sym (turn-plain c.args.layout.now c.args.first.now c.args.level.0 c.what-var.result.0 c.what-var.result.2 is found.0 ∙ ap (λ (b : Bool). cond b Yes No) other)
