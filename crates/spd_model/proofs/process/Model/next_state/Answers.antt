use Rattle.std.proofs.Common.{◌≤◌, subst, sym, arith, refl}
use Rattle.std.proofs.lemmas.List.Elements.{All-get_or}
use Rattle.spd_model.specs.Lawful.{IsLawful}
use Rattle.spd_model.specs.States.{sizes}
use Rattle.spd_model.proofs.CallerLemmas.StateOrder.{sizes_some, sizes_few, length-sizes, length-IsState}
use Rattle.spd_model.proofs.Steps.{raisable_next, last_none}
use Rattle.spd_model.proofs.process.Model.next_state.Goals as goal

pub raised-requires-clause-near : goal.raised-requires-clause-near
raised-requires-clause-near c =
    let can = c.in-Some.ensures.some in omega (arith, can.near, length-IsState (sizes c.args.self.now) c.args.s.now c.requires)

pub raised-requires-clause-few : goal.raised-requires-clause-few
raised-requires-clause-few c =
    let m = c.args.self.now in
    let law = subst IsLawful c.self.view_is c.self.invariant in
    omega (arith, length-IsState (sizes m) c.args.s.now c.requires, length-sizes m, law.few_vars)

pub raised-requires-clause-small : goal.raised-requires-clause-small
raised-requires-clause-small c =
    let m = c.args.self.now in
    let law = subst IsLawful c.self.view_is c.self.invariant in
    let can = c.in-Some.ensures.some in
    let few = All-get_or (λ size. size ≤ 64) (sizes m) c.in-Some.var 0 can.near (sizes_few m law) in
    omega (arith, can.below)

pub returns-in-Some : goal.returns-in-Some
returns-in-Some c =
    let m = c.args.self.now in
    let law = subst IsLawful c.self.view_is c.self.invariant in
    let can = c.in-Some.ensures.some in
    sym (raisable_next (sizes m) c.args.s.now c.raised.result c.in-Some.var (sizes_some m law) c.requires can c.raised.ensures)

pub returns-in-None : goal.returns-in-None
returns-in-None c = sym (last_none (sizes c.args.self.now) c.args.s.now (c.in-None.ensures.none refl))
