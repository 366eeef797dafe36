use Rattle.std.proofs.Common.{◌≡◌, ◌<◌, ◌≤◌, [], List, length, get_or, sym, ap, subst, ◌∙◌, arith}
use Rattle.std.proofs.lemmas.Result.{err_from_is_err_and}
use Rattle.std.proofs.lemmas.List.{length-set}
use Rattle.spd_model.specs.declared.process.Var.{Var}
use Rattle.spd_model.specs.Process.{Process}
use Rattle.spd_model.specs.Lawful.{IsLawful}
use Rattle.spd_cert.specs.Reading.{state_at}
use Rattle.spd_cert.proofs.Loops.{pair_goes_on, pair_stops, pairs_done}
use Rattle.spd_cert.proofs.place.state_at.Goals as goal

pub returns-in_err-value : goal.returns-in_err-value
returns-in_err-value c =
    let p = err_from_is_err_and c.from_residual.result c.from_residual.ensures.1 in
    let vars = c.args.model.now.vars in
    let i = c.loop-i.i in
    let var = c.var-item.result in
    let all : c.as_slice-var-items.result.now ≡ vars = c.as_slice-var-items.ensures ∙ ap (λ (m : Process). m.vars) c.model.view_is in
    let near : i < length vars = subst (λ (l : List Var). i < length l) all c.loop-i-test.true in
    let here : get_or vars i var ≡ var = subst (λ (l : List Var). get_or l i var ≡ var) all (sym c.var-item.is) in
    rw (p.1, p.2) (pair_stops vars i c.loop-i.values c.loop-i.rest.now (state_at vars [] c.args.bytes.now) c.loop-i.invariant.told c.in_err-value.field-0.0 var near here c.in_err-value.ensures)

pub loop-i-preserved : goal.loop-i-preserved
loop-i-preserved c =
    let vars = c.args.model.now.vars in
    let i = c.loop-i.i in
    let var = c.var-item.result in
    let all : c.as_slice-var-items.result.now ≡ vars = c.as_slice-var-items.ensures ∙ ap (λ (m : Process). m.vars) c.model.view_is in
    let near : i < length vars = subst (λ (l : List Var). i < length l) all c.loop-i-test.true in
    let here : get_or vars i var ≡ var = subst (λ (l : List Var). get_or l i var ≡ var) all (sym c.var-item.is) in
    let few : length vars ≤ 100 = (subst IsLawful c.model.view_is c.model.invariant).few_vars in
    record {
      told = pair_goes_on vars i c.loop-i.values c.loop-i.rest.now (state_at vars [] c.args.bytes.now) c.loop-i.invariant.told var c.in_ok-value.value c.in_ok-value.behind.now near (omega (arith, near, few, c.loop-i.invariant.room)) here c.in_ok-value.ensures;
      room = omega (arith, c.loop-i.invariant.room, length-set c.loop-i.values i c.in_ok-value.value);
      within = omega (arith, near);
    }

pub returns : goal.returns
returns c =
    let vars = c.args.model.now.vars in
    let all : c.as_slice-var-items.result.now ≡ vars = c.as_slice-var-items.ensures ∙ ap (λ (m : Process). m.vars) c.model.view_is in
    let end : length vars ≤ c.loop-i.i = subst (λ (l : List Var). length l ≤ c.loop-i.i) all c.loop-i-test.false in
    pairs_done vars c.loop-i.i c.loop-i.values c.loop-i.rest.now (state_at vars [] c.args.bytes.now) c.loop-i.invariant.told end c.loop-i.invariant.within
