use Rattle.std.proofs.Common.{◌≡◌, ◌∙◌, ◌*◌, ◌≤◌, ℕ, slice_get, ap, sym, subst, arith}
use Rattle.std.specs.Option.{option_copied}
use Rattle.spd_plain.specs.declared.outlook.Outlook.{Outlook}
use Rattle.spd_plain.specs.declared.reach.Reach.TheVariants.{Own}
use Rattle.spd_plain.specs.inner.Chances.{values_of}
use Rattle.spd_plain.specs.inner.Reach.{reach_at}
use Rattle.spd_plain.proofs.Known.{kept_at, length-reaches, reach_read}
use Rattle.spd_plain.proofs.Steps.{on_both, own_count, own_tells}
use Rattle.spd_plain.proofs.chances.tell_chances.Goals as goal
use Rattle.spd_plain.proofs.chances.tell_chances.Goals.{In-Own, In-Some}

pub bounds : goal.bounds
bounds c = omega (arith, c.requires.axis.near, length-reaches c.args.model.now c.args.action.now (c.as_slice.ensures ∙ ap (λ (o : Outlook). o.reaches) c.requires.outlook))

own_is : (c : In-Own) → reach_at c.args.model.now c.args.action.now c.args.axis.now.var ≡ Own
own_is c = sym (reach_read c.args.model.now c.args.action.now (c.as_slice.ensures ∙ ap (λ (o : Outlook). o.reaches) c.requires.outlook) c.args.axis.now.var Own c.requires.axis.near) ∙ c.in-Own.is

-- what is kept
kept_is : (c : In-Some) → c.in-Some.kept.now ≡ values_of c.args.model.now c.args.action.now c.args.s.now c.args.axis.now.var
kept_is c =
    kept_at c.args.model.now c.args.action.now c.args.s.now c.args.axis.now.var c.requires.axis.near c.in-Some.kept.now
    (ap (λ (o : Outlook). slice_get o.kept c.args.axis.now.var) (sym c.requires.outlook) ∙ sym c.get.ensures.value ∙ ap option_copied c.in-Some.is)

pub spread-requires : goal.spread-requires
spread-requires c =
    let own = own_is (goal.at.spread-requires c).In-Own in
    let kept = c.as_slice-in-Some.ensures ∙ kept_is (goal.at.spread-requires c).In-Some in
    let size = own_count c.args.model.now c.args.action.now c.args.s.now c.args.axis.now c.requires.axis c.requires.action c.requires.state own c.as_slice-in-Some.result.now kept in
    record { room = subst (λ (n : ℕ). n * c.args.axis.now.after ≤ 4096) (sym size) c.requires.axis.few }

pub returns-in-Some : goal.returns-in-Some
returns-in-Some c =
    let own = own_is (goal.at.returns-in-Some c).In-Own in
    let kept = c.as_slice-in-Some.ensures ∙ kept_is (goal.at.returns-in-Some c).In-Some in
    on_both c.spread.result
    (own_tells c.args.model.now c.args.action.now c.args.s.now c.args.axis.now c.requires.axis c.requires.action c.requires.state own c.as_slice-in-Some.result.now kept c.spread.new.chances.items)
    c.spread.ensures.len c.spread.ensures.each

pub spread-requires-in-None : goal.spread-requires-in-None
spread-requires-in-None c =
    let own = own_is (goal.at.spread-requires-in-None c).In-Own in
    let kept = c.deref.ensures.value ∙ c.in_ok-read_own-in-None.ensures in
    let size = own_count c.args.model.now c.args.action.now c.args.s.now c.args.axis.now c.requires.axis c.requires.action c.requires.state own c.deref.result.now kept in
    record { room = subst (λ (n : ℕ). n * c.args.axis.now.after ≤ 4096) (sym size) c.requires.axis.few }

pub returns-in_ok-read_own-in-None : goal.returns-in_ok-read_own-in-None
returns-in_ok-read_own-in-None c =
    let own = own_is (goal.at.returns-in_ok-read_own-in-None c).In-Own in
    let kept = c.deref.ensures.value ∙ c.in_ok-read_own-in-None.ensures in
    on_both c.spread-in-None.result
    (own_tells c.args.model.now c.args.action.now c.args.s.now c.args.axis.now c.requires.axis c.requires.action c.requires.state own c.deref.result.now kept c.spread-in-None.new.chances.items)
    c.spread-in-None.ensures.len c.spread-in-None.ensures.each
