use Rattle.std.proofs.Common.{List, [], ◌∷◌, Ok, Err, sym, subst}
use Rattle.spd_model.specs.declared.tree.Tree.{Tree}
use Rattle.spd_model.specs.Lawful.{IsLawful}
use Rattle.spd_model.proofs.CallerLemmas.Results.{err_is}
use Rattle.spd_nodes.specs.Shown.{MakesAmong}
use Rattle.spd_nodes.proofs.CallerLemmas.{among-after, among-back, among-fails, among-front, diagram-agrees, has-made, has-none, has-wider, stands-grows}
use Rattle.spd_apply.proofs.CallerLemmas.{answers-grow}
use Rattle.spd_build.specs.Functions.{reward}
use Rattle.spd_build.specs.Building.{all_parts, sum_functions, net_functions}
use Rattle.spd_build.proofs.RewardLaws.{net-fits, net-agrees}
use Rattle.spd_build.proofs.rewards.reward_after.Goals as goal

pub returns-in_err-paid-clause-made : goal.returns-in_err-paid-clause-made
returns-in_err-paid-clause-made g c =
    let m = c.args.model.now in
    let a = c.args.action.now in
    let s = g.F.Forest.shows c.args.forest.now in
    let t = g.F.Forest.shows c.sum_parts.new.forest in
    let e = c.in_err-paid.field-0.0 in
    let made = subst (λ (l : List Tree). MakesAmong s t (all_parts m l) (sum_functions m l) (Err e)) c.as_slice.ensures c.in_err-paid.ensures.made in
    subst (MakesAmong s t (reward m a) (net_functions m a)) (sym (err_is c.from_residual.result e c.from_residual.ensures.1))
    (among-fails e (among-after (among-front (sum_functions m a.cost) (reward m a ∷ [])) (has-none s c.layout.ensures.sound (net_functions m a)) made))

pub returns-in_err-paid-clause-nets : goal.returns-in_err-paid-clause-nets
returns-in_err-paid-clause-nets g c = answers-grow c.requires.nets c.in_err-paid.ensures.made.grows

pub apply-requires-clause-fit : goal.apply-requires-clause-fit
apply-requires-clause-fit g c =
    let m = c.args.model.now in
    let s = g.F.Forest.shows c.args.forest.now in
    let t = g.F.Forest.shows c.sum_parts.new.forest in
    let law : IsLawful m = subst IsLawful c.model.view_is c.model.invariant in
    let made = subst (λ (l : List Tree). MakesAmong s t (all_parts m l) (sum_functions m l) (Ok c.in_ok-paid.paid)) c.as_slice.ensures c.in_ok-paid.ensures.made in
    net-fits m law c.args.action.now c.requires.action t c.args.gained c.in_ok-paid.paid (stands-grows made.grows c.requires.gained) made.ok

pub apply-requires-clause-memo : goal.apply-requires-clause-memo
apply-requires-clause-memo g c = answers-grow c.requires.nets c.in_ok-paid.ensures.made.grows

pub returns-clause-made : goal.returns-clause-made
returns-clause-made g c =
    let m = c.args.model.now in
    let a = c.args.action.now in
    let s = g.F.Forest.shows c.args.forest.now in
    let t = g.F.Forest.shows c.sum_parts.new.forest in
    let law : IsLawful m = subst IsLawful c.model.view_is c.model.invariant in
    let made = subst (λ (l : List Tree). MakesAmong s t (all_parts m l) (sum_functions m l) (Ok c.in_ok-paid.paid)) c.as_slice.ensures c.in_ok-paid.ensures.made in
    let agrees = net-agrees m law a c.requires.action t c.args.gained c.in_ok-paid.paid (stands-grows made.grows c.requires.gained) made.ok in
    among-after (among-back (sum_functions m a.cost) (reward m a ∷ [])) (has-wider (among-front (sum_functions m a.cost) (reward m a ∷ [])) (has-made made))
    (diagram-agrees made.sound agrees c.apply.ensures.made)

pub returns-clause-adds : goal.returns-clause-adds
returns-clause-adds g c = answers-grow c.sum_parts.ensures.adds c.apply.ensures.made.grows
