use Rattle.std.proofs.Common.{◌≡◌, ◌∙◌, ◌<◌, length, ap, sym, subst, Ok, arith}
use Rattle.spd_model.specs.Process.{Process}
use Rattle.spd_nodes.specs.Shown.{Grows, Shown}
use Rattle.spd_apply.specs.Outcome.{FitsEverywhere}
use Rattle.spd_backup.specs.Thawing.{IsThawedOf}
use Rattle.spd_stage_rows.specs.Values.{is_value}
use Rattle.spd_stage_rows.proofs.StageLaws.{is-thawed, backup-grows, bounds-known}
use Rattle.spd_stage_rows.proofs.prepared.backed_up.Goals as goal

pub backup-requires-clause-thawed : goal.backup-requires-clause-thawed
backup-requires-clause-thawed g c =
    let m = c.args.model.now in
    let t = g.F.Forest.shows c.maps_leaves.new.forest in
    let same : t ≡ g.F.Forest.shows c.args.forest.now = c.in_ok-maps_leaves.ensures.same ∙ c.in_ok-is_plain.ensures.same ∙ c.is_whole.ensures.same in
    let actions = c.as_slice.ensures ∙ ap (λ (p : Process). p.actions) c.model.view_is in
    let near : c.args.action < length m.actions = omega (arith, ap length actions, c.if-action-as_slice.false) in
    is-thawed m t c.args.thawed.now c.args.action (subst (λ (z : Shown). IsThawedOf m z c.args.thawed.now) (sym same) c.requires.thawed) near

pub returns-in-Ok-clause-grows : goal.returns-in-Ok-clause-grows
returns-in-Ok-clause-grows g c =
    let m = c.args.model.now in
    let t = g.F.Forest.shows c.maps_leaves.new.forest in
    let u = g.F.Forest.shows c.backup.new.forest in
    let same : t ≡ g.F.Forest.shows c.args.forest.now = c.in_ok-maps_leaves.ensures.same ∙ c.in_ok-is_plain.ensures.same ∙ c.is_whole.ensures.same in
    let actions = c.as_slice.ensures ∙ ap (λ (p : Process). p.actions) c.model.view_is in
    let near : c.args.action < length m.actions = omega (arith, ap length actions, c.if-action-as_slice.false) in
    let thawed = subst (λ (z : Shown). IsThawedOf m z c.args.thawed.now) (sym same) c.requires.thawed in
    let fits = subst (λ (z : Shown). FitsEverywhere is_value z c.args.w) (sym c.in_ok-maps_leaves.ensures.same) (c.in_ok-maps_leaves.ensures.everywhere.0 c.if-not-branch-2.false) in
    subst (λ (z : Shown). Grows z u) same (backup-grows m t c.args.thawed.now c.args.action thawed near u c.args.w c.backup.result fits c.backup.ensures.made)

pub returns-in-Err-Full-clause-grows : goal.returns-in-Err-Full-clause-grows
returns-in-Err-Full-clause-grows g c =
    let m = c.args.model.now in
    let t = g.F.Forest.shows c.maps_leaves.new.forest in
    let u = g.F.Forest.shows c.backup.new.forest in
    let same : t ≡ g.F.Forest.shows c.args.forest.now = c.in_ok-maps_leaves.ensures.same ∙ c.in_ok-is_plain.ensures.same ∙ c.is_whole.ensures.same in
    let actions = c.as_slice.ensures ∙ ap (λ (p : Process). p.actions) c.model.view_is in
    let near : c.args.action < length m.actions = omega (arith, ap length actions, c.if-action-as_slice.false) in
    let thawed = subst (λ (z : Shown). IsThawedOf m z c.args.thawed.now) (sym same) c.requires.thawed in
    let fits = subst (λ (z : Shown). FitsEverywhere is_value z c.args.w) (sym c.in_ok-maps_leaves.ensures.same) (c.in_ok-maps_leaves.ensures.everywhere.0 c.if-not-branch-2.false) in
    subst (λ (z : Shown). Grows z u) same (backup-grows m t c.args.thawed.now c.args.action thawed near u c.args.w c.backup.result fits c.backup.ensures.made)

pub returns-in-Err-Memory-clause-grows : goal.returns-in-Err-Memory-clause-grows
returns-in-Err-Memory-clause-grows g c =
    let m = c.args.model.now in
    let t = g.F.Forest.shows c.maps_leaves.new.forest in
    let u = g.F.Forest.shows c.backup.new.forest in
    let same : t ≡ g.F.Forest.shows c.args.forest.now = c.in_ok-maps_leaves.ensures.same ∙ c.in_ok-is_plain.ensures.same ∙ c.is_whole.ensures.same in
    let actions = c.as_slice.ensures ∙ ap (λ (p : Process). p.actions) c.model.view_is in
    let near : c.args.action < length m.actions = omega (arith, ap length actions, c.if-action-as_slice.false) in
    let thawed = subst (λ (z : Shown). IsThawedOf m z c.args.thawed.now) (sym same) c.requires.thawed in
    let fits = subst (λ (z : Shown). FitsEverywhere is_value z c.args.w) (sym c.in_ok-maps_leaves.ensures.same) (c.in_ok-maps_leaves.ensures.everywhere.0 c.if-not-branch-2.false) in
    subst (λ (z : Shown). Grows z u) same (backup-grows m t c.args.thawed.now c.args.action thawed near u c.args.w c.backup.result fits c.backup.ensures.made)

pub returns-in-Ok-clause-lo : goal.returns-in-Ok-clause-lo
returns-in-Ok-clause-lo g c =
    let m = c.args.model.now in
    let t = g.F.Forest.shows c.maps_leaves.new.forest in
    let u = g.F.Forest.shows c.backup.new.forest in
    let same : t ≡ g.F.Forest.shows c.args.forest.now = c.in_ok-maps_leaves.ensures.same ∙ c.in_ok-is_plain.ensures.same ∙ c.is_whole.ensures.same in
    let actions = c.as_slice.ensures ∙ ap (λ (p : Process). p.actions) c.model.view_is in
    let near : c.args.action < length m.actions = omega (arith, ap length actions, c.if-action-as_slice.false) in
    let thawed = subst (λ (z : Shown). IsThawedOf m z c.args.thawed.now) (sym same) c.requires.thawed in
    let fits = subst (λ (z : Shown). FitsEverywhere is_value z c.args.w) (sym c.in_ok-maps_leaves.ensures.same) (c.in_ok-maps_leaves.ensures.everywhere.0 c.if-not-branch-2.false) in
    (bounds-known m t c.args.thawed.now c.args.action thawed near u c.args.w (Ok c.in-Ok.bounds) fits c.in-Ok.ensures.made).0

pub returns-in-Ok-clause-hi : goal.returns-in-Ok-clause-hi
returns-in-Ok-clause-hi g c =
    let m = c.args.model.now in
    let t = g.F.Forest.shows c.maps_leaves.new.forest in
    let u = g.F.Forest.shows c.backup.new.forest in
    let same : t ≡ g.F.Forest.shows c.args.forest.now = c.in_ok-maps_leaves.ensures.same ∙ c.in_ok-is_plain.ensures.same ∙ c.is_whole.ensures.same in
    let actions = c.as_slice.ensures ∙ ap (λ (p : Process). p.actions) c.model.view_is in
    let near : c.args.action < length m.actions = omega (arith, ap length actions, c.if-action-as_slice.false) in
    let thawed = subst (λ (z : Shown). IsThawedOf m z c.args.thawed.now) (sym same) c.requires.thawed in
    let fits = subst (λ (z : Shown). FitsEverywhere is_value z c.args.w) (sym c.in_ok-maps_leaves.ensures.same) (c.in_ok-maps_leaves.ensures.everywhere.0 c.if-not-branch-2.false) in
    (bounds-known m t c.args.thawed.now c.args.action thawed near u c.args.w (Ok c.in-Ok.bounds) fits c.in-Ok.ensures.made).1
