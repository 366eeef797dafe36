use Rattle.std.proofs.Common.{◌≡◌, ◌∙◌, sym, subst, Ok}
use Rattle.spd_nodes.specs.Shown.{Shown}
use Rattle.spd_apply.specs.Outcome.{FitsEverywhere}
use Rattle.spd_backup.specs.Thawing.{IsThawedOf}
use Rattle.spd_wide_rows.specs.Numbers.{is_test_number}
use Rattle.spd_wide_rows.proofs.NumberLaws.{test-values}
use Rattle.spd_wide_rows.proofs.StageLaws.{first-thawed, first-known}
use Rattle.spd_wide_rows.proofs.stages.bounds_in.Goals as goal

pub backup-requires-clause-thawed : goal.backup-requires-clause-thawed
backup-requires-clause-thawed g c =
    let m = c.args.model.now in
    let t = g.F.Forest.shows c.maps_leaves.new.forest in
    let same : t ≡ g.F.Forest.shows c.args.forest.now = c.in_ok-maps_leaves.ensures.same ∙ c.in_ok-is_plain.ensures.same ∙ c.is_whole.ensures.same in
    first-thawed m t c.args.thawed.now (subst (λ (z : Shown). IsThawedOf m z c.args.thawed.now) (sym same) c.requires.thawed)

pub backup-requires-clause-values : goal.backup-requires-clause-values
backup-requires-clause-values g c =
    let t = g.F.Forest.shows c.maps_leaves.new.forest in
    test-values t c.args.w (subst (λ (z : Shown). FitsEverywhere is_test_number z c.args.w) (sym c.in_ok-maps_leaves.ensures.same) (c.in_ok-maps_leaves.ensures.everywhere.0 c.if-not-branch-2.false))

pub returns-in-Ok-clause-lo : goal.returns-in-Ok-clause-lo
returns-in-Ok-clause-lo g c =
    let m = c.args.model.now in
    let t = g.F.Forest.shows c.maps_leaves.new.forest in
    let u = g.F.Forest.shows c.backup.new.forest in
    let same : t ≡ g.F.Forest.shows c.args.forest.now = c.in_ok-maps_leaves.ensures.same ∙ c.in_ok-is_plain.ensures.same ∙ c.is_whole.ensures.same in
    let thawed = subst (λ (z : Shown). IsThawedOf m z c.args.thawed.now) (sym same) c.requires.thawed in
    let fits = subst (λ (z : Shown). FitsEverywhere is_test_number z c.args.w) (sym c.in_ok-maps_leaves.ensures.same) (c.in_ok-maps_leaves.ensures.everywhere.0 c.if-not-branch-2.false) in
    (first-known m t c.args.thawed.now thawed u c.args.w (Ok c.in-Ok.bounds) fits c.in-Ok.ensures.made).0

pub returns-in-Ok-clause-hi : goal.returns-in-Ok-clause-hi
returns-in-Ok-clause-hi g c =
    let m = c.args.model.now in
    let t = g.F.Forest.shows c.maps_leaves.new.forest in
    let u = g.F.Forest.shows c.backup.new.forest in
    let same : t ≡ g.F.Forest.shows c.args.forest.now = c.in_ok-maps_leaves.ensures.same ∙ c.in_ok-is_plain.ensures.same ∙ c.is_whole.ensures.same in
    let thawed = subst (λ (z : Shown). IsThawedOf m z c.args.thawed.now) (sym same) c.requires.thawed in
    let fits = subst (λ (z : Shown). FitsEverywhere is_test_number z c.args.w) (sym c.in_ok-maps_leaves.ensures.same) (c.in_ok-maps_leaves.ensures.everywhere.0 c.if-not-branch-2.false) in
    (first-known m t c.args.thawed.now thawed u c.args.w (Ok c.in-Ok.bounds) fits c.in-Ok.ensures.made).1
