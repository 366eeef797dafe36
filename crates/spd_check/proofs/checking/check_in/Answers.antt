use Rattle.std.proofs.Common.{length, ◌≡◌, sym, subst, Ok, Err}
use mir.Syntax.{w128}
use Rattle.std.proofs.lemmas.Int.{to_z-of_z}
use Rattle.spd_model.specs.Lawful.{IsLawful}
use Rattle.spd_model.proofs.CallerLemmas.Results.{err_is}
use Rattle.spd_nodes.specs.declared.forest.StoreFault.TheVariants as F
use Rattle.spd_nodes.specs.Made.{MakesAll}
use Rattle.spd_frozen.specs.Fits.{FitsSizes}
use Rattle.spd_backup.specs.Keeping.{HoldAll}
use Rattle.spd_check.specs.declared.verdict.Verdict.{Verdict}
use Rattle.spd_check.specs.Certificates.{first_failure, policy_by, value_by, verdict_of}
use Rattle.spd_check.specs.Functions.{check_functions}
use Rattle.spd_check.proofs.CheckLaws.{backup-ready, backups-fail, beside, bounds-few, bounds-some, bounds-u, can-judge, check-done, check-out, gaps-failed, given-fails, high-y, highest-failed, known-bounds, known-high, layout-z, own-failed, own-y, some-beside, some-bounds, tables-fail, value-y, valued-high, valued-own, valued-value, whole-gaps}
use Rattle.spd_check.proofs.GivenLaws.{can-check}
use Rattle.spd_check.proofs.VerdictLaws.{yes-exactly}
use Rattle.spd_check.proofs.checking.check_in.Goals as goal

pub returns-in_err-given-clause-made : goal.returns-in_err-given-clause-made
returns-in_err-given-clause-made g c =
    let m = c.args.model.now in
    let law : IsLawful m = subst IsLawful c.model.view_is c.model.invariant in
    let w = value_by c.args.value.now in
    let policy = policy_by c.args.policy.now in
    let can = can-check m c.args.value.now c.args.policy.now c.nodes.ensures.frozen c.nodes-2.ensures.frozen c.requires.fit law c.requires.valid in
    let s = g.F.Forest.shows c.args.forest.now in
    let t = g.F.Forest.shows c.thaw_given.new.forest in
    subst (MakesAll {A = Verdict} s t (check_functions m w policy)) (sym (err_is c.from_residual.result c.in_err-given.field-0.0 c.from_residual.ensures.1))
    (given-fails m w policy can s t c.requires.layout c.in_err-given.field-0.0 c.in_err-given.ensures.made)

pub returns-in-Err-clause-made : goal.returns-in-Err-clause-made
returns-in-Err-clause-made g c =
    let m = c.args.model.now in
    let law : IsLawful m = subst IsLawful c.model.view_is c.model.invariant in
    let w = value_by c.args.value.now in
    let policy = policy_by c.args.policy.now in
    let can = can-check m c.args.value.now c.args.policy.now c.nodes.ensures.frozen c.nodes-2.ensures.frozen c.requires.fit law c.requires.valid in
    let s = g.F.Forest.shows c.args.forest.now in
    let t = g.F.Forest.shows c.thaw_given.new.forest in
    tables-fail m w policy can s t c.requires.layout c.in_ok-given.given c.in_ok-given.ensures.made

pub backup_all-requires-clause-ready : goal.backup_all-requires-clause-ready
backup_all-requires-clause-ready g c =
    let m = c.args.model.now in
    let law : IsLawful m = subst IsLawful c.model.view_is c.model.invariant in
    let w = value_by c.args.value.now in
    let policy = policy_by c.args.policy.now in
    let can = can-check m c.args.value.now c.args.policy.now c.nodes.ensures.frozen c.nodes-2.ensures.frozen c.requires.fit law c.requires.valid in
    let s = g.F.Forest.shows c.args.forest.now in
    let t = g.F.Forest.shows c.thaw_given.new.forest in
    backup-ready m w policy can s t c.requires.layout c.in_ok-given.given c.in_ok-given.ensures.made

pub returns-in_err-bounds-clause-made : goal.returns-in_err-bounds-clause-made
returns-in_err-bounds-clause-made g c =
    let m = c.args.model.now in
    let law : IsLawful m = subst IsLawful c.model.view_is c.model.invariant in
    let w = value_by c.args.value.now in
    let policy = policy_by c.args.policy.now in
    let can = can-check m c.args.value.now c.args.policy.now c.nodes.ensures.frozen c.nodes-2.ensures.frozen c.requires.fit law c.requires.valid in
    let s = g.F.Forest.shows c.args.forest.now in
    let t = g.F.Forest.shows c.thaw_given.new.forest in
    let u = g.F.Forest.shows c.backup_all.new.forest in
    subst (MakesAll {A = Verdict} s u (check_functions m w policy)) (sym (err_is c.from_residual-in_err-bounds.result c.in_err-bounds.field-0.0 c.from_residual-in_err-bounds.ensures.1))
    (backups-fail m w policy can s t c.requires.layout c.in_ok-given.given c.in_ok-given.ensures.made u c.in_err-bounds.field-0.0 (c.in_err-bounds.ensures.made m w c.in_ok-given.ensures.made.ok.can))

pub highest-requires-clause-ready : goal.highest-requires-clause-ready
highest-requires-clause-ready g c =
    let m = c.args.model.now in
    let law : IsLawful m = subst IsLawful c.model.view_is c.model.invariant in
    let w = value_by c.args.value.now in
    let policy = policy_by c.args.policy.now in
    let can = can-check m c.args.value.now c.args.policy.now c.nodes.ensures.frozen c.nodes-2.ensures.frozen c.requires.fit law c.requires.valid in
    let s = g.F.Forest.shows c.args.forest.now in
    let t = g.F.Forest.shows c.thaw_given.new.forest in
    let u = g.F.Forest.shows c.backup_all.new.forest in
    let backed = c.in_ok-bounds.ensures.made m w c.in_ok-given.ensures.made.ok.can in
    some-bounds m w policy can s t c.requires.layout c.in_ok-given.given c.in_ok-given.ensures.made u c.in_ok-bounds.bounds backed c.as_slice-all.result.now c.as_slice-all.ensures.value

pub highest-requires-clause-some : goal.highest-requires-clause-some
highest-requires-clause-some g c =
    let m = c.args.model.now in
    let law : IsLawful m = subst IsLawful c.model.view_is c.model.invariant in
    let w = value_by c.args.value.now in
    let policy = policy_by c.args.policy.now in
    let can = can-check m c.args.value.now c.args.policy.now c.nodes.ensures.frozen c.nodes-2.ensures.frozen c.requires.fit law c.requires.valid in
    let s = g.F.Forest.shows c.args.forest.now in
    let t = g.F.Forest.shows c.thaw_given.new.forest in
    let u = g.F.Forest.shows c.backup_all.new.forest in
    let backed = c.in_ok-bounds.ensures.made m w c.in_ok-given.ensures.made.ok.can in
    bounds-some m w policy can s t c.requires.layout c.in_ok-given.given c.in_ok-given.ensures.made u c.in_ok-bounds.bounds backed c.as_slice-all.result.now c.as_slice-all.ensures.value

pub returns-in_err-high-clause-made : goal.returns-in_err-high-clause-made
returns-in_err-high-clause-made g c =
    let m = c.args.model.now in
    let law : IsLawful m = subst IsLawful c.model.view_is c.model.invariant in
    let w = value_by c.args.value.now in
    let policy = policy_by c.args.policy.now in
    let can = can-check m c.args.value.now c.args.policy.now c.nodes.ensures.frozen c.nodes-2.ensures.frozen c.requires.fit law c.requires.valid in
    let s = g.F.Forest.shows c.args.forest.now in
    let t = g.F.Forest.shows c.thaw_given.new.forest in
    let u = g.F.Forest.shows c.backup_all.new.forest in
    let backed = c.in_ok-bounds.ensures.made m w c.in_ok-given.ensures.made.ok.can in
    let x = g.F.Forest.shows c.highest.new.forest in
    subst (MakesAll {A = Verdict} s x (check_functions m w policy)) (sym (err_is c.from_residual-in_err-high.result c.in_err-high.field-0.0 c.from_residual-in_err-high.ensures.1))
    (highest-failed m w policy can s t c.requires.layout c.in_ok-given.given c.in_ok-given.ensures.made u c.in_ok-bounds.bounds backed c.as_slice-all.result.now c.as_slice-all.ensures.value x c.in_err-high.field-0.0 (c.in_err-high.ensures.made m w (bounds-u m w policy can s t c.requires.layout c.in_ok-given.given c.in_ok-given.ensures.made u c.in_ok-bounds.bounds backed c.as_slice-all.result.now c.as_slice-all.ensures.value)))

pub own_lower-requires-clause-ready : goal.own_lower-requires-clause-ready
own_lower-requires-clause-ready g c =
    let m = c.args.model.now in
    let law : IsLawful m = subst IsLawful c.model.view_is c.model.invariant in
    let w = value_by c.args.value.now in
    let policy = policy_by c.args.policy.now in
    let can = can-check m c.args.value.now c.args.policy.now c.nodes.ensures.frozen c.nodes-2.ensures.frozen c.requires.fit law c.requires.valid in
    let s = g.F.Forest.shows c.args.forest.now in
    let t = g.F.Forest.shows c.thaw_given.new.forest in
    let u = g.F.Forest.shows c.backup_all.new.forest in
    let backed = c.in_ok-bounds.ensures.made m w c.in_ok-given.ensures.made.ok.can in
    let x = g.F.Forest.shows c.highest.new.forest in
    let high = c.in_ok-high.ensures.made m w (bounds-u m w policy can s t c.requires.layout c.in_ok-given.given c.in_ok-given.ensures.made u c.in_ok-bounds.bounds backed c.as_slice-all.result.now c.as_slice-all.ensures.value) in
    some-beside m w policy can s t c.requires.layout c.in_ok-given.given c.in_ok-given.ensures.made u c.in_ok-bounds.bounds backed c.as_slice-all.result.now c.as_slice-all.ensures.value x c.in_ok-high.high high

pub own_lower-requires-clause-few : goal.own_lower-requires-clause-few
own_lower-requires-clause-few g c =
    let m = c.args.model.now in
    let law : IsLawful m = subst IsLawful c.model.view_is c.model.invariant in
    let w = value_by c.args.value.now in
    let policy = policy_by c.args.policy.now in
    let can = can-check m c.args.value.now c.args.policy.now c.nodes.ensures.frozen c.nodes-2.ensures.frozen c.requires.fit law c.requires.valid in
    let s = g.F.Forest.shows c.args.forest.now in
    let t = g.F.Forest.shows c.thaw_given.new.forest in
    let u = g.F.Forest.shows c.backup_all.new.forest in
    let backed = c.in_ok-bounds.ensures.made m w c.in_ok-given.ensures.made.ok.can in
    bounds-few m w policy can s t c.requires.layout c.in_ok-given.given c.in_ok-given.ensures.made u c.in_ok-bounds.bounds backed c.as_slice-all.result.now c.as_slice-all.ensures.value

pub returns-in_err-own-clause-made : goal.returns-in_err-own-clause-made
returns-in_err-own-clause-made g c =
    let m = c.args.model.now in
    let law : IsLawful m = subst IsLawful c.model.view_is c.model.invariant in
    let w = value_by c.args.value.now in
    let policy = policy_by c.args.policy.now in
    let can = can-check m c.args.value.now c.args.policy.now c.nodes.ensures.frozen c.nodes-2.ensures.frozen c.requires.fit law c.requires.valid in
    let s = g.F.Forest.shows c.args.forest.now in
    let t = g.F.Forest.shows c.thaw_given.new.forest in
    let u = g.F.Forest.shows c.backup_all.new.forest in
    let backed = c.in_ok-bounds.ensures.made m w c.in_ok-given.ensures.made.ok.can in
    let x = g.F.Forest.shows c.highest.new.forest in
    let high = c.in_ok-high.ensures.made m w (bounds-u m w policy can s t c.requires.layout c.in_ok-given.given c.in_ok-given.ensures.made u c.in_ok-bounds.bounds backed c.as_slice-all.result.now c.as_slice-all.ensures.value) in
    let y = g.F.Forest.shows c.own_lower.new.forest in
    subst (MakesAll {A = Verdict} s y (check_functions m w policy)) (sym (err_is c.from_residual-in_err-own.result c.in_err-own.field-0.0 c.from_residual-in_err-own.ensures.1))
    (own-failed m w policy can s t c.requires.layout c.in_ok-given.given c.in_ok-given.ensures.made u c.in_ok-bounds.bounds backed c.as_slice-all.result.now c.as_slice-all.ensures.value x c.in_ok-high.high high y c.in_err-own.field-0.0 (c.in_err-own.ensures.made m w policy (beside m w policy can s t c.requires.layout c.in_ok-given.given c.in_ok-given.ensures.made u c.in_ok-bounds.bounds backed c.as_slice-all.result.now c.as_slice-all.ensures.value x c.in_ok-high.high high)))

pub gaps_of-requires-clause-value : goal.gaps_of-requires-clause-value
gaps_of-requires-clause-value g c =
    let m = c.args.model.now in
    let law : IsLawful m = subst IsLawful c.model.view_is c.model.invariant in
    let w = value_by c.args.value.now in
    let policy = policy_by c.args.policy.now in
    let can = can-check m c.args.value.now c.args.policy.now c.nodes.ensures.frozen c.nodes-2.ensures.frozen c.requires.fit law c.requires.valid in
    let s = g.F.Forest.shows c.args.forest.now in
    let t = g.F.Forest.shows c.thaw_given.new.forest in
    let u = g.F.Forest.shows c.backup_all.new.forest in
    let backed = c.in_ok-bounds.ensures.made m w c.in_ok-given.ensures.made.ok.can in
    let x = g.F.Forest.shows c.highest.new.forest in
    let high = c.in_ok-high.ensures.made m w (bounds-u m w policy can s t c.requires.layout c.in_ok-given.given c.in_ok-given.ensures.made u c.in_ok-bounds.bounds backed c.as_slice-all.result.now c.as_slice-all.ensures.value) in
    let y = g.F.Forest.shows c.own_lower.new.forest in
    let own = c.in_ok-own.ensures.made m w policy (beside m w policy can s t c.requires.layout c.in_ok-given.given c.in_ok-given.ensures.made u c.in_ok-bounds.bounds backed c.as_slice-all.result.now c.as_slice-all.ensures.value x c.in_ok-high.high high) in
    valued-value m w policy can s t c.requires.layout c.in_ok-given.given c.in_ok-given.ensures.made u c.in_ok-bounds.bounds backed c.as_slice-all.result.now c.as_slice-all.ensures.value x c.in_ok-high.high high y c.in_ok-own.own own

pub gaps_of-requires-clause-high : goal.gaps_of-requires-clause-high
gaps_of-requires-clause-high g c =
    let m = c.args.model.now in
    let law : IsLawful m = subst IsLawful c.model.view_is c.model.invariant in
    let w = value_by c.args.value.now in
    let policy = policy_by c.args.policy.now in
    let can = can-check m c.args.value.now c.args.policy.now c.nodes.ensures.frozen c.nodes-2.ensures.frozen c.requires.fit law c.requires.valid in
    let s = g.F.Forest.shows c.args.forest.now in
    let t = g.F.Forest.shows c.thaw_given.new.forest in
    let u = g.F.Forest.shows c.backup_all.new.forest in
    let backed = c.in_ok-bounds.ensures.made m w c.in_ok-given.ensures.made.ok.can in
    let x = g.F.Forest.shows c.highest.new.forest in
    let high = c.in_ok-high.ensures.made m w (bounds-u m w policy can s t c.requires.layout c.in_ok-given.given c.in_ok-given.ensures.made u c.in_ok-bounds.bounds backed c.as_slice-all.result.now c.as_slice-all.ensures.value) in
    let y = g.F.Forest.shows c.own_lower.new.forest in
    let own = c.in_ok-own.ensures.made m w policy (beside m w policy can s t c.requires.layout c.in_ok-given.given c.in_ok-given.ensures.made u c.in_ok-bounds.bounds backed c.as_slice-all.result.now c.as_slice-all.ensures.value x c.in_ok-high.high high) in
    valued-high m w policy can s t c.requires.layout c.in_ok-given.given c.in_ok-given.ensures.made u c.in_ok-bounds.bounds backed c.as_slice-all.result.now c.as_slice-all.ensures.value x c.in_ok-high.high high y c.in_ok-own.own own

pub gaps_of-requires-clause-own : goal.gaps_of-requires-clause-own
gaps_of-requires-clause-own g c =
    let m = c.args.model.now in
    let law : IsLawful m = subst IsLawful c.model.view_is c.model.invariant in
    let w = value_by c.args.value.now in
    let policy = policy_by c.args.policy.now in
    let can = can-check m c.args.value.now c.args.policy.now c.nodes.ensures.frozen c.nodes-2.ensures.frozen c.requires.fit law c.requires.valid in
    let s = g.F.Forest.shows c.args.forest.now in
    let t = g.F.Forest.shows c.thaw_given.new.forest in
    let u = g.F.Forest.shows c.backup_all.new.forest in
    let backed = c.in_ok-bounds.ensures.made m w c.in_ok-given.ensures.made.ok.can in
    let x = g.F.Forest.shows c.highest.new.forest in
    let high = c.in_ok-high.ensures.made m w (bounds-u m w policy can s t c.requires.layout c.in_ok-given.given c.in_ok-given.ensures.made u c.in_ok-bounds.bounds backed c.as_slice-all.result.now c.as_slice-all.ensures.value) in
    let y = g.F.Forest.shows c.own_lower.new.forest in
    let own = c.in_ok-own.ensures.made m w policy (beside m w policy can s t c.requires.layout c.in_ok-given.given c.in_ok-given.ensures.made u c.in_ok-bounds.bounds backed c.as_slice-all.result.now c.as_slice-all.ensures.value x c.in_ok-high.high high) in
    valued-own m w policy can s t c.requires.layout c.in_ok-given.given c.in_ok-given.ensures.made u c.in_ok-bounds.bounds backed c.as_slice-all.result.now c.as_slice-all.ensures.value x c.in_ok-high.high high y c.in_ok-own.own own

pub returns-in_err-gaps-clause-made : goal.returns-in_err-gaps-clause-made
returns-in_err-gaps-clause-made g c =
    let m = c.args.model.now in
    let law : IsLawful m = subst IsLawful c.model.view_is c.model.invariant in
    let w = value_by c.args.value.now in
    let policy = policy_by c.args.policy.now in
    let can = can-check m c.args.value.now c.args.policy.now c.nodes.ensures.frozen c.nodes-2.ensures.frozen c.requires.fit law c.requires.valid in
    let s = g.F.Forest.shows c.args.forest.now in
    let t = g.F.Forest.shows c.thaw_given.new.forest in
    let u = g.F.Forest.shows c.backup_all.new.forest in
    let backed = c.in_ok-bounds.ensures.made m w c.in_ok-given.ensures.made.ok.can in
    let x = g.F.Forest.shows c.highest.new.forest in
    let high = c.in_ok-high.ensures.made m w (bounds-u m w policy can s t c.requires.layout c.in_ok-given.given c.in_ok-given.ensures.made u c.in_ok-bounds.bounds backed c.as_slice-all.result.now c.as_slice-all.ensures.value) in
    let y = g.F.Forest.shows c.own_lower.new.forest in
    let own = c.in_ok-own.ensures.made m w policy (beside m w policy can s t c.requires.layout c.in_ok-given.given c.in_ok-given.ensures.made u c.in_ok-bounds.bounds backed c.as_slice-all.result.now c.as_slice-all.ensures.value x c.in_ok-high.high high) in
    let z = g.F.Forest.shows c.gaps_of.new.forest in
    subst (MakesAll {A = Verdict} s z (check_functions m w policy)) (sym (err_is c.from_residual-in_err-gaps.result c.in_err-gaps.field-0.0 c.from_residual-in_err-gaps.ensures.1))
    (gaps-failed m w policy can s t c.requires.layout c.in_ok-given.given c.in_ok-given.ensures.made u c.in_ok-bounds.bounds backed c.as_slice-all.result.now c.as_slice-all.ensures.value x c.in_ok-high.high high y c.in_ok-own.own own z c.in_err-gaps.field-0.0 (c.in_err-gaps.ensures.made m w policy (value-y m w policy can s t c.requires.layout c.in_ok-given.given c.in_ok-given.ensures.made u c.in_ok-bounds.bounds backed c.as_slice-all.result.now c.as_slice-all.ensures.value x c.in_ok-high.high high y c.in_ok-own.own own) (high-y m w policy can s t c.requires.layout c.in_ok-given.given c.in_ok-given.ensures.made u c.in_ok-bounds.bounds backed c.as_slice-all.result.now c.as_slice-all.ensures.value x c.in_ok-high.high high y c.in_ok-own.own own) (own-y m w policy can s t c.requires.layout c.in_ok-given.given c.in_ok-given.ensures.made u c.in_ok-bounds.bounds backed c.as_slice-all.result.now c.as_slice-all.ensures.value x c.in_ok-high.high high y c.in_ok-own.own own)))

pub judge-requires-clause-bounds : goal.judge-requires-clause-bounds
judge-requires-clause-bounds g c =
    let m = c.args.model.now in
    let law : IsLawful m = subst IsLawful c.model.view_is c.model.invariant in
    let w = value_by c.args.value.now in
    let policy = policy_by c.args.policy.now in
    let can = can-check m c.args.value.now c.args.policy.now c.nodes.ensures.frozen c.nodes-2.ensures.frozen c.requires.fit law c.requires.valid in
    let s = g.F.Forest.shows c.args.forest.now in
    let t = g.F.Forest.shows c.thaw_given.new.forest in
    let u = g.F.Forest.shows c.backup_all.new.forest in
    let backed = c.in_ok-bounds.ensures.made m w c.in_ok-given.ensures.made.ok.can in
    let x = g.F.Forest.shows c.highest.new.forest in
    let high = c.in_ok-high.ensures.made m w (bounds-u m w policy can s t c.requires.layout c.in_ok-given.given c.in_ok-given.ensures.made u c.in_ok-bounds.bounds backed c.as_slice-all.result.now c.as_slice-all.ensures.value) in
    let y = g.F.Forest.shows c.own_lower.new.forest in
    let own = c.in_ok-own.ensures.made m w policy (beside m w policy can s t c.requires.layout c.in_ok-given.given c.in_ok-given.ensures.made u c.in_ok-bounds.bounds backed c.as_slice-all.result.now c.as_slice-all.ensures.value x c.in_ok-high.high high) in
    let z = g.F.Forest.shows c.gaps_of.new.forest in
    let gaps = c.in_ok-gaps.ensures.made m w policy (value-y m w policy can s t c.requires.layout c.in_ok-given.given c.in_ok-given.ensures.made u c.in_ok-bounds.bounds backed c.as_slice-all.result.now c.as_slice-all.ensures.value x c.in_ok-high.high high y c.in_ok-own.own own) (high-y m w policy can s t c.requires.layout c.in_ok-given.given c.in_ok-given.ensures.made u c.in_ok-bounds.bounds backed c.as_slice-all.result.now c.as_slice-all.ensures.value x c.in_ok-high.high high y c.in_ok-own.own own) (own-y m w policy can s t c.requires.layout c.in_ok-given.given c.in_ok-given.ensures.made u c.in_ok-bounds.bounds backed c.as_slice-all.result.now c.as_slice-all.ensures.value x c.in_ok-high.high high y c.in_ok-own.own own) in
    known-bounds m w policy can s t c.requires.layout c.in_ok-given.given c.in_ok-given.ensures.made u c.in_ok-bounds.bounds backed c.as_slice-all.result.now c.as_slice-all.ensures.value x c.in_ok-high.high high y c.in_ok-own.own own z c.in_ok-gaps.gaps gaps

pub judge-requires-clause-few : goal.judge-requires-clause-few
judge-requires-clause-few g c =
    let m = c.args.model.now in
    let law : IsLawful m = subst IsLawful c.model.view_is c.model.invariant in
    let w = value_by c.args.value.now in
    let policy = policy_by c.args.policy.now in
    let can = can-check m c.args.value.now c.args.policy.now c.nodes.ensures.frozen c.nodes-2.ensures.frozen c.requires.fit law c.requires.valid in
    let s = g.F.Forest.shows c.args.forest.now in
    let t = g.F.Forest.shows c.thaw_given.new.forest in
    let u = g.F.Forest.shows c.backup_all.new.forest in
    let backed = c.in_ok-bounds.ensures.made m w c.in_ok-given.ensures.made.ok.can in
    bounds-few m w policy can s t c.requires.layout c.in_ok-given.given c.in_ok-given.ensures.made u c.in_ok-bounds.bounds backed c.as_slice-all.result.now c.as_slice-all.ensures.value

pub judge-requires-clause-high : goal.judge-requires-clause-high
judge-requires-clause-high g c =
    let m = c.args.model.now in
    let law : IsLawful m = subst IsLawful c.model.view_is c.model.invariant in
    let w = value_by c.args.value.now in
    let policy = policy_by c.args.policy.now in
    let can = can-check m c.args.value.now c.args.policy.now c.nodes.ensures.frozen c.nodes-2.ensures.frozen c.requires.fit law c.requires.valid in
    let s = g.F.Forest.shows c.args.forest.now in
    let t = g.F.Forest.shows c.thaw_given.new.forest in
    let u = g.F.Forest.shows c.backup_all.new.forest in
    let backed = c.in_ok-bounds.ensures.made m w c.in_ok-given.ensures.made.ok.can in
    let x = g.F.Forest.shows c.highest.new.forest in
    let high = c.in_ok-high.ensures.made m w (bounds-u m w policy can s t c.requires.layout c.in_ok-given.given c.in_ok-given.ensures.made u c.in_ok-bounds.bounds backed c.as_slice-all.result.now c.as_slice-all.ensures.value) in
    let y = g.F.Forest.shows c.own_lower.new.forest in
    let own = c.in_ok-own.ensures.made m w policy (beside m w policy can s t c.requires.layout c.in_ok-given.given c.in_ok-given.ensures.made u c.in_ok-bounds.bounds backed c.as_slice-all.result.now c.as_slice-all.ensures.value x c.in_ok-high.high high) in
    let z = g.F.Forest.shows c.gaps_of.new.forest in
    let gaps = c.in_ok-gaps.ensures.made m w policy (value-y m w policy can s t c.requires.layout c.in_ok-given.given c.in_ok-given.ensures.made u c.in_ok-bounds.bounds backed c.as_slice-all.result.now c.as_slice-all.ensures.value x c.in_ok-high.high high y c.in_ok-own.own own) (high-y m w policy can s t c.requires.layout c.in_ok-given.given c.in_ok-given.ensures.made u c.in_ok-bounds.bounds backed c.as_slice-all.result.now c.as_slice-all.ensures.value x c.in_ok-high.high high y c.in_ok-own.own own) (own-y m w policy can s t c.requires.layout c.in_ok-given.given c.in_ok-given.ensures.made u c.in_ok-bounds.bounds backed c.as_slice-all.result.now c.as_slice-all.ensures.value x c.in_ok-high.high high y c.in_ok-own.own own) in
    known-high m w policy can s t c.requires.layout c.in_ok-given.given c.in_ok-given.ensures.made u c.in_ok-bounds.bounds backed c.as_slice-all.result.now c.as_slice-all.ensures.value x c.in_ok-high.high high y c.in_ok-own.own own z c.in_ok-gaps.gaps gaps

pub judge-requires-clause-gaps : goal.judge-requires-clause-gaps
judge-requires-clause-gaps g c =
    let m = c.args.model.now in
    let law : IsLawful m = subst IsLawful c.model.view_is c.model.invariant in
    let w = value_by c.args.value.now in
    let policy = policy_by c.args.policy.now in
    let can = can-check m c.args.value.now c.args.policy.now c.nodes.ensures.frozen c.nodes-2.ensures.frozen c.requires.fit law c.requires.valid in
    let s = g.F.Forest.shows c.args.forest.now in
    let t = g.F.Forest.shows c.thaw_given.new.forest in
    let u = g.F.Forest.shows c.backup_all.new.forest in
    let backed = c.in_ok-bounds.ensures.made m w c.in_ok-given.ensures.made.ok.can in
    let x = g.F.Forest.shows c.highest.new.forest in
    let high = c.in_ok-high.ensures.made m w (bounds-u m w policy can s t c.requires.layout c.in_ok-given.given c.in_ok-given.ensures.made u c.in_ok-bounds.bounds backed c.as_slice-all.result.now c.as_slice-all.ensures.value) in
    let y = g.F.Forest.shows c.own_lower.new.forest in
    let own = c.in_ok-own.ensures.made m w policy (beside m w policy can s t c.requires.layout c.in_ok-given.given c.in_ok-given.ensures.made u c.in_ok-bounds.bounds backed c.as_slice-all.result.now c.as_slice-all.ensures.value x c.in_ok-high.high high) in
    let z = g.F.Forest.shows c.gaps_of.new.forest in
    let gaps = c.in_ok-gaps.ensures.made m w policy (value-y m w policy can s t c.requires.layout c.in_ok-given.given c.in_ok-given.ensures.made u c.in_ok-bounds.bounds backed c.as_slice-all.result.now c.as_slice-all.ensures.value x c.in_ok-high.high high y c.in_ok-own.own own) (high-y m w policy can s t c.requires.layout c.in_ok-given.given c.in_ok-given.ensures.made u c.in_ok-bounds.bounds backed c.as_slice-all.result.now c.as_slice-all.ensures.value x c.in_ok-high.high high y c.in_ok-own.own own) (own-y m w policy can s t c.requires.layout c.in_ok-given.given c.in_ok-given.ensures.made u c.in_ok-bounds.bounds backed c.as_slice-all.result.now c.as_slice-all.ensures.value x c.in_ok-high.high high y c.in_ok-own.own own) in
    whole-gaps m w policy can s t c.requires.layout c.in_ok-given.given c.in_ok-given.ensures.made u c.in_ok-bounds.bounds backed c.as_slice-all.result.now c.as_slice-all.ensures.value x c.in_ok-high.high high y c.in_ok-own.own own z c.in_ok-gaps.gaps gaps

pub judge-requires-clause-policy : goal.judge-requires-clause-policy
judge-requires-clause-policy g c =
    let m = c.args.model.now in
    let law : IsLawful m = subst IsLawful c.model.view_is c.model.invariant in
    let w = value_by c.args.value.now in
    let policy = policy_by c.args.policy.now in
    let can = can-check m c.args.value.now c.args.policy.now c.nodes.ensures.frozen c.nodes-2.ensures.frozen c.requires.fit law c.requires.valid in
    let s = g.F.Forest.shows c.args.forest.now in
    let t = g.F.Forest.shows c.thaw_given.new.forest in
    let u = g.F.Forest.shows c.backup_all.new.forest in
    let backed = c.in_ok-bounds.ensures.made m w c.in_ok-given.ensures.made.ok.can in
    let x = g.F.Forest.shows c.highest.new.forest in
    let high = c.in_ok-high.ensures.made m w (bounds-u m w policy can s t c.requires.layout c.in_ok-given.given c.in_ok-given.ensures.made u c.in_ok-bounds.bounds backed c.as_slice-all.result.now c.as_slice-all.ensures.value) in
    let y = g.F.Forest.shows c.own_lower.new.forest in
    let own = c.in_ok-own.ensures.made m w policy (beside m w policy can s t c.requires.layout c.in_ok-given.given c.in_ok-given.ensures.made u c.in_ok-bounds.bounds backed c.as_slice-all.result.now c.as_slice-all.ensures.value x c.in_ok-high.high high) in
    let z = g.F.Forest.shows c.gaps_of.new.forest in
    let gaps = c.in_ok-gaps.ensures.made m w policy (value-y m w policy can s t c.requires.layout c.in_ok-given.given c.in_ok-given.ensures.made u c.in_ok-bounds.bounds backed c.as_slice-all.result.now c.as_slice-all.ensures.value x c.in_ok-high.high high y c.in_ok-own.own own) (high-y m w policy can s t c.requires.layout c.in_ok-given.given c.in_ok-given.ensures.made u c.in_ok-bounds.bounds backed c.as_slice-all.result.now c.as_slice-all.ensures.value x c.in_ok-high.high high y c.in_ok-own.own own) (own-y m w policy can s t c.requires.layout c.in_ok-given.given c.in_ok-given.ensures.made u c.in_ok-bounds.bounds backed c.as_slice-all.result.now c.as_slice-all.ensures.value x c.in_ok-high.high high y c.in_ok-own.own own) in
    subst (λ n. FitsSizes n c.args.policy.now) (sym (layout-z m w policy can s t c.requires.layout c.in_ok-given.given c.in_ok-given.ensures.made u c.in_ok-bounds.bounds backed c.as_slice-all.result.now c.as_slice-all.ensures.value x c.in_ok-high.high high y c.in_ok-own.own own z c.in_ok-gaps.gaps gaps)) c.requires.fit.policy_fits

pub returns-in-Ok-judge-clause-made : goal.returns-in-Ok-judge-clause-made
returns-in-Ok-judge-clause-made g c =
    let m = c.args.model.now in
    let law : IsLawful m = subst IsLawful c.model.view_is c.model.invariant in
    let w = value_by c.args.value.now in
    let policy = policy_by c.args.policy.now in
    let can = can-check m c.args.value.now c.args.policy.now c.nodes.ensures.frozen c.nodes-2.ensures.frozen c.requires.fit law c.requires.valid in
    let s = g.F.Forest.shows c.args.forest.now in
    let t = g.F.Forest.shows c.thaw_given.new.forest in
    let u = g.F.Forest.shows c.backup_all.new.forest in
    let backed = c.in_ok-bounds.ensures.made m w c.in_ok-given.ensures.made.ok.can in
    let x = g.F.Forest.shows c.highest.new.forest in
    let high = c.in_ok-high.ensures.made m w (bounds-u m w policy can s t c.requires.layout c.in_ok-given.given c.in_ok-given.ensures.made u c.in_ok-bounds.bounds backed c.as_slice-all.result.now c.as_slice-all.ensures.value) in
    let y = g.F.Forest.shows c.own_lower.new.forest in
    let own = c.in_ok-own.ensures.made m w policy (beside m w policy can s t c.requires.layout c.in_ok-given.given c.in_ok-given.ensures.made u c.in_ok-bounds.bounds backed c.as_slice-all.result.now c.as_slice-all.ensures.value x c.in_ok-high.high high) in
    let z = g.F.Forest.shows c.gaps_of.new.forest in
    let gaps = c.in_ok-gaps.ensures.made m w policy (value-y m w policy can s t c.requires.layout c.in_ok-given.given c.in_ok-given.ensures.made u c.in_ok-bounds.bounds backed c.as_slice-all.result.now c.as_slice-all.ensures.value x c.in_ok-high.high high y c.in_ok-own.own own) (high-y m w policy can s t c.requires.layout c.in_ok-given.given c.in_ok-given.ensures.made u c.in_ok-bounds.bounds backed c.as_slice-all.result.now c.as_slice-all.ensures.value x c.in_ok-high.high high y c.in_ok-own.own own) (own-y m w policy can s t c.requires.layout c.in_ok-given.given c.in_ok-given.ensures.made u c.in_ok-bounds.bounds backed c.as_slice-all.result.now c.as_slice-all.ensures.value x c.in_ok-high.high high y c.in_ok-own.own own) in
    subst (λ v. MakesAll s v (check_functions m w policy) (Ok c.in-Ok-judge.verdict)) (sym c.judge.ensures.same) (check-done m w policy can s t c.requires.layout c.in_ok-given.given c.in_ok-given.ensures.made u c.in_ok-bounds.bounds backed c.as_slice-all.result.now c.as_slice-all.ensures.value x c.in_ok-high.high high y c.in_ok-own.own own z c.in_ok-gaps.gaps gaps c.in-Ok-judge.verdict)

pub returns-in-Ok-judge-clause-verdict : goal.returns-in-Ok-judge-clause-verdict
returns-in-Ok-judge-clause-verdict g c =
    let m = c.args.model.now in
    let law : IsLawful m = subst IsLawful c.model.view_is c.model.invariant in
    let w = value_by c.args.value.now in
    let policy = policy_by c.args.policy.now in
    let can = can-check m c.args.value.now c.args.policy.now c.nodes.ensures.frozen c.nodes-2.ensures.frozen c.requires.fit law c.requires.valid in
    let s = g.F.Forest.shows c.args.forest.now in
    let t = g.F.Forest.shows c.thaw_given.new.forest in
    let u = g.F.Forest.shows c.backup_all.new.forest in
    let backed = c.in_ok-bounds.ensures.made m w c.in_ok-given.ensures.made.ok.can in
    let x = g.F.Forest.shows c.highest.new.forest in
    let high = c.in_ok-high.ensures.made m w (bounds-u m w policy can s t c.requires.layout c.in_ok-given.given c.in_ok-given.ensures.made u c.in_ok-bounds.bounds backed c.as_slice-all.result.now c.as_slice-all.ensures.value) in
    let y = g.F.Forest.shows c.own_lower.new.forest in
    let own = c.in_ok-own.ensures.made m w policy (beside m w policy can s t c.requires.layout c.in_ok-given.given c.in_ok-given.ensures.made u c.in_ok-bounds.bounds backed c.as_slice-all.result.now c.as_slice-all.ensures.value x c.in_ok-high.high high) in
    let z = g.F.Forest.shows c.gaps_of.new.forest in
    let gaps = c.in_ok-gaps.ensures.made m w policy (value-y m w policy can s t c.requires.layout c.in_ok-given.given c.in_ok-given.ensures.made u c.in_ok-bounds.bounds backed c.as_slice-all.result.now c.as_slice-all.ensures.value x c.in_ok-high.high high y c.in_ok-own.own own) (high-y m w policy can s t c.requires.layout c.in_ok-given.given c.in_ok-given.ensures.made u c.in_ok-bounds.bounds backed c.as_slice-all.result.now c.as_slice-all.ensures.value x c.in_ok-high.high high y c.in_ok-own.own own) (own-y m w policy can s t c.requires.layout c.in_ok-given.given c.in_ok-given.ensures.made u c.in_ok-bounds.bounds backed c.as_slice-all.result.now c.as_slice-all.ensures.value x c.in_ok-high.high high y c.in_ok-own.own own) in
    subst (λ r. c.in-Ok-judge.verdict ≡ verdict_of (first_failure m w policy r)) (to_z-of_z w128 c.args.residual c.ranges.residual) (c.in-Ok-judge.ensures.verdict m w (can-judge m w policy can s t c.requires.layout c.in_ok-given.given c.in_ok-given.ensures.made u c.in_ok-bounds.bounds backed c.as_slice-all.result.now c.as_slice-all.ensures.value x c.in_ok-high.high high y c.in_ok-own.own own z c.in_ok-gaps.gaps gaps))

pub returns-in-Ok-judge-clause-exact : goal.returns-in-Ok-judge-clause-exact
returns-in-Ok-judge-clause-exact g c =
    let m = c.args.model.now in
    let law : IsLawful m = subst IsLawful c.model.view_is c.model.invariant in
    let w = value_by c.args.value.now in
    let policy = policy_by c.args.policy.now in
    let can = can-check m c.args.value.now c.args.policy.now c.nodes.ensures.frozen c.nodes-2.ensures.frozen c.requires.fit law c.requires.valid in
    let s = g.F.Forest.shows c.args.forest.now in
    let t = g.F.Forest.shows c.thaw_given.new.forest in
    let u = g.F.Forest.shows c.backup_all.new.forest in
    let backed = c.in_ok-bounds.ensures.made m w c.in_ok-given.ensures.made.ok.can in
    let x = g.F.Forest.shows c.highest.new.forest in
    let high = c.in_ok-high.ensures.made m w (bounds-u m w policy can s t c.requires.layout c.in_ok-given.given c.in_ok-given.ensures.made u c.in_ok-bounds.bounds backed c.as_slice-all.result.now c.as_slice-all.ensures.value) in
    let y = g.F.Forest.shows c.own_lower.new.forest in
    let own = c.in_ok-own.ensures.made m w policy (beside m w policy can s t c.requires.layout c.in_ok-given.given c.in_ok-given.ensures.made u c.in_ok-bounds.bounds backed c.as_slice-all.result.now c.as_slice-all.ensures.value x c.in_ok-high.high high) in
    let z = g.F.Forest.shows c.gaps_of.new.forest in
    let gaps = c.in_ok-gaps.ensures.made m w policy (value-y m w policy can s t c.requires.layout c.in_ok-given.given c.in_ok-given.ensures.made u c.in_ok-bounds.bounds backed c.as_slice-all.result.now c.as_slice-all.ensures.value x c.in_ok-high.high high y c.in_ok-own.own own) (high-y m w policy can s t c.requires.layout c.in_ok-given.given c.in_ok-given.ensures.made u c.in_ok-bounds.bounds backed c.as_slice-all.result.now c.as_slice-all.ensures.value x c.in_ok-high.high high y c.in_ok-own.own own) (own-y m w policy can s t c.requires.layout c.in_ok-given.given c.in_ok-given.ensures.made u c.in_ok-bounds.bounds backed c.as_slice-all.result.now c.as_slice-all.ensures.value x c.in_ok-high.high high y c.in_ok-own.own own) in
    let is = subst (λ r. c.in-Ok-judge.verdict ≡ verdict_of (first_failure m w policy r)) (to_z-of_z w128 c.args.residual c.ranges.residual) (c.in-Ok-judge.ensures.verdict m w (can-judge m w policy can s t c.requires.layout c.in_ok-given.given c.in_ok-given.ensures.made u c.in_ok-bounds.bounds backed c.as_slice-all.result.now c.as_slice-all.ensures.value x c.in_ok-high.high high y c.in_ok-own.own own z c.in_ok-gaps.gaps gaps)) in
    yes-exactly m w policy c.args.residual law.some_actions can.named c.in-Ok-judge.verdict is

pub returns-in-Ok-judge-clause-above : goal.returns-in-Ok-judge-clause-above
returns-in-Ok-judge-clause-above g c =
    let m = c.args.model.now in
    let law : IsLawful m = subst IsLawful c.model.view_is c.model.invariant in
    let w = value_by c.args.value.now in
    let policy = policy_by c.args.policy.now in
    let can = can-check m c.args.value.now c.args.policy.now c.nodes.ensures.frozen c.nodes-2.ensures.frozen c.requires.fit law c.requires.valid in
    let s = g.F.Forest.shows c.args.forest.now in
    let t = g.F.Forest.shows c.thaw_given.new.forest in
    let u = g.F.Forest.shows c.backup_all.new.forest in
    let backed = c.in_ok-bounds.ensures.made m w c.in_ok-given.ensures.made.ok.can in
    let x = g.F.Forest.shows c.highest.new.forest in
    let high = c.in_ok-high.ensures.made m w (bounds-u m w policy can s t c.requires.layout c.in_ok-given.given c.in_ok-given.ensures.made u c.in_ok-bounds.bounds backed c.as_slice-all.result.now c.as_slice-all.ensures.value) in
    let y = g.F.Forest.shows c.own_lower.new.forest in
    let own = c.in_ok-own.ensures.made m w policy (beside m w policy can s t c.requires.layout c.in_ok-given.given c.in_ok-given.ensures.made u c.in_ok-bounds.bounds backed c.as_slice-all.result.now c.as_slice-all.ensures.value x c.in_ok-high.high high) in
    let z = g.F.Forest.shows c.gaps_of.new.forest in
    let gaps = c.in_ok-gaps.ensures.made m w policy (value-y m w policy can s t c.requires.layout c.in_ok-given.given c.in_ok-given.ensures.made u c.in_ok-bounds.bounds backed c.as_slice-all.result.now c.as_slice-all.ensures.value x c.in_ok-high.high high y c.in_ok-own.own own) (high-y m w policy can s t c.requires.layout c.in_ok-given.given c.in_ok-given.ensures.made u c.in_ok-bounds.bounds backed c.as_slice-all.result.now c.as_slice-all.ensures.value x c.in_ok-high.high high y c.in_ok-own.own own) (own-y m w policy can s t c.requires.layout c.in_ok-given.given c.in_ok-given.ensures.made u c.in_ok-bounds.bounds backed c.as_slice-all.result.now c.as_slice-all.ensures.value x c.in_ok-high.high high y c.in_ok-own.own own) in
    let is = subst (λ r. c.in-Ok-judge.verdict ≡ verdict_of (first_failure m w policy r)) (to_z-of_z w128 c.args.residual c.ranges.residual) (c.in-Ok-judge.ensures.verdict m w (can-judge m w policy can s t c.requires.layout c.in_ok-given.given c.in_ok-given.ensures.made u c.in_ok-bounds.bounds backed c.as_slice-all.result.now c.as_slice-all.ensures.value x c.in_ok-high.high high y c.in_ok-own.own own z c.in_ok-gaps.gaps gaps)) in
    λ yes. c.law_courses.ensures.above m c.requires.valid w policy c.args.residual ((yes-exactly m w policy c.args.residual law.some_actions can.named c.in-Ok-judge.verdict is).0 yes)

pub returns-in-Ok-judge-clause-below : goal.returns-in-Ok-judge-clause-below
returns-in-Ok-judge-clause-below g c =
    let m = c.args.model.now in
    let law : IsLawful m = subst IsLawful c.model.view_is c.model.invariant in
    let w = value_by c.args.value.now in
    let policy = policy_by c.args.policy.now in
    let can = can-check m c.args.value.now c.args.policy.now c.nodes.ensures.frozen c.nodes-2.ensures.frozen c.requires.fit law c.requires.valid in
    let s = g.F.Forest.shows c.args.forest.now in
    let t = g.F.Forest.shows c.thaw_given.new.forest in
    let u = g.F.Forest.shows c.backup_all.new.forest in
    let backed = c.in_ok-bounds.ensures.made m w c.in_ok-given.ensures.made.ok.can in
    let x = g.F.Forest.shows c.highest.new.forest in
    let high = c.in_ok-high.ensures.made m w (bounds-u m w policy can s t c.requires.layout c.in_ok-given.given c.in_ok-given.ensures.made u c.in_ok-bounds.bounds backed c.as_slice-all.result.now c.as_slice-all.ensures.value) in
    let y = g.F.Forest.shows c.own_lower.new.forest in
    let own = c.in_ok-own.ensures.made m w policy (beside m w policy can s t c.requires.layout c.in_ok-given.given c.in_ok-given.ensures.made u c.in_ok-bounds.bounds backed c.as_slice-all.result.now c.as_slice-all.ensures.value x c.in_ok-high.high high) in
    let z = g.F.Forest.shows c.gaps_of.new.forest in
    let gaps = c.in_ok-gaps.ensures.made m w policy (value-y m w policy can s t c.requires.layout c.in_ok-given.given c.in_ok-given.ensures.made u c.in_ok-bounds.bounds backed c.as_slice-all.result.now c.as_slice-all.ensures.value x c.in_ok-high.high high y c.in_ok-own.own own) (high-y m w policy can s t c.requires.layout c.in_ok-given.given c.in_ok-given.ensures.made u c.in_ok-bounds.bounds backed c.as_slice-all.result.now c.as_slice-all.ensures.value x c.in_ok-high.high high y c.in_ok-own.own own) (own-y m w policy can s t c.requires.layout c.in_ok-given.given c.in_ok-given.ensures.made u c.in_ok-bounds.bounds backed c.as_slice-all.result.now c.as_slice-all.ensures.value x c.in_ok-high.high high y c.in_ok-own.own own) in
    let is = subst (λ r. c.in-Ok-judge.verdict ≡ verdict_of (first_failure m w policy r)) (to_z-of_z w128 c.args.residual c.ranges.residual) (c.in-Ok-judge.ensures.verdict m w (can-judge m w policy can s t c.requires.layout c.in_ok-given.given c.in_ok-given.ensures.made u c.in_ok-bounds.bounds backed c.as_slice-all.result.now c.as_slice-all.ensures.value x c.in_ok-high.high high y c.in_ok-own.own own z c.in_ok-gaps.gaps gaps)) in
    λ yes. c.law_courses.ensures.below m c.requires.valid w policy c.args.residual ((yes-exactly m w policy c.args.residual law.some_actions can.named c.in-Ok-judge.verdict is).0 yes)

pub returns-clause-made : goal.returns-clause-made
returns-clause-made g c =
    let m = c.args.model.now in
    let law : IsLawful m = subst IsLawful c.model.view_is c.model.invariant in
    let w = value_by c.args.value.now in
    let policy = policy_by c.args.policy.now in
    let can = can-check m c.args.value.now c.args.policy.now c.nodes.ensures.frozen c.nodes-2.ensures.frozen c.requires.fit law c.requires.valid in
    let s = g.F.Forest.shows c.args.forest.now in
    let t = g.F.Forest.shows c.thaw_given.new.forest in
    let u = g.F.Forest.shows c.backup_all.new.forest in
    let backed = c.in_ok-bounds.ensures.made m w c.in_ok-given.ensures.made.ok.can in
    let x = g.F.Forest.shows c.highest.new.forest in
    let high = c.in_ok-high.ensures.made m w (bounds-u m w policy can s t c.requires.layout c.in_ok-given.given c.in_ok-given.ensures.made u c.in_ok-bounds.bounds backed c.as_slice-all.result.now c.as_slice-all.ensures.value) in
    let y = g.F.Forest.shows c.own_lower.new.forest in
    let own = c.in_ok-own.ensures.made m w policy (beside m w policy can s t c.requires.layout c.in_ok-given.given c.in_ok-given.ensures.made u c.in_ok-bounds.bounds backed c.as_slice-all.result.now c.as_slice-all.ensures.value x c.in_ok-high.high high) in
    let z = g.F.Forest.shows c.gaps_of.new.forest in
    let gaps = c.in_ok-gaps.ensures.made m w policy (value-y m w policy can s t c.requires.layout c.in_ok-given.given c.in_ok-given.ensures.made u c.in_ok-bounds.bounds backed c.as_slice-all.result.now c.as_slice-all.ensures.value x c.in_ok-high.high high y c.in_ok-own.own own) (high-y m w policy can s t c.requires.layout c.in_ok-given.given c.in_ok-given.ensures.made u c.in_ok-bounds.bounds backed c.as_slice-all.result.now c.as_slice-all.ensures.value x c.in_ok-high.high high y c.in_ok-own.own own) (own-y m w policy can s t c.requires.layout c.in_ok-given.given c.in_ok-given.ensures.made u c.in_ok-bounds.bounds backed c.as_slice-all.result.now c.as_slice-all.ensures.value x c.in_ok-high.high high y c.in_ok-own.own own) in
    subst (λ v. MakesAll {A = Verdict} s v (check_functions m w policy) (Err F.Memory)) (sym c.judge.ensures.same) (check-out m w policy can s t c.requires.layout c.in_ok-given.given c.in_ok-given.ensures.made u c.in_ok-bounds.bounds backed c.as_slice-all.result.now c.as_slice-all.ensures.value x c.in_ok-high.high high y c.in_ok-own.own own z c.in_ok-gaps.gaps gaps)

pub backup_all-requires-clause-tables : goal.backup_all-requires-clause-tables
backup_all-requires-clause-tables g c =
    let t = g.F.Forest.shows c.thaw_given.new.forest in
    let thawed = c.in_ok-given.given.thawed in
    subst (λ z. HoldAll (length z) thawed.g t c.in-Ok.tables) c.as_slice.ensures.value (c.in-Ok.ensures thawed.g t)
