use Rattle.std.proofs.Common.{sym, subst}
use Rattle.spd_model.proofs.CallerLemmas.Results.{err_is}
use Rattle.spd_nodes.specs.Shown.{Shown}
use Rattle.spd_residual.specs.Residual.{Gaps, FindsResidual, FindsResidualOf, gaps_in, gaps_of}
use Rattle.spd_residual.proofs.ActionLaws.{high-valued, low-valued, process-same}
use Rattle.spd_residual.proofs.ResultLaws.{found-none, found-one, gaps-failed, have-same, known-at, of-process, of-process-failed, same-itself, tell-gaps, upper-at}
use Rattle.spd_residual.proofs.measuring.residual.Goals as goal

pub gaps_of-requires-clause-low : goal.gaps_of-requires-clause-low
gaps_of-requires-clause-low g c = low-valued (g.F.Forest.shows c.args.forest.now) c.args.w c.args.bounds.now c.args.best.now c.requires.value c.requires.bounds c.requires.some c.requires.best

pub gaps_of-requires-clause-high : goal.gaps_of-requires-clause-high
gaps_of-requires-clause-high g c = high-valued (g.F.Forest.shows c.args.forest.now) c.args.w c.args.bounds.now c.args.best.now c.requires.value c.requires.bounds c.requires.some c.requires.best

-- ---- where the gaps aren't made

pub returns-in_err-gaps-clause-found : goal.returns-in_err-gaps-clause-found
returns-in_err-gaps-clause-found g c =
    let s : Shown = g.F.Forest.shows c.args.forest.now in
    let t : Shown = g.F.Forest.shows c.gaps_of.new.forest in
    let gaps : Gaps = gaps_in s c.args.w c.args.bounds.now in
    let have = have-same s c.args.w c.args.bounds.now c.args.best.now c.requires.value c.requires.bounds c.requires.some c.requires.best gaps (same-itself s.sizes gaps) in
    subst (FindsResidual s.sizes gaps s t) (sym (err_is c.from_residual.result c.in_err-gaps.field-0.0 c.from_residual.ensures.1))
    (gaps-failed s.sizes gaps s t c.in_err-gaps.field-0.0 (c.in_err-gaps.ensures.made gaps have))

pub returns-in_err-gaps-clause-process : goal.returns-in_err-gaps-clause-process
returns-in_err-gaps-clause-process g c = λ m v sizes numbers are.
    let s : Shown = g.F.Forest.shows c.args.forest.now in
    let t : Shown = g.F.Forest.shows c.gaps_of.new.forest in
    let have = have-same s c.args.w c.args.bounds.now c.args.best.now c.requires.value c.requires.bounds c.requires.some c.requires.best (gaps_of m v) (process-same s m v c.args.w c.args.bounds.now numbers are) in
    subst (FindsResidualOf m v s t) (sym (err_is c.from_residual.result c.in_err-gaps.field-0.0 c.from_residual.ensures.1))
    (of-process-failed m v s t c.in_err-gaps.field-0.0 (gaps-failed s.sizes (gaps_of m v) s t c.in_err-gaps.field-0.0 (c.in_err-gaps.ensures.made (gaps_of m v) have)))

-- ---- where they are made

pub find-requires-clause-known : goal.find-requires-clause-known
find-requires-clause-known g c =
    let s : Shown = g.F.Forest.shows c.args.forest.now in
    let gaps : Gaps = gaps_in s c.args.w c.args.bounds.now in
    let same = same-itself s.sizes gaps in
    let have = have-same s c.args.w c.args.bounds.now c.args.best.now c.requires.value c.requires.bounds c.requires.some c.requires.best gaps same in
    known-at s c.args.w c.args.bounds.now c.args.best.now c.requires.value c.requires.bounds c.requires.some c.requires.best gaps same (g.F.Forest.shows c.gaps_of.new.forest) c.in_ok-gaps.gaps (c.in_ok-gaps.ensures.made gaps have)

pub find-requires-clause-upper : goal.find-requires-clause-upper
find-requires-clause-upper g c =
    let s : Shown = g.F.Forest.shows c.args.forest.now in
    let gaps : Gaps = gaps_in s c.args.w c.args.bounds.now in
    let same = same-itself s.sizes gaps in
    let have = have-same s c.args.w c.args.bounds.now c.args.best.now c.requires.value c.requires.bounds c.requires.some c.requires.best gaps same in
    upper-at s c.args.w c.args.bounds.now c.args.best.now c.requires.value c.requires.bounds c.requires.some c.requires.best gaps same (g.F.Forest.shows c.gaps_of.new.forest) c.in_ok-gaps.gaps (c.in_ok-gaps.ensures.made gaps have)

pub find-requires-clause-tell : goal.find-requires-clause-tell
find-requires-clause-tell g c =
    let s : Shown = g.F.Forest.shows c.args.forest.now in
    let gaps : Gaps = gaps_in s c.args.w c.args.bounds.now in
    let same = same-itself s.sizes gaps in
    let have = have-same s c.args.w c.args.bounds.now c.args.best.now c.requires.value c.requires.bounds c.requires.some c.requires.best gaps same in
    record { gaps = gaps; tell = tell-gaps s c.args.w c.args.bounds.now c.args.best.now c.requires.value c.requires.bounds c.requires.some c.requires.best gaps same (g.F.Forest.shows c.gaps_of.new.forest) c.in_ok-gaps.gaps (c.in_ok-gaps.ensures.made gaps have) }

pub returns-in-Ok-clause-found : goal.returns-in-Ok-clause-found
returns-in-Ok-clause-found g c =
    let s : Shown = g.F.Forest.shows c.args.forest.now in
    let t : Shown = g.F.Forest.shows c.gaps_of.new.forest in
    let gaps : Gaps = gaps_in s c.args.w c.args.bounds.now in
    let same = same-itself s.sizes gaps in
    let made = c.in_ok-gaps.ensures.made gaps (have-same s c.args.w c.args.bounds.now c.args.best.now c.requires.value c.requires.bounds c.requires.some c.requires.best gaps same) in
    let tell = tell-gaps s c.args.w c.args.bounds.now c.args.best.now c.requires.value c.requires.bounds c.requires.some c.requires.best gaps same t c.in_ok-gaps.gaps made in
    found-one gaps s t (g.F.Forest.shows c.find.new.forest) c.in_ok-gaps.gaps c.find.ensures.same made c.in-Ok.residual (c.in-Ok.ensures.found gaps tell)

pub returns-in-Ok-clause-process : goal.returns-in-Ok-clause-process
returns-in-Ok-clause-process g c = λ m v sizes numbers are.
    let s : Shown = g.F.Forest.shows c.args.forest.now in
    let t : Shown = g.F.Forest.shows c.gaps_of.new.forest in
    let same = process-same s m v c.args.w c.args.bounds.now numbers are in
    let made = c.in_ok-gaps.ensures.made (gaps_of m v) (have-same s c.args.w c.args.bounds.now c.args.best.now c.requires.value c.requires.bounds c.requires.some c.requires.best (gaps_of m v) same) in
    let tell = tell-gaps s c.args.w c.args.bounds.now c.args.best.now c.requires.value c.requires.bounds c.requires.some c.requires.best (gaps_of m v) same t c.in_ok-gaps.gaps made in
    of-process m v s (g.F.Forest.shows c.find.new.forest) c.in-Ok.residual sizes
    (found-one (gaps_of m v) s t (g.F.Forest.shows c.find.new.forest) c.in_ok-gaps.gaps c.find.ensures.same made c.in-Ok.residual (c.in-Ok.ensures.found (gaps_of m v) tell))

-- ---- where there was no memory to find it

pub returns-in-Err-clause-found : goal.returns-in-Err-clause-found
returns-in-Err-clause-found g c =
    let s : Shown = g.F.Forest.shows c.args.forest.now in
    let gaps : Gaps = gaps_in s c.args.w c.args.bounds.now in
    let have = have-same s c.args.w c.args.bounds.now c.args.best.now c.requires.value c.requires.bounds c.requires.some c.requires.best gaps (same-itself s.sizes gaps) in
    found-none s.sizes gaps s (g.F.Forest.shows c.gaps_of.new.forest) (g.F.Forest.shows c.find.new.forest) c.in_ok-gaps.gaps c.find.ensures.same (c.in_ok-gaps.ensures.made gaps have)

pub returns-in-Err-clause-process : goal.returns-in-Err-clause-process
returns-in-Err-clause-process g c = λ m v sizes numbers are.
    let s : Shown = g.F.Forest.shows c.args.forest.now in
    let u : Shown = g.F.Forest.shows c.find.new.forest in
    let have = have-same s c.args.w c.args.bounds.now c.args.best.now c.requires.value c.requires.bounds c.requires.some c.requires.best (gaps_of m v) (process-same s m v c.args.w c.args.bounds.now numbers are) in
    of-process-failed m v s u _ (found-none s.sizes (gaps_of m v) s (g.F.Forest.shows c.gaps_of.new.forest) u c.in_ok-gaps.gaps c.find.ensures.same (c.in_ok-gaps.ensures.made (gaps_of m v) have))
