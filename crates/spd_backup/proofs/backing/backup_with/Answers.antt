use Rattle.std.proofs.Common.{length, ◌∙◌, sym, subst, Ok}
use Rattle.spd_backup.specs.Expected.{BacksUp}
use Rattle.spd_backup.proofs.BackLaws.{back-fails, both-made, follows-grows, followed-grows, high-fails, is-followed, low-fails, next-follows, next-made}
use Rattle.spd_model.proofs.CallerLemmas.Results.{err_is}
use Rattle.spd_backup.proofs.KeepingLaws.{all-grow}
use Rattle.spd_backup.proofs.backing.backup_with.Goals as goal

pub primed_of-requires : goal.primed_of-requires
primed_of-requires g c = record { known = c.requires.known; whole = c.requires.whole; plain = c.requires.plain; last = c.requires.tables.next }

-- ---- where the value isn't primed

pub returns-in_err-next-clause-made : goal.returns-in_err-next-clause-made
returns-in_err-next-clause-made g c = λ m a v has is.
    subst (BacksUp m a v (g.F.Forest.shows c.args.forest.now) (g.F.Forest.shows c.primed_of.new.forest)) (sym (err_is c.from_residual.result c.in_err-next.field-0.0 c.from_residual.ensures.1))
    (back-fails c.in_err-next.field-0.0 (next-made m a v (g.F.Forest.shows c.args.forest.now) c.args.thawed.now c.args.action c.args.w has is c.layout.ensures.sound (g.F.Forest.shows c.primed_of.new.forest) _ c.in_err-next.ensures.made))

pub returns-in_err-next-clause-keeps : goal.returns-in_err-next-clause-keeps
returns-in_err-next-clause-keeps g c = c.primed_of.ensures.keeps

pub returns-in_err-next-clause-tables : goal.returns-in_err-next-clause-tables
returns-in_err-next-clause-tables g c =
    let s = g.F.Forest.shows c.args.forest.now in
    let t = g.F.Forest.shows c.primed_of.new.forest in
    let held = all-grow (length c.args.thawed.now.sizes.items) c.args.thawed.now.g s t c.args.tables.now c.in_err-next.ensures.made.grows c.requires.tables in
    record { next = c.primed_of.ensures.last; down = held.down; up = held.up; adds = held.adds }

-- ---- the lower bound

pub bound_of-requires : goal.bound_of-requires
bound_of-requires g c =
    let s = g.F.Forest.shows c.args.forest.now in
    let t = g.F.Forest.shows c.primed_of.new.forest in
    let made = c.in_ok-next.ensures.made in
    let held = all-grow (length c.args.thawed.now.sizes.items) c.args.thawed.now.g s t c.args.tables.now made.grows c.requires.tables in
    record {
      followed = is-followed s c.args.thawed.now c.args.action c.args.w c.layout.ensures.sound c.requires.thawed c.requires.values t c.in_ok-next.next made;
      tables = record { next = c.primed_of.ensures.last; down = held.down; up = held.up; adds = held.adds };
    }

pub returns-in_err-lo-clause-made : goal.returns-in_err-lo-clause-made
returns-in_err-lo-clause-made g c = λ m a v has is.
    let s = g.F.Forest.shows c.args.forest.now in
    let t = g.F.Forest.shows c.primed_of.new.forest in
    let next = next-made m a v s c.args.thawed.now c.args.action c.args.w has is c.layout.ensures.sound t (Ok c.in_ok-next.next) c.in_ok-next.ensures.made in
    let follows = next-follows m a v s c.args.thawed.now c.args.action c.args.w has is c.requires.values t c.in_ok-next.next next in
    subst (BacksUp m a v s (g.F.Forest.shows c.bound_of.new.forest)) (sym (err_is c.from_residual-in_err-lo.result c.in_err-lo.field-0.0 c.from_residual-in_err-lo.ensures.1))
    (low-fails m a v s c.args.thawed.now c.args.action c.args.w has is t c.in_ok-next.next next (g.F.Forest.shows c.bound_of.new.forest) c.in_err-lo.field-0.0 (c.in_err-lo.ensures.made m a v follows))

pub returns-in_err-lo-clause-keeps : goal.returns-in_err-lo-clause-keeps
returns-in_err-lo-clause-keeps g c = c.bound_of.ensures.keeps ∙ c.primed_of.ensures.keeps

pub returns-in_err-lo-clause-tables : goal.returns-in_err-lo-clause-tables
returns-in_err-lo-clause-tables g c = c.bound_of.ensures.tables

-- ---- the upper bound

pub bound_of-requires-2 : goal.bound_of-requires-2
bound_of-requires-2 g c =
    let s = g.F.Forest.shows c.args.forest.now in
    let t = g.F.Forest.shows c.primed_of.new.forest in
    let k = is-followed s c.args.thawed.now c.args.action c.args.w c.layout.ensures.sound c.requires.thawed c.requires.values t c.in_ok-next.next c.in_ok-next.ensures.made in
    record {
      followed = followed-grows (c.in_ok-lo.ensures.made k.process k.chosen k.value k.follows).among.grows k;
      tables = c.bound_of.ensures.tables;
    }

pub returns-in_err-hi-clause-made : goal.returns-in_err-hi-clause-made
returns-in_err-hi-clause-made g c = λ m a v has is.
    let s = g.F.Forest.shows c.args.forest.now in
    let t = g.F.Forest.shows c.primed_of.new.forest in
    let next = next-made m a v s c.args.thawed.now c.args.action c.args.w has is c.layout.ensures.sound t (Ok c.in_ok-next.next) c.in_ok-next.ensures.made in
    let follows = next-follows m a v s c.args.thawed.now c.args.action c.args.w has is c.requires.values t c.in_ok-next.next next in
    let low = c.in_ok-lo.ensures.made m a v follows in
    subst (BacksUp m a v s (g.F.Forest.shows c.bound_of-2.new.forest)) (sym (err_is c.from_residual-in_err-hi.result c.in_err-hi.field-0.0 c.from_residual-in_err-hi.ensures.1))
    (high-fails m a v s c.args.thawed.now c.args.action c.args.w has is t c.in_ok-next.next next (g.F.Forest.shows c.bound_of.new.forest) c.in_ok-lo.lo low (g.F.Forest.shows c.bound_of-2.new.forest) c.in_err-hi.field-0.0 (c.in_err-hi.ensures.made m a v (follows-grows low.among.grows follows)))

pub returns-in_err-hi-clause-keeps : goal.returns-in_err-hi-clause-keeps
returns-in_err-hi-clause-keeps g c = c.bound_of-2.ensures.keeps ∙ c.bound_of.ensures.keeps ∙ c.primed_of.ensures.keeps

pub returns-in_err-hi-clause-tables : goal.returns-in_err-hi-clause-tables
returns-in_err-hi-clause-tables g c = c.bound_of-2.ensures.tables

-- ---- both

pub returns-clause-made : goal.returns-clause-made
returns-clause-made g c = λ m a v has is.
    let s = g.F.Forest.shows c.args.forest.now in
    let t = g.F.Forest.shows c.primed_of.new.forest in
    let next = next-made m a v s c.args.thawed.now c.args.action c.args.w has is c.layout.ensures.sound t (Ok c.in_ok-next.next) c.in_ok-next.ensures.made in
    let follows = next-follows m a v s c.args.thawed.now c.args.action c.args.w has is c.requires.values t c.in_ok-next.next next in
    let low = c.in_ok-lo.ensures.made m a v follows in
    both-made m a v s c.args.thawed.now c.args.action c.args.w has is t c.in_ok-next.next next (g.F.Forest.shows c.bound_of.new.forest) c.in_ok-lo.lo low (g.F.Forest.shows c.bound_of-2.new.forest) c.in_ok-hi.hi (c.in_ok-hi.ensures.made m a v (follows-grows low.among.grows follows))

pub returns-clause-keeps : goal.returns-clause-keeps
returns-clause-keeps g c = c.bound_of-2.ensures.keeps ∙ c.bound_of.ensures.keeps ∙ c.primed_of.ensures.keeps

pub returns-clause-tables : goal.returns-clause-tables
returns-clause-tables g c = c.bound_of-2.ensures.tables
