use Rattle.std.proofs.Common.{◌≡◌, ◌<◌, ◌-◌, None}
use Rattle.spd_cons_core.specs.Spelling.{words_of, first_bucket}
use Rattle.spd_cons.specs.Shown.{IsActive, view_of}
use Rattle.spd_cons.specs.Searching.{held, IsReady, distance}
use Rattle.spd_cons.proofs.words.WordTable.search_on.Given as goal

abbrev pub invariant-loop-e : goal.invariant-loop-e
invariant-loop-e g l = (l.active.token.table_id ≡ l.initial.active.token.table_id) × IsActive l.active × (held (view_of l.active) ≡ held (view_of l.initial.active)) × ((view_of l.active).mind.spare ≡ None → (view_of l.initial.active).mind.spare ≡ None) × (l.search.key ≡ l.initial.search.key) × IsReady l.search l.search.at (view_of l.active) × (l.search.at < l.self.size.count)

abbrev pub decreases-loop-e : goal.decreases-loop-e
decreases-loop-e g l = l.self.size.count - distance l.self.size.count (first_bucket (words_of l.search.key) l.self.size.count) l.search.at
