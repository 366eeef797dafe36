use Rattle.std.proofs.Common.{◌≡◌}
use Rattle.spd_cons.specs.Shown.{IsActive, view_of}
use Rattle.spd_cons.specs.Searching.{held, IsComparing}
use Rattle.spd_cons.proofs.words.WordTable.compare.Given as goal

abbrev pub invariant-loop-word : goal.invariant-loop-word
invariant-loop-word l = (l.active.token.table_id ≡ l.initial.active.token.table_id) × IsActive l.active × IsComparing l.search l.e l.word (view_of l.active) × (held (view_of l.active) ≡ held (view_of l.initial.active)) × ((view_of l.active).mind.spare ≡ (view_of l.initial.active).mind.spare)
