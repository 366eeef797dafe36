use Rattle.std.proofs.Common.{rules, ◌≡◌}
use Rattle.spd_memo.specs.Kept.{KeptAnswers, promoted_in}
use Rattle.spd_memo.proofs.ValidLaws.{kept-promoted}
use Rattle.spd_memo.proofs.Memo.get.Goals as goal

pub invariant_of-self : goal.invariant_of-self
invariant_of-self c =
    let cache = c.self.inside.cache in
    let before : KeptAnswers = record { pairs = cache.entries; capacity = cache.cap } in
    let pairs : c.get.follows.lender-at-none.entries ≡ promoted_in before.pairs c.args.f c.args.g = search rules in
    let capacity : c.get.follows.lender-at-none.cap ≡ before.capacity = search rules in
    rw (pairs, capacity) (kept-promoted before c.args.f c.args.g c.self.invariant)

pub returns-clause-distinct : goal.returns-clause-distinct
returns-clause-distinct c = invariant_of-self c
