use Rattle.spd_memo.specs.Kept.{KeptAnswers}
use Rattle.spd_memo.proofs.ValidLaws.{kept-put}
use Rattle.spd_memo.proofs.Memo.put.Goals as goal

pub invariant_of-self-2 : goal.invariant_of-self-2
invariant_of-self-2 c =
    let cache = c.self.inside.cache in
    let before : KeptAnswers = record { pairs = cache.entries; capacity = cache.cap } in
    rw c.in_ok-put.ensures.entries (kept-put before c.args.f c.args.g c.args.r c.self.invariant)

pub returns-clause-distinct : goal.returns-clause-distinct
returns-clause-distinct c = invariant_of-self-2 c
