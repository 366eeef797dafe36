use Rattle.spd_frozen.proofs.CallerLemmas.{fits-kids}
use Rattle.spd_check.proofs.judging.action_at.Goals as goal

pub at-requires : goal.at-requires
at-requires g c =
    let s = g.F.Forest.shows c.args.forest.now in
    fits-kids s.sizes c.args.failure.now.state c.args.policy.now c.requires.policy c.requires.state
