use Rattle.spd_nodes.specs.Levels.{AllPositive, slots}
use Rattle.spd_nodes.proofs.CallerLemmas.{positive-slots, tree_of-value_at}
use Rattle.spd_search.proofs.FoundLaws.{found-nowhere}
use Rattle.spd_search.proofs.found.first_found.Goals as goal

pub returns-in-None-clause-found : goal.returns-in-None-clause-found
returns-in-None-clause-found g c =
    let s = g.F.Forest.shows c.args.forest.now in
    let wants = g.W.Wanted.wants c.args.wanted.now in
    let sound = c.layout.ensures.sound in
    let o : AllPositive (slots s.sizes) = positive-slots s.sizes sound.layout.values in
    let is = tree_of-value_at (slots s.sizes) 0 (s.tree c.args.r) (sound.reduced c.args.r c.requires.known) c.requires.whole in
    found-nowhere s.sizes wants (s.tree c.args.r) o is c.in_ok-leaf_in.field-0 c.in_ok-leaf_in.ensures.ok c.in-None.is
