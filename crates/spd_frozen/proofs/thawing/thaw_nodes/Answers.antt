use Rattle.std.proofs.Common.{◌≡◌, ◌-◌, ℕ, length, map, subst, sym}
use Rattle.std.proofs.lemmas.List.{length-map}
use Rattle.spd_nodes.specs.Levels.{slots}
use Rattle.spd_nodes.specs.Shown.{MakesTree}
use Rattle.spd_frozen.specs.inner.Thawed.{node_tree}
use Rattle.spd_frozen.proofs.MakeLaws.{root-made}
use Rattle.spd_frozen.proofs.thawing.thaw_nodes.Goals as goal

pub returns-in-Ok-clause-made : goal.returns-in-Ok-clause-made
returns-in-Ok-clause-made g c =
    let s = g.F.Forest.shows c.args.forest.now in
    let new = g.F.Forest.shows c.make.new.forest in
    let nodes = map g.M.Listed.seen c.args.nodes.now in
    let long : length c.args.nodes.now ≡ length nodes = sym (length-map c.args.nodes.now g.M.Listed.seen) in
    root-made s new c.layout.ensures.sound nodes c.requires.frozen c.requires.fits c.make.result (subst (λ (k : ℕ). MakesTree s new (node_tree (slots s.sizes) nodes (k - 1)) c.make.result) long c.make.ensures.made)
