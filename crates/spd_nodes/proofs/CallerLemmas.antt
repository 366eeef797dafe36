-- For crates above: the laws of levels, of test trees, of what a forest shows, and of what calls make one after the other.
pub use Rattle.spd_nodes.proofs.LayoutLaws.{level-plain, level-primed}
pub use Rattle.spd_nodes.proofs.MadeLaws.{IsTreeFor, among-agrees, among-fails, among-then, diagram-agrees, makes-diagram, makes_among-known, part-fails, part-then, tree-for, within-no, within-yes}
pub use Rattle.spd_nodes.proofs.MakingLaws.{Among, IsIn, all-out, among-after, among-back, among-both, among-failed, among-flat, among-front, among-trans, fault-wider, faults-wider, has-made, has-none, has-then, has-wider, in-back, in-front, meaning-grows, meanings-grow, part-failed, stand-grow, stand-known, stand-length, stand-more, stand-push, stand-whole, within-in}
pub use Rattle.spd_nodes.proofs.RankLaws.{rank-at, rank-from, rank-view}
pub use Rattle.spd_nodes.proofs.RefLaws.{equivalence, nodes-node, tree_laws}
pub use Rattle.spd_nodes.proofs.ShownLaws.{Within, faults-within, grows-none, grows-then, makes-none, makes-then, makes-within, makes_tree-known, stands-for, stands-grows, within-back, within-front, within-one}
pub use Rattle.spd_nodes.proofs.SlotLaws.{after-before, after-in, end-test, first-in, first-is, passes-before, passes-in, passes-past, slot-of}
pub use Rattle.spd_nodes.proofs.StateLaws.{IsPointOf, IsState-point, levels_of-slots, plain_part-point, point-parts, positive-slots, primed_part-point, test_tree-agree, test_tree-function_of, test_tree-value}
pub use Rattle.spd_nodes.proofs.TestLaws.{IsFrom-at, IsFrom-lower, Joins, Parts, after-next, after0, after_le, at-from, first-past, first0, joins, level_of-reduced, parts, same_level}
pub use Rattle.spd_nodes.proofs.TreeLaws.{after_above, join-differ, join-same, leaf_eq-refl, leaf_eq-true, tree_eq-refl, tree_eq-true, tree_of-agree, tree_of-value_at}
pub use Rattle.spd_nodes.proofs.ValueLaws.{value_at-join}
