-- For crates above: a tree at one value of a slot, halves of trees, whole trees at a slot, and writes to a point.
pub use Rattle.spd_restrict.proofs.CofactorLaws.{Good, RootFrom, good-cofactored, root-at, root-from, value_at-cofactored}
pub use Rattle.spd_restrict.proofs.FixedLaws.{set-primed}
pub use Rattle.spd_restrict.proofs.ReplacedLaws.{fits-next, itself-join, value-no, value-yes, whole-at, whole-from}
