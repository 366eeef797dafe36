-- For crates above: the numbers of a value; what tables hold at first, and after other calls; that a forest that grows, or shows the same
-- trees, shows the same parts; and that what a process was built into fits a forest over its variables.
pub use Rattle.spd_backup.proofs.BackLaws.{own-numbers}
pub use Rattle.spd_backup.proofs.BuiltLaws.{built-rewards-fit, built-weights-fit}
pub use Rattle.spd_backup.proofs.KeepingLaws.{all-grow}
pub use Rattle.spd_backup.proofs.PartLaws.{thawed-grows}
pub use Rattle.spd_backup.proofs.SameTreeLaws.{all-keep, bare, bare-grows, grows-keeps, stands-keeps, thawed-keeps}
