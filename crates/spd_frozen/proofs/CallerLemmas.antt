-- What callers' proofs cite of frozen diagrams.
pub use Rattle.spd_frozen.proofs.FrozenLaws.{ArePositive, frozen-is, frozen-fits, frozen-leaf_at, frozen-leaves, fits-kids}
pub use Rattle.spd_frozen.proofs.ToldLaws.{numbers-told, actions-told, frozen_of-agree, entry_at-table_of, entry_at-numbers}
pub use Rattle.spd_frozen.proofs.MixedLaws.{present-from, present-list, mixed_of-agree}
