-- For crates above: the bounds of a process, their best, the place of a number in a list, and what tables of choosing go on to hold.
pub use Rattle.spd_policy.proofs.AgreeLaws.{bounds-numeric, bounds-of, makes-policy}
pub use Rattle.spd_policy.proofs.BestLaws.{best-grow}
pub use Rattle.spd_policy.proofs.PlaceLaws.{place-found}
