-- For crates above: what tables of sums and of discounts hold at first, and after other calls; states with another value; and what a layout tells of the levels.
pub use Rattle.spd_weigh.proofs.DiscountLaws.{discounts-grow, discounts-none}
pub use Rattle.spd_weigh.proofs.TopLaws.{levels-from, set-state, sums-grow, sums-none}
