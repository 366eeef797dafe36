-- For crates above: what was found, as the first entry of a list by states, and what it says of the function; and one that is found again.
pub use Rattle.spd_search.proofs.Firsts.{option_or-same}
pub use Rattle.spd_search.proofs.PlaceLaws.{IsFound, found-by-rest, found-by-state, found-is, found-none, found-state}
