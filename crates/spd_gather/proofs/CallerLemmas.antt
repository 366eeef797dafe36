-- For crates above: lists of trees, what is made of them, and what a table holds.
pub use Rattle.spd_gather.proofs.DownLaws.{down-is, down-same, down-whole, each-both, each-map, each-weaker, fits-of, fits-stands, from-start, good, half-none, halves, leaves-end, no-stands, stands-half, value_at-down, value_at-each, values_at, yes-stands}
pub use Rattle.spd_gather.proofs.LowLaws.{all-of, each-of, leaf-before, reduced-all}
pub use Rattle.spd_gather.proofs.MeetLaws.{Found, meet-lowest, meets, one-found, one-rank, rank-lowest}
pub use Rattle.spd_gather.proofs.RowLaws.{known-stay, rows-grow, trees-stay}
