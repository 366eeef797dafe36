-- What callers' proofs cite of the definitions: lists and sums, the exit of a `?`, the order of the states, tables, trees, what is first, validity,
-- chances, bounded values, the residual, and ranges.
pub mod Lists
pub mod Results
pub mod Sums
pub mod Finds
pub mod Greatest
pub mod StateOrder
pub mod Trees
pub mod TreeValues
pub mod Validity
pub mod Chances
pub mod Bounded
pub mod Gaps
pub mod Ranges
pub mod Diagrams
