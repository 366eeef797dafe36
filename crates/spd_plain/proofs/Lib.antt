mod RangeOrder
mod GroupSweep
mod LookUp
pub mod Sums
pub mod Weights
pub mod Tables
pub mod TableValues
pub mod Steps
pub mod Known
pub mod Rows
pub mod OwnSums
pub mod FirstFaults
pub mod SweepLaws
pub mod Runs
pub mod Shapes
pub mod Told
mod FaultCauses
mod LimitRows
mod RangeRows
pub mod BitTests
pub mod Products
pub mod ReturnFits
