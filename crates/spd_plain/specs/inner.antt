pub mod Bounds
pub mod Axes
pub mod Reach
pub mod Chances
pub mod Faults
pub mod Outlooks
pub mod Expectations
pub mod Sweeps
