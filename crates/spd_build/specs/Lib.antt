pub mod Functions
pub mod Fitting
pub mod Built
pub mod Building
pub mod Tables
pub mod Ranges
pub mod Drawn
