pub mod CallerLemmas
mod TowardZero
mod DecimalUnits
mod DecimalParts
mod DecimalValue
mod DecimalText
mod ReadBack
mod DecimalRows
mod Rows
