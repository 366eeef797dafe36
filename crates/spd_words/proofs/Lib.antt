pub mod CallerLemmas
mod Digits
mod Judged
mod Limits
mod Operands
mod Sizes
mod Rows
