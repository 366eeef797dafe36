pub mod CallerLemmas
mod Walks
mod Steps
mod Pairs
mod Rows
mod RowsMany
