pub mod CallerLemmas
mod NamesLemmas
mod DirectionLemmas
mod ShelfLemmas
mod MemoryPlaceLemmas
mod Rows
