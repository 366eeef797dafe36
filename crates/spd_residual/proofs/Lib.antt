mod ActionLaws
pub mod CallerLemmas
mod GapLaws
mod LeafLaws
mod PlaceLaws
mod ProcessLaws
mod ResultLaws
mod Rows
