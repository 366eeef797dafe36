pub mod CallerLemmas
mod AgreeLaws
mod AlikeLaws
mod BestLaws
mod LeafLaws
mod ListLaws
mod PlaceLaws
mod Rows
mod SplitLaws
