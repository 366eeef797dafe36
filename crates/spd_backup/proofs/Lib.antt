mod BackLaws
mod BoundLaws
mod BridgeLaws
mod BuiltLaws
pub mod CallerLemmas
mod ExactLaws
mod FreeLaws
mod KeepingLaws
mod PartLaws
mod Rows
mod SameTreeLaws
mod StepLaws
