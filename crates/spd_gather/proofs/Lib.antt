pub mod CallerLemmas
pub mod RowLaws
mod SplitLaws
pub mod PlaceLaws
pub mod ListSteps
pub mod DownLaws
pub mod MeetLaws
pub mod LowLaws
