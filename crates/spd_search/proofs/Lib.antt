mod Rows
pub mod TurnLaws
pub mod Firsts
pub mod SeekLaws
pub mod WalkLaws
pub mod FoundLaws
pub mod PlaceLaws
pub mod BarrenLaws
pub mod CallerLemmas
