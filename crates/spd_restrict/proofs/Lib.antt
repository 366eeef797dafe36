pub mod CallerLemmas
pub mod BranchLaws
pub mod ChosenLaws
pub mod CofactorLaws
pub mod FixedLaws
pub mod PlainLaws
pub mod PrimedLaws
pub mod ReplacedLaws
mod Rows
