pub mod Board
pub mod Ends
pub mod inner
