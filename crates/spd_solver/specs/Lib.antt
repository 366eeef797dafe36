pub mod Command
pub mod Message
pub mod Run
pub mod Kind
pub mod Solve
pub mod Check
pub mod Ring
pub mod inner
