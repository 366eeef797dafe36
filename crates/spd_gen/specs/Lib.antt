pub mod Ring
pub mod Process
pub mod inner
