pub mod Down
pub mod Lists
pub mod Meeting
pub mod Rows
