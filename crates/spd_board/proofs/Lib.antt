mod Rows
pub mod Lists
pub mod Steps
pub mod WriterLaws
