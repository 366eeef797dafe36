pub mod WritingLaws
pub mod TextLaws
mod Rows
