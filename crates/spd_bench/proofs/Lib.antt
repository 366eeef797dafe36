pub mod CountLaws
pub mod KnownLaws
pub mod TwoLaws
