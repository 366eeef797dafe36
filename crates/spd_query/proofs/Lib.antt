mod Rows
pub mod WordLaws
pub mod NameLaws
pub mod PairLaws
pub mod GivenLaws
pub mod TextLaws
