pub mod Words
pub mod Numbers
pub mod Positions
pub mod Grammar
pub mod Files
pub mod Reading
pub mod Fronts
