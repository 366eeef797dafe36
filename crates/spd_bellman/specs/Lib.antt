pub mod Courses
pub mod Certificate
pub mod Bound
pub mod TurnBound
