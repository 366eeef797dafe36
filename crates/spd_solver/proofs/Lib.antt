pub mod SolvingLaws
pub mod StopLaws
pub mod BuildLaws
mod StateTexts
pub mod TableLaws
pub mod Causes
pub mod RunLaws
pub mod RingLaws
pub mod CheckCauses
pub mod CheckLaws
pub mod VerdictLaws
mod Writing
