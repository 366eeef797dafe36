mod AttemptLaws
mod BackupLaws
mod BoundLaws
pub mod CallerLemmas
mod CountLaws
mod FinishLaws
pub mod JobLaws
mod PlainLaws
mod Rows
mod RunLaws
pub mod SplitLaws
mod ThawLaws
mod StopLaws
mod TurnLaws
pub mod WaveLaws
