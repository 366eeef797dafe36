pub mod CallerLemmas
pub mod KeptLaws
pub mod NewestLaws
pub mod ValidLaws
