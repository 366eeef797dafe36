pub mod CallerLemmas
pub mod EarlyLaws
pub mod NumberLaws
pub mod PlanLaws
pub mod RuleLaws
pub mod SlotLaws
pub mod TopLaws
pub mod DiscountLaws
mod Rows
pub mod ShortLaws
