pub mod CliqueLaws
pub mod CliqueTables
mod FillLaws
mod RemainingLaws
