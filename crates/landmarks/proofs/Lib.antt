pub mod Ranges
pub mod AddedOnTheWay
pub mod Sums
mod PoolMinutes
pub mod DeadEnds
pub mod TableLaws
pub mod ShareLaws
pub mod TimeBounds
pub mod AddedByNew
pub mod OpeningLaws
pub mod KeptTables
