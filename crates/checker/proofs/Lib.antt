pub mod Loops
pub mod PlanBytes
mod ShareLaws
pub mod WatchLaws
mod ChainLaws
pub mod StepLaws
mod PlanLaws
pub mod PeakLaws
