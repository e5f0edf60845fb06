mod ByPlace
mod AcceptedPlan
mod WaysOut
pub mod Meaning
