pub mod Looks
pub mod AmountLaws
pub mod Chosen
pub mod Events
mod BarredActions
mod BesideLaws
pub mod StateLaws
pub mod CandidateLaws
