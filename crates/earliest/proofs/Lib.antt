mod Latest
mod Entries
mod FactsLeft
pub mod SetTimes
mod ChoiceLaws
mod Longer
mod Swept
mod Lowers
mod Unreachable
mod AllowedActions
mod JobSweep
pub mod WithExtra
mod AnswerLaws
pub mod FirmAnswers
mod LoweringLaws
mod Loops
mod StartLaws
mod Members
