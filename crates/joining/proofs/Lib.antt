pub mod Associates
pub mod LaterSteps
pub mod JoinedShape
pub mod JoinedPeaks
mod JoinedDay
mod LentPart
mod WritingLater
mod Telling
mod WaysOut
mod CheckedPlans
pub mod JoinCalls
pub mod Meaning
pub mod FewSteps
