mod LaterSteps
mod JoinedFacts
mod Afternoons
mod Answering
mod JoinedKeeps
mod JoinedHalves
mod PlannedHalves
mod AfternoonTask
mod FromJoin
mod FirstPlans
mod WaysOut
mod HalfwayTask
mod SecondHalf
mod Planning
pub mod Meaning
pub mod Shown
pub mod FewSteps
