pub mod Running
pub mod Rests
pub mod WhatIsLeft
pub mod HeldInRest
pub mod RulesInRest
pub mod RestPlan
pub mod Bounds
pub mod RestTimes
mod RestActions
pub mod KeptSteps
