mod Measure
mod Completeness
mod Steps
mod StepsBefore
pub mod Counted
mod HorizonLaws
mod HorizonBounds
