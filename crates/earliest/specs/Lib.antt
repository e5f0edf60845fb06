pub mod Numbers
pub mod Lowering
pub mod Start
pub mod Sweep
pub mod Extra
pub mod Answer
