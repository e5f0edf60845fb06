mod Handing
pub mod Meaning
pub mod FewSteps
