pub mod Bools
pub mod Tabulate
pub mod Any
pub mod Inside
pub mod Below
pub mod Answers
