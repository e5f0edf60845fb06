pub mod FileLaws
pub mod Solving
pub mod RestLaws
pub mod TaskLaws
pub mod TaskDays
