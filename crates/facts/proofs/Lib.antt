mod Digits
pub mod Membership
pub mod Lowest
pub mod SetLaws
