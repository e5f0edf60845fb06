pub mod Tests
pub mod Missing
pub mod Carried
