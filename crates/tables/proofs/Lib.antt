mod FillLaws
pub mod Describing
