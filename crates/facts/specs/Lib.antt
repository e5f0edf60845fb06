pub mod FactSet
pub mod Members
