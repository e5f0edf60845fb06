pub mod Cliques
pub mod Marked
