pub mod Parts
pub mod Numbers
pub mod Pieces
pub mod Overwrite
pub mod ReadLoop
pub mod WriteLoop
