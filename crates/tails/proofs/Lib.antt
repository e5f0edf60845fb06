pub mod TailLoops
