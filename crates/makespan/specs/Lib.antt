pub mod Makespan
