-- Plans: the format, its reader, and what a plan means (paper 01, "Plans").
pub mod Plan
pub mod Packable
pub mod Meaning
pub mod Packed
pub mod Code
pub mod Open
