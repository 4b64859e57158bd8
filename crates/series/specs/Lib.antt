-- Series of loads of a packed image, and demand 3 (paper 01, "Plans").
pub mod Series
pub mod Medium
pub mod Software
pub mod Demand
pub mod Resume
