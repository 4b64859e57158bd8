-- What a load answers (paper 01, "Refusal numbers" and "Memory map", last paragraph).
pub mod Refusal
pub mod Outcome
pub mod Destinations
