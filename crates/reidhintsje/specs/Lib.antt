-- The library for C and Rust: what each call gives.
pub mod Calls
