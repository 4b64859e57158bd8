-- The entries of an APLX header (paper 01, "APLX"; document 002).
pub mod Command
pub mod Code
