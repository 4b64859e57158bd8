-- The APLX loader (paper 01, "APLX"; document 002).
pub mod Load
pub mod Open
