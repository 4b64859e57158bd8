-- The copy rule (paper 01, "APLX").
pub mod Copy
pub mod Open
