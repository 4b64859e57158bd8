-- The serial ROM image of a plan (paper 01, "Plans").
pub mod Image
pub mod Open
