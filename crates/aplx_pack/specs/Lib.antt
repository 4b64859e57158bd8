-- The APLX image of a plan (paper 01, "Plans").
pub mod Image
pub mod Code
pub mod Open
