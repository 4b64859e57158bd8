-- An APLX image read back as a plan (paper 02, C-11).
pub mod PlanBytes
pub mod ReadBack
pub mod Code
pub mod Open
