-- The APLX image of a plan that keeps one copy of equal put data (paper 02, C-23).
pub mod Contents
pub mod SharedImage
pub mod Collected
pub mod Open
