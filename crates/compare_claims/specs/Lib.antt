-- What is claimed of two plans that are compared (paper 02, C-18).
pub mod Claims
pub mod Refusals
