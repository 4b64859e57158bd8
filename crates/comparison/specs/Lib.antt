-- The comparison of two plans as text (paper 02, C-18).
pub mod Lines
pub mod Code
