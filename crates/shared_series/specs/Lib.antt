-- What is claimed of the APLX images that keep one copy of equal put data (paper 02, C-23).
pub mod Claims
pub mod Layout
pub mod Software
