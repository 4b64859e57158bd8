-- An image that is read back as a plan, and what paper 02 (C-11) claims of it.
pub mod Claims
pub mod Exact
