-- One plan, loaded from either medium (paper 02, C-24).
pub mod Claims
