-- The flood-fill receiver (paper 02, C-14).
pub mod Limits
pub mod Refusals
pub mod Answer
pub mod Receive
