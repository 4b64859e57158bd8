-- The SCP answerer (paper 01, "SCP"; document 000).
pub mod Reply
pub mod Answer
pub mod Code
pub mod Open
