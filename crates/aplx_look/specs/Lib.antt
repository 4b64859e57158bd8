-- What an APLX load answers (paper 01, "APLX"; document 002).
pub mod Walk
pub mod Look
pub mod Code
pub mod Open
