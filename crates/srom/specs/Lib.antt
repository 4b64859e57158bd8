-- The serial ROM loader (paper 01, "Serial ROM"; document 004).
pub mod Walk
pub mod Load
pub mod Code
pub mod Open
