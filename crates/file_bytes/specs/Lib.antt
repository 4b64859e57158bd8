-- The first bytes of a file or of standard input, at a buffer's front.
pub mod Counts
