-- Words in a row: one repeated, and words with their bytes the other way round.
pub mod Repeat
pub mod Swap
pub mod Open
