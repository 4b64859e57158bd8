-- Bytes, words, stores and ranges: definitions. Their laws stand in proofs/.
pub mod Choice
pub mod Bytes
pub mod Equal
pub mod Store
pub mod Four
pub mod Round
pub mod Range
pub mod Open
