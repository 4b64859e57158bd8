-- A map as a table of bytes that the caller lends.
pub mod Table
pub mod Open
