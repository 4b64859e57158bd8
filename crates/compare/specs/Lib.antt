-- Two plans compared (paper 02, C-18).
pub mod LastByte
pub mod Reading
pub mod Compare
pub mod Code
