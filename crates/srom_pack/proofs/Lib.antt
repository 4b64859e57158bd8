pub mod Examples
pub mod ImageLaws
pub mod Packing
pub mod Writing
