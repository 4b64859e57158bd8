-- A plan packed as an image, and an image as its plan, as bytes to be written to a file.
pub mod Shown
pub mod Conversion
pub mod Restored
