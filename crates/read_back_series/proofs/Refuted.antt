-- The claims, and exactness, are false of wrong readers.
pub mod Readers  -- each wrong in one thing
pub mod Example  -- an image, and what the claims say of one load
pub mod Loads  -- refuted by what a load of the image leaves
pub mod Further  -- by a load from the 65th entry
pub mod Packings  -- by packing what was read back
pub mod Lengths  -- by the pieces alone: not exact
