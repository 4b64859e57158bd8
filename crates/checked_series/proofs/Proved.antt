-- The proof of the claims.
pub mod Parts  -- the parts of one piece
pub mod Effect  -- what they do together
pub mod Stretch  -- the parts of a list of pieces
pub mod Theorem  -- every series of loads
pub mod Packed  -- the image that our packer gives
