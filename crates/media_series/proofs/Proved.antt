-- The proof of the claims.
pub mod Stretch  -- one stretch on two memories that are equal outside the image
pub mod Theorem  -- every series, for any software of which demand 3 holds
