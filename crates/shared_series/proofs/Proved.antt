-- The proof of the claims.
pub mod Places  -- where the data of the puts lies
pub mod Layout  -- every byte of the image
pub mod Theorem  -- each claim
