-- The claim is false of wrong software.
pub mod Example  -- what the claim says in a small setting
