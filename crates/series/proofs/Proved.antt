-- The proof of demand 3, and what follows from it.
pub mod Kept  -- what pieces leave as it was
pub mod Preserved  -- the image stays intact
pub mod BlockLoad  -- SROM: one load
pub mod Entries  -- APLX: the walk over a stretch
pub mod Commands  -- the effect of a stretch
pub mod EntryLoad  -- one load
pub mod Theorem  -- every series of loads, both media
pub mod Corollaries
