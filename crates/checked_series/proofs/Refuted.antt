-- The claims are false of wrong checkers and wrong loaders.
pub mod Checkers  -- each wrong in one thing
pub mod Example  -- what the claims say of a checker, and of one load
pub mod Loads  -- checkers refuted by what a load of an accepted image leaves
pub mod Rules  -- checkers refuted by the rules alone
pub mod Loaders  -- loaders
pub mod TwoRegions  -- why nothing is claimed of a stretch that is not permitted
