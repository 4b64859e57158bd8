-- Demand 3 is false of wrong software (paper 01, "Signing rule" and "Slips seen on this bench"): a small setting, and each wrong part.
pub mod Example  -- a map, memory, and one load
pub mod Plans
pub mod Loads  -- wrong loaders, by one load
pub mod Packers  -- wrong packers, by one load
pub mod Twice  -- two loads, with called code between them
pub mod Later  -- loaders that are wrong in a later load
