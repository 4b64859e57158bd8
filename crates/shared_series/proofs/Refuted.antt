-- The claims are false of software with a wrong packer.
pub mod Packers  -- each wrong in one thing
pub mod Example  -- plans, and what the claims say of one
pub mod Lengths  -- packers refuted by the length of what they pack, or by what they refuse
pub mod Loads  -- packers refuted by what a load leaves
pub mod Entries  -- packers refuted by an entry
