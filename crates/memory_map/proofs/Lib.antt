pub mod EntryInjective
pub mod Examples
pub mod LookupInjective
pub mod LookupLaws
pub mod MapAdded
pub mod MapInjective
pub mod MapLaws
pub mod Loops
