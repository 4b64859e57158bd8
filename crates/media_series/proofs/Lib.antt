-- Laws, theorems and computed examples.
pub mod ClaimsLaws
pub mod Ours
pub mod Proved
pub mod Refuted
