-- Laws, theorems and computed examples.
pub mod Examples
pub mod Ours
pub mod Proved
pub mod Refuted
