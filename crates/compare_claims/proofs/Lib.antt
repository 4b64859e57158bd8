-- Laws, theorems and computed examples.
pub mod Ours
pub mod Proved
pub mod Refuted
pub mod Signer
