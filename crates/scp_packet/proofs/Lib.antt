-- Laws, theorems and computed examples.
pub mod CodeInjective
pub mod Examples
pub mod TransferLaws
