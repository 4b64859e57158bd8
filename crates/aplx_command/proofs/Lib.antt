-- Laws, theorems and computed examples.
pub mod CodeInjective
pub mod CommandLaws
pub mod Examples
