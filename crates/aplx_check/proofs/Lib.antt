-- Laws, theorems and computed examples.
pub mod CheckEndEntry
pub mod CheckEntry
pub mod CheckExact
pub mod CheckLaws
pub mod CheckSplits
pub mod CodeInjective
pub mod CodeLaws
pub mod Examples
pub mod PartsLaws
pub mod RefusalsLaws
pub mod WrittenWhole
