-- Laws, theorems and computed examples.
pub mod DestinationsLaws
pub mod Examples
pub mod OutcomeInjective
pub mod OutcomeLaws
