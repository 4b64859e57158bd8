-- Laws, theorems and computed examples.
pub mod CarriesLaws
pub mod Examples
