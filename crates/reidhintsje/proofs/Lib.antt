-- Laws, theorems and computed examples.
pub mod CallsLaws
pub mod Examples
