-- Laws, theorems and computed examples.
pub mod Examples
pub mod TableLaws
pub mod TablePut
pub mod TableWritten
