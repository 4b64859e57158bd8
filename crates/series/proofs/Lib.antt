-- Laws, theorems and computed examples.
pub mod Examples
pub mod Proved
pub mod Refuted
pub mod SeriesLaws
