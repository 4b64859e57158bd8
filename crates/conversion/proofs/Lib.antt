-- Laws, theorems and computed examples.
pub mod ConversionLaws
pub mod Examples
pub mod RestoredLaws
pub mod ShownLaws
