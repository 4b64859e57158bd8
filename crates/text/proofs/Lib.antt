-- Laws, theorems and computed examples.
pub mod DecimalLaws
pub mod DigitsLaws
pub mod HexExamples
pub mod RefusalExamples
pub mod RefusalLaws
