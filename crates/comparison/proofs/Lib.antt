-- Laws, theorems and computed examples.
pub mod CodeLaws
pub mod LinesExamples
