-- Laws, theorems and computed examples.
pub mod CodeAnswers
pub mod CodeBlockLaws
pub mod CodeInjective
pub mod CodeLaws
pub mod CompareExamples
pub mod CompareLaws
pub mod CompareOutput
pub mod CompareSmall
pub mod LastByteExact
pub mod LastByteMeaning
pub mod ListedLaws
pub mod ReadingBytes
pub mod ReadingLaws
pub mod WordsLaws
