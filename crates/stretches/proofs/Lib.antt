-- Laws, theorems and computed examples.
pub mod StretchesExact
pub mod StretchesExamples
pub mod StretchesExchanged
pub mod StretchesLaws
pub mod StretchesRecordsLaws
pub mod StretchesUnique
pub mod StretchesWordsLaws
