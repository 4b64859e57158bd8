-- Laws, theorems and computed examples.
pub mod BytesLaws
pub mod BytesPadded
pub mod ChoiceLaws
pub mod EqualLaws
pub mod FourLaws
pub mod RangeLaws
pub mod RoundLaws
pub mod StdLaws
pub mod StoreGrowing
pub mod StoreLaws
