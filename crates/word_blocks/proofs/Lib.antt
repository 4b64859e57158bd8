-- Laws, theorems and computed examples.
pub mod RepeatLaws
pub mod SwapLaws
