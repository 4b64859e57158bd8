-- Laws, theorems and computed examples.
pub mod CopyLaws
pub mod Examples
