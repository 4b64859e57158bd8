pub mod Examples
pub mod LoadKept
pub mod Storing
pub mod LoadLaws
