pub mod CodeInjective
pub mod Examples
pub mod LoadLaws
pub mod WalkItems
pub mod WalkLaws
pub mod Loops
