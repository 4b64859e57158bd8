pub mod CodeInjective
pub mod Examples
pub mod Looking
pub mod WalkLaws
pub mod LookHeader
pub mod LookLaws
