pub mod CodeLaws
pub mod Examples
pub mod ImageCarried
pub mod ImageEntry
pub mod ImageLaws
pub mod Packing
