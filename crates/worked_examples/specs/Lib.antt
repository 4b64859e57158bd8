-- The worked examples that the paper weighs, as one table (paper 01, "Bench pieces with known weight").
pub mod Setting
pub mod Table
