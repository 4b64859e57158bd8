-- One region of memory (paper 01, "Memory map").
pub mod Region
