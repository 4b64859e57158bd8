-- The memory map (paper 01, "Memory map").
pub mod Map
pub mod Lookup
pub mod Entry
pub mod Open
