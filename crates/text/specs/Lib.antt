-- Text that programs write.
pub mod Digits
pub mod Decimal
pub mod Hex
pub mod Refusal
