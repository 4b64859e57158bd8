-- Whether another firm's APLX image follows a plan (paper 02, C-20).
pub mod Parts
pub mod Written
pub mod Check
pub mod Refusals
pub mod Code
pub mod Open
