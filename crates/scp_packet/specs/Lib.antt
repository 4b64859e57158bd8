-- SCP packets (paper 01, "SCP"; document 000).
pub mod Packet
pub mod Transfer
pub mod Code
