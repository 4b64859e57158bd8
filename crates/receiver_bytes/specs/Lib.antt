-- A flood-fill receiver as bytes that the caller lends.
pub mod Receiver
pub mod Series
