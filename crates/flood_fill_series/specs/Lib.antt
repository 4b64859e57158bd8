-- Series of messages to a flood-fill receiver, and what paper 02 (C-14) says of them.
pub mod Claims
