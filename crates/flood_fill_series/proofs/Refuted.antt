-- The claims are false of wrong receivers.
pub mod Receivers  -- each wrong in one thing
pub mod Example  -- small images and their messages
pub mod Orders  -- claim 1 is false where data of any block are kept, or a repeated word is unmarked
pub mod Completions  -- claim 2, where words are kept in order only, the full size is awaited, or nothing is stored
pub mod Passes  -- claim 3, where old marks or done blocks are kept, a block is done too early, stored at its own size, or stored full
