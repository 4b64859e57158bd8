-- The proofs of the claims.
pub mod Ends  -- how a call can end
pub mod Accepted  -- messages that are not refused
pub mod Noted  -- one word
pub mod Filled  -- the words of a block
pub mod Sound  -- every receiver from an empty one
pub mod Blocks  -- one block: the first two claims
pub mod Places  -- where the blocks of an image stand
pub mod Agrees  -- what holds as long as all messages are one image's
pub mod Steps  -- each message keeps it
pub mod Whole  -- the third claim
