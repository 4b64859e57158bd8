pub mod AnswerLaws
pub mod CodeInjective
pub mod Examples
pub mod ReplyLaws
pub mod Replies
pub mod Transfers
