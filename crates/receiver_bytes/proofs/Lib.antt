-- Laws, theorems and computed examples.
pub mod Examples
pub mod ReceiverCases
pub mod ReceiverFlag
pub mod ReceiverFlags
pub mod ReceiverMessages
pub mod ReceiverLaws
pub mod ReceiverParts
pub mod ReceiverWords
pub mod ReceiverWritten
pub mod Series
