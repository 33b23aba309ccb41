-- Operations of the guests, on either side, and the writes that waited in a queue.
pub mod Operating
pub mod AtSource
pub mod AtDest
pub mod ReleaseAtSource
pub mod OperationSteps
pub mod OperationAnswers
pub mod OperationWaits
pub mod Turns
pub mod ReleaseTurns
