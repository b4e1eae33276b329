pub mod PieceSteps
pub mod KeptSteps
pub mod ReplySteps
pub mod FoundByPieces
