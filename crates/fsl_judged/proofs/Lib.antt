pub mod JudgedCells
pub mod JudgedFences
pub mod JudgedMessages
pub mod JudgedUpdates
pub mod Quick
